-- Records without quotes that go into the columns where they stand.
use Rattle.std.specs.Prelude.{◌==◌, Some, slice_get, slice_index}
use Rattle.std.proofs.Common.{◌≡◌, ℕ, zero, suc, ◌+◌, ◌-◌, ◌≤◌, ◌<◌, true, false, List, [], ◌∷◌, ◌++◌, length, take, drop, set, refl, arith, ap, sym, subst, ◌∙◌, append_assoc, append-nil, length-append, length-set}
use Rattle.std.proofs.lemmas.Bool.{eqb-true}
use Rattle.std.proofs.lemmas.Option.{slice_get_within}
use Rattle.std.proofs.lemmas.List.{drop_more, drop_all}
use Rattle.csv.specs.Machine.{after_end, next_record}
use Rattle.csv.specs.Reading.{default_config, strip_bom}
use Rattle.csv.specs.declared.parser.State.TheVariants as st
use Rattle.csv.specs.declared.parser.Terminator.TheVariants as term
use Rattle.arrow_schema.specs.Column.{Column}
use Rattle.cells.specs.Cell.{Cell}
use Rattle.text_import.specs.Records.{records_of}
use Rattle.text_import.specs.FieldForm.{PlainFieldForm}
use Rattle.text_import.specs.Stands.{Left}
use Rattle.text_import.specs.laws.Left.{left_first, left_none, left_some}
use Rattle.text_columns.specs.declared.builder.ColumnBuilder.{ColumnBuilder}
use Rattle.text_columns.specs.declared.plain.PlainRow.{PlainRow}
use Rattle.text_columns.specs.inner.Kept.{KeepAll, KeepsField, KeepsFields}
use Rattle.text_columns.specs.inner.Plain.{IsFieldAt, PushesPlain, SkipsEnds, SkipsHeader, begins_quoted, begins_with, ends_field, ends_line}
use Rattle.text_columns.proofs.PlainRecords.{after_line, before_comma, before_end, before_line, begins_line, left_fresh, left_passed, left_skipped, starts_record}
use Rattle.text_columns.proofs.PlainText.{parted}
use Rattle.text_columns.proofs.Rows.{Half, half_all, half_more, half_none}

at_place : {X : Type 0} (xs ys : List X) (x : X) (i : ℕ) → length xs ≡ i → slice_get (xs ++ x ∷ ys) i ≡ Some x
at_place [] ys x zero e = refl
at_place [] ys x (suc i) e = absurd (omega arith)
at_place (z ∷ xs) ys x zero e = absurd (omega arith)
at_place (z ∷ xs) ys x (suc i) e = at_place xs ys x i (omega arith)

quoted_front : (f rest : List ℕ) → begins_quoted (f ++ rest) ≡ false → begins_quoted f ≡ false
quoted_front [] rest h = refl
quoted_front (c ∷ f) rest h = h

-- the first fields of a record were read up to a place, and have come after the rows
pub record Begun (text : List ℕ) (form : PlainFieldForm) (from at i weight : ℕ) (old bs : List ColumnBuilder) : Type 0 where
  pub fields : List (List ℕ)
  pub len : length fields ≡ i
  pub within : at ≤ length text
  pub read : next_record default_config st.StartField [] [] (drop from text) ≡ next_record default_config st.StartField fields [] (drop at text)
  pub half : (cs : List Column) (rows : List (List Cell)) → KeepAll cs rows old → (more : List (List ℕ)) → Half cs form (fields ++ more) rows i weight bs

pub begun_none : (text : List ℕ) (form : PlainFieldForm) (from : ℕ) (bs : List ColumnBuilder) → from ≤ length text → Begun text form from from 0 1 bs bs
begun_none text form from bs le = record { fields = []; len = refl; within = le; read = refl; half = λ cs rows keeps more. half_none cs form more rows bs keeps }

module _ (text : List ℕ) (form : PlainFieldForm) (from at end i weight more : ℕ) (old bs : List ColumnBuilder) (b new : ColumnBuilder) (h : Begun text form from at i weight old bs) (field : IsFieldAt text at end)
    (quoted : begins_quoted (drop at text) ≡ false) (here : slice_get bs i ≡ Some b) (keeps : KeepsField form (take (end - at) (drop at text)) more b new) where
  split : drop at text ≡ take (end - at) (drop at text) ++ drop end text
  split = parted text at end field.low

  unquoted : begins_quoted (take (end - at) (drop at text)) ≡ false
  unquoted = quoted_front (take (end - at) (drop at text)) (drop end text) (subst (λ (xs : List ℕ). begins_quoted xs ≡ false) split quoted)

  halves : (cs : List Column) (rows : List (List Cell)) → KeepAll cs rows old → (others : List (List ℕ)) → Half cs form ((h.fields ++ take (end - at) (drop at text) ∷ []) ++ others) rows (i + 1) (weight + more) (set bs i new)
  halves cs rows keep others =
      let t : List ℕ = take (end - at) (drop at text) in
      let same : (h.fields ++ t ∷ []) ++ others ≡ h.fields ++ t ∷ others = append_assoc h.fields (t ∷ []) others in
      subst (λ (ts : List (List ℕ)). Half cs form ts rows (i + 1) (weight + more) (set bs i new)) (sym same)
      (half_more cs form (h.fields ++ t ∷ others) rows i weight more bs b new t here (at_place h.fields others t i h.len) keeps (h.half cs rows keep (t ∷ others)))

  longer : length (h.fields ++ take (end - at) (drop at text) ∷ []) ≡ i + 1
  longer = length-append h.fields (take (end - at) (drop at text) ∷ []) ∙ ap (λ (n : ℕ). n + 1) h.len

  -- a comma, and another field
  pub begun_more : begins_with 44 (drop end text) ≡ true → Begun text form from (end + 1) (i + 1) (weight + more) old (set bs i new)
  begun_more comma =
      let t : List ℕ = take (end - at) (drop at text) in
      let inside : end < length text = comma_inside text end comma field.high in
      let rest : drop end text ≡ 44 ∷ drop (end + 1) text = comma_rest text end inside comma in
      record {
        fields = h.fields ++ t ∷ [];
        len = longer;
        within = omega (arith, inside);
        read = h.read
            ∙ ap (next_record default_config st.StartField h.fields []) (split ∙ ap (λ (xs : List ℕ). t ++ xs) rest)
            ∙ before_comma h.fields t (drop (end + 1) text) field.plain unquoted;
        half = halves;
      }
    where
      comma_inside : (text : List ℕ) (end : ℕ) → begins_with 44 (drop end text) ≡ true → end ≤ length text → end < length text
      comma_inside [] zero c le = absurd cc
      comma_inside [] (suc end) c le = absurd (omega arith)
      comma_inside (x ∷ text) zero c le = omega arith
      comma_inside (x ∷ text) (suc end) c le = (let less = comma_inside text end c (omega arith) in omega arith)

      comma_rest : (text : List ℕ) (end : ℕ) → end < length text → begins_with 44 (drop end text) ≡ true → drop end text ≡ 44 ∷ drop (end + 1) text
      comma_rest text end lt c =
          let byte = drop_more text end 0 lt in
          let is : slice_index text end ≡ 44 = eqb-true _ _ (rw byte at c) in
          byte ∙ ap (λ (x : ℕ). x ∷ drop (end + 1) text) is

  kept : (w : ℕ) → weight + more ≡ w → length bs ≤ i + 1 → length bs ≡ length old → (length (h.fields ++ take (end - at) (drop at text) ∷ []) ≡ length old) × KeepsFields form (h.fields ++ take (end - at) (drop at text) ∷ []) w old (set bs i new)
  kept w weighs last count =
      let inside : i < length bs = slice_get_within bs i b here in (
        omega (arith, longer, inside, last, count),
        λ cs rows keep.
            let ts : List (List ℕ) = h.fields ++ take (end - at) (drop at text) ∷ [] in
            let half = halves cs rows keep [] in
            let whole : Half cs form ts rows (i + 1) w (set bs i new) =
            subst (λ (n : ℕ). Half cs form ts rows (i + 1) n (set bs i new)) weighs (subst (λ (xs : List (List ℕ)). Half cs form xs rows (i + 1) (weight + more) (set bs i new)) (append-nil ts) half) in
            half_all cs form ts rows (i + 1) w (set bs i new) (omega (arith, length-set bs i new, last)) whole,
      )

  read_to : (rest : List ℕ) → drop end text ≡ rest → next_record default_config st.StartField [] [] (drop from text) ≡ next_record default_config st.StartField h.fields [] (take (end - at) (drop at text) ++ rest)
  read_to rest is = h.read ∙ ap (next_record default_config st.StartField h.fields []) (split ∙ ap (λ (xs : List ℕ). take (end - at) (drop at text) ++ xs) is)

  line_there : (e : ℕ) (rest : List ℕ) → drop end text ≡ e ∷ rest → begins_with 44 (drop end text) ≡ false → ends_line e ≡ true
  line_there e rest is other =
      let inside : end < length text = there text end e rest is in
      let byte = drop_more text end 0 inside in
      let same : slice_index text end ≡ e = cc in
      let stop : ends_field e ≡ true = subst (λ (x : ℕ). ends_field x ≡ true) same (field.stops inside) in
      let comma : (e == 44) ≡ false = rw is at other in
      rw comma at stop
    where
      there : (text : List ℕ) (end e : ℕ) (rest : List ℕ) → drop end text ≡ e ∷ rest → end < length text
      there [] zero e rest is = absurd cc
      there [] (suc end) e rest is = absurd cc
      there (x ∷ text) zero e rest is = omega arith
      there (x ∷ text) (suc end) e rest is = (let less = there text end e rest is in omega arith)

  -- the end of a line or of the text
  pub ended : (row : PlainRow) → begins_with 44 (drop end text) ≡ false → weight + more ≡ row.weight → length bs ≤ i + 1 → length bs ≡ length old → row.next ≤ length text → drop row.next text ≡ drop 1 (drop end text)
      → PushesPlain text form from row old (set bs i new)
  ended row other weighs last count within next = by (drop end text) refl
    where
      by : (rest : List ℕ) → drop end text ≡ rest → PushesPlain text form from row old (set bs i new)
      by [] is = record {
        fields = h.fields ++ take (end - at) (drop at text) ∷ [];
        state = st.StartRecord;
        read = read_to [] is
            ∙ before_end h.fields (take (end - at) (drop at text)) field.plain unquoted
            ∙ ap (λ (xs : List ℕ). Some (h.fields ++ take (end - at) (drop at text) ∷ [], st.StartRecord, xs)) (sym (next ∙ ap (drop 1) is));
        fresh = λ xs. refl;
        within = within;
        keeps = kept row.weight weighs last count;
      }
      by (e ∷ rest) is = record {
        fields = h.fields ++ take (end - at) (drop at text) ∷ [];
        state = after_end term.CRLF e;
        read = read_to (e ∷ rest) is
            ∙ before_line h.fields (take (end - at) (drop at text)) rest e field.plain unquoted (line_there e rest is other)
            ∙ ap (λ (xs : List ℕ). Some (h.fields ++ take (end - at) (drop at text) ∷ [], after_end term.CRLF e, xs)) (sym (next ∙ ap (drop 1) is));
        fresh = after_line e;
        within = within;
        keeps = kept row.weight weighs last count;
      }

-- ---- records one after another

-- the records that stand in the text from a place on
abbrev pub InText : List ℕ → ℕ → List (List (List ℕ)) → Type 0
InText text at left = Left left st.StartRecord (drop at text)

pub ends_passed : (text : List ℕ) (at next : ℕ) (left : List (List (List ℕ))) → SkipsEnds text at next → InText text at left → InText text next left
ends_passed text at next left skips stands =
    left_skipped left (take (next - at) (drop at text)) (drop next text) skips.ends (subst (λ (xs : List ℕ). Left left st.StartRecord xs) (parted text at next skips.low) stands)

nothing : (left : List (List (List ℕ))) → Left left st.StartRecord [] → left ≡ []
unfolding next_record
nothing left stands = left_none left st.StartRecord [] stands refl

pub text_ended : (text : List ℕ) (at : ℕ) (left : List (List (List ℕ))) → at ≡ length text → InText text at left → left ≡ []
text_ended text at left end stands = nothing left (subst (λ (xs : List ℕ). Left left st.StartRecord xs) (drop_all at text (omega (arith, end))) stands)

pub next_stands : (text : List ℕ) (form : PlainFieldForm) (at : ℕ) (row : PlainRow) (old new : List ColumnBuilder) (left : List (List (List ℕ))) (p : PushesPlain text form at row old new) → at < length text
    → ends_line (slice_index text at) ≡ false → InText text at left → (others : List (List (List ℕ))) × (left ≡ p.fields ∷ others) × InText text row.next others
next_stands text form at row old new left p lt quiet stands =
    let byte = drop_more text at 0 lt in
    let starts : next_record default_config st.StartRecord [] [] (drop at text) ≡ next_record default_config st.StartField [] [] (drop at text) =
    ap (next_record default_config st.StartRecord [] []) byte ∙ starts_record (slice_index text at) (drop (at + 1) text) quiet ∙ ap (next_record default_config st.StartField [] []) (sym byte) in
    let (others, whole, more) = left_some left st.StartRecord (drop at text) (p.fields, p.state, drop row.next text) stands (starts ∙ p.read) in
    (others, whole, left_fresh others p.state (drop row.next text) p.fresh more)

pub header_passed : (text : List ℕ) (mark at from : ℕ) (header : List (List ℕ)) (records : List (List (List ℕ))) → drop mark text ≡ strip_bom text → SkipsEnds text mark at → SkipsHeader text at from
    → records_of text ≡ header ∷ records → InText text from records
header_passed text mark at from header records marked skips passes is =
    let first : InText text mark (header ∷ records) = subst (λ (xs : List ℕ). Left (header ∷ records) st.StartRecord xs) (sym marked) (subst (λ (rs : List (List (List ℕ))). Left rs st.StartRecord (strip_bom text)) is (left_first text)) in
    let start = ends_passed text mark at (header ∷ records) skips first in
    let byte = drop_more text passes.last 0 passes.high in
    let whole : drop at text ≡ take (passes.last - at) (drop at text) ++ slice_index text passes.last ∷ drop (passes.last + 1) text = parted text at passes.last passes.low ∙ ap (λ (xs : List ℕ). take (passes.last - at) (drop at text) ++ xs) byte in
    let inside : at < length text = omega (arith, passes.low, passes.high) in
    let quiet : begins_line (drop at text) ≡ false = ap begins_line (drop_more text at 0 inside) ∙ skips.stops inside in
    let left = left_passed header records (take (passes.last - at) (drop at text)) (drop (passes.last + 1) text) (slice_index text passes.last) passes.plain passes.stops (ap begins_line (sym whole) ∙ quiet)
    (subst (λ (xs : List ℕ). Left (header ∷ records) st.StartRecord xs) whole start) in
    subst (λ (n : ℕ). InText text n records) (sym passes.behind) left
