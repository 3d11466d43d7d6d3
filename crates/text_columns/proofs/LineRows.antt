-- Rows of lines of JSON that come after others, by the buffers of their columns.
use Rattle.std.specs.Global.{Vec}
use Rattle.std.specs.Str.{is_utf8}
use Rattle.std.specs.Cmp.Lexicographic.{slice_cmp}
use Rattle.std.specs.Ordering.{match_ordering, nat_cmp}
use Rattle.std.specs.Prelude.{Option, Some, None, Ok, Err, Result, IfOk, IfSome, slice_get, get_or, bytes_eq, not, nat_lt, is_some, option_map, if◌then◌else◌}
use Rattle.std.proofs.Common.{Ordering, Less, Equal, Greater, ◌≡◌, ℕ, zero, suc, ◌+◌, ◌-◌, ◌≤◌, ◌<◌, Bool, true, false, List, [], ◌∷◌, ◌++◌, length, take, drop, set, refl, arith, ap, sym, subst, ◌∙◌, inl, inr, length-append}
use Rattle.std.proofs.lemmas.Bool.{cases_lt, false≢true, le-ltb, or_from, or_parts}
use Rattle.std.proofs.lemmas.List.Sums.{sum_by-append}
use Rattle.std.proofs.lemmas.Option.{slice_get_within, same_Some}
use Rattle.std.proofs.lemmas.Slice.Eq.{bytes_eq-Decides}
use Rattle.json.specs.Token.{Token}
use Rattle.json.specs.Token as tokens
use Rattle.json.specs.Json.{members, parse_map, read_key, value}
use Rattle.json.specs.Lex.{tokens as tokens_of}
use Rattle.json.proofs.Grammar.{read_key-shorter, value_is, value-begin_object}
use Rattle.serde_json.specs.Data.{Data, Members, no_members, member, object, put}
use Rattle.serde_json.specs.Find.{get_member}
use Rattle.serde_json.specs.Read.{converted, of_json, of_members, read}
use Rattle.serde_json.proofs.Views.{get_member-put, get_member-put_other}
use Rattle.arrow_schema.specs.Column.{Column, columns_of, PlainSchema}
use Rattle.arrow_schema.specs.Parts.{name_of_column}
use Rattle.arrow_schema.specs.View.{column_of}
use Rattle.arrow_schema.specs.declared.types.Field.{Field}
use Rattle.arrow_schema.specs.laws.Parts.{field_parts}
use Rattle.std.specs.Prelude.{map, string_bytes}
use Rattle.std.proofs.lemmas.List.{length-take-le, map-append, take_more, drop_all, take_all, get_or_append_left, length-set}
use Rattle.std.proofs.Math.Bool.{or-true}
use Rattle.text_import.specs.declared.refusal.Refusal.{Refusal}
use Rattle.cells.specs.Cell.{Cell, Cells, null, cells_of}
use Rattle.cells.specs.Dictionary.{dictionaries_fit}
use Rattle.cells.specs.Weight.{parts_weight, row_weight, table_weight}
use Rattle.cells.specs.laws.Cells.{cells_listed}
use Rattle.text_import.specs.Objects.{cells_by_name, cells_in, has_name, has_unknown, is_blank, keys_of, line_row, line_value, names_of, repeats}
use Rattle.text_import.specs.Refusals.{numbered}
use Rattle.text_import.specs.Rows.{rows_from}
use Rattle.text_import.specs.inner.Names.{text_where_utf8}
use Rattle.text_import.specs.laws.Lines.{blank_first, filled_first, filled_lines}
use Rattle.text_import.specs.laws.Behind.{behind, behind_none, row_more, rows_end}
use Rattle.text_import.proofs.ObjectLemmas.{name_more, names_end}
use Rattle.text_import.proofs.RowLemmas.{cells_behind}
use Rattle.text_columns.specs.declared.builder.ColumnBuilder.{ColumnBuilder}
use Rattle.text_columns.specs.declared.batches.Batches.{Batches}
use Rattle.text_columns.specs.inner.Batches.{AddsRow, HasRows, HoldRows, HoldsSame}
use Rattle.text_columns.proofs.Held.{held_more}
use Rattle.text_columns.specs.inner.Kept.{KeepAll, Keeps, column_at, key_list}
use Rattle.text_columns.specs.inner.Lines.{Completes, CompletesRow, HasKeptValue, HasNamedRow, HoldMembers, HoldsMember, KeepsFields, KeepsLine, KeepsTokens, PushesMember, PushesMembers, token_data}
use Rattle.text_columns.proofs.MemberGrammar.{member_read, members_over, object_read, text_read, value_shorter}
use Rattle.text_columns.proofs.FewEntries.{row_fits}
use Rattle.text_columns.proofs.Rows.{at_end, at_other, at_set, column_more, dropped_here, none_weigh, parts_weigh, taken_here, there_within}
use Rattle.civil_days.specs.declared.date_form.DateForm.{DateForm}

-- ---- names

name_at : (cs : List Column) (j : ℕ) (c : Column) → slice_get cs j ≡ Some c → slice_get (names_of (columns_of cs)) j ≡ Some (name_of_column c)
name_at [] j c e = absurd cc
name_at (d ∷ cs) zero c e = (let same : d ≡ c = cc in rw same refl)
name_at (d ∷ cs) (suc j) c e = name_at cs j c e

has_here : (names : List (List ℕ)) (j : ℕ) (k : List ℕ) → slice_get names j ≡ Some k → has_name names k ≡ true
has_here [] j k e = absurd cc
has_here (n ∷ names) zero k e =
    let same : n ≡ k = cc in
    let equal : bytes_eq k n ≡ true = (bytes_eq-Decides k n).1 (sym same) in
    rw equal refl
has_here (n ∷ names) (suc j) k e = rw (has_here names j k e) (or-true (bytes_eq k n))

apart : (names : List (List ℕ)) (i j : ℕ) (a b : List ℕ) → repeats names ≡ false → slice_get names i ≡ Some a → slice_get names j ≡ Some b → (i ≡ j → ⊥) → a ≡ b → ⊥
apart [] i j a b e ea eb ne same = absurd cc
apart (n ∷ names) zero zero a b e ea eb ne same = ne refl
apart (n ∷ names) zero (suc j) a b e ea eb ne same =
    let none = (or_parts (has_name names n) (repeats names) e).0 in
    let first : n ≡ a = cc in
    let there = has_here names j n (eb ∙ ap Some (sym same ∙ sym first)) in
    false≢true (sym none ∙ there)
apart (n ∷ names) (suc i) zero a b e ea eb ne same =
    let none = (or_parts (has_name names n) (repeats names) e).0 in
    let first : n ≡ b = cc in
    let there = has_here names i n (ea ∙ ap Some (same ∙ sym first)) in
    false≢true (sym none ∙ there)
apart (n ∷ names) (suc i) (suc j) a b e ea eb ne same = apart names i j a b (or_parts (has_name names n) (repeats names) e).1 ea eb (λ x. ne (ap suc x)) same

-- a key that is known is so among others
known_put_at : (names : List (List ℕ)) (o : Ordering) (k l : List ℕ) (d e : Data) (ms : Members) → has_name names k ≡ true → has_unknown names (l ∷ keys_of ms) ≡ false
    → has_unknown names (keys_of (put k d ms)) ≡ false → has_unknown names (keys_of (match_ordering o (member k d (member l e ms)) (member l d ms) (member l e (put k d ms)))) ≡ false
known_put_at names Less k l d e ms known all later = rw known all
known_put_at names Equal k l d e ms known all later = all
known_put_at names Greater k l d e ms known all later = or_from _ _ (or_parts (not (has_name names l)) (has_unknown names (keys_of ms)) all).0 later

known_put : (names : List (List ℕ)) (k : List ℕ) (d : Data) (ms : Members) → has_name names k ≡ true → has_unknown names (keys_of ms) ≡ false → has_unknown names (keys_of (put k d ms)) ≡ false
known_put names k d no_members known all = rw known refl
known_put names k d (member l e ms) known all =
    known_put_at names (slice_cmp nat_cmp k l) k l d e ms known all (known_put names k d ms known (or_parts (not (has_name names l)) (has_unknown names (keys_of ms)) all).1)

-- ---- one more member

free_found : (date_form : DateForm) (c : Column) (so : List Cell) (o : Option Data) (b : ColumnBuilder) → HoldsMember date_form c so o None b → Keeps c so b
free_found date_form c so None b h = h
free_found date_form c so (Some d) b h = absurd h

member_held : (date_form : DateForm) (cs : List Column) (rows : List (List Cell)) (found : Members) (k : List ℕ) (d : Data) (depth place : ℕ) (old new : List Token) (ws ws2 : List (Option ℕ)) (bs bs2 : List ColumnBuilder)
    → repeats (names_of (columns_of cs)) ≡ false → slice_get (names_of (columns_of cs)) place ≡ Some k → (p : PushesMember date_form depth place old new ws ws2 bs bs2) → p.keeps.data_is ≡ d
    → HoldMembers date_form cs rows found ws bs → HoldMembers date_form cs rows (put k d found) ws2 bs2
member_held date_form cs rows found k d depth place old new ws ws2 bs bs2 distinct named p same_data h = rw (p.kept, p.pushed) (record {
  count = length-set bs place p.behind ∙ h.count;
  counted = length-set ws place (Some p.weight) ∙ h.counted;
  each = λ j c b w dc db dw. elim (cases_lt j place) [
    | inl before ↦ other j c b w dc db dw (λ e. omega arith)
    | inr from ↦ elim (cases_lt place j) [
      | inl after ↦ other j c b w dc db dw (λ e. omega arith)
      | inr up ↦ own j c b w dc db dw (omega arith)
    ]
  ];
})
  where
    other : (j : ℕ) (c : Column) (b : ColumnBuilder) (w : Option ℕ) → slice_get cs j ≡ Some c → slice_get (set bs place p.behind) j ≡ Some b → slice_get (set ws place (Some p.weight)) j ≡ Some w
        → (place ≡ j → ⊥) → HoldsMember date_form c (column_at j rows) (get_member (name_of_column c) (put k d found)) w b
    other j c b w dc db dw ne =
        let names_differ : name_of_column c ≡ k → ⊥ = apart (names_of (columns_of cs)) j place (name_of_column c) k distinct (name_at cs j c dc) named (λ e. ne (sym e)) in
        let same = get_member-put_other (name_of_column c) k d found names_differ in
        let builder = sym (at_other bs place j p.behind ne) ∙ db in
        let kept = sym (at_other ws place j (Some p.weight) ne) ∙ dw in
        subst (λ (o : Option Data). HoldsMember date_form c (column_at j rows) o w b) (sym same) (h.each j c b w dc builder kept)

    own : (j : ℕ) (c : Column) (b : ColumnBuilder) (w : Option ℕ) → slice_get cs j ≡ Some c → slice_get (set bs place p.behind) j ≡ Some b → slice_get (set ws place (Some p.weight)) j ≡ Some w
        → j ≡ place → HoldsMember date_form c (column_at j rows) (get_member (name_of_column c) (put k d found)) w b
    own j c b w dc db dw is =
        let here : slice_get cs place ≡ Some c = subst (λ (n : ℕ). slice_get cs n ≡ Some c) is dc in
        let name : name_of_column c ≡ k = same_Some _ _ (sym (name_at cs place c here) ∙ named) in
        let builder : p.behind ≡ b = same_Some _ _ (sym (at_set bs place p.behind (slice_get_within bs place p.before p.here)) ∙ subst (λ (n : ℕ). slice_get (set bs place p.behind) n ≡ Some b) is db) in
        let kept : Some p.weight ≡ w = same_Some _ _ (sym (at_set ws place (Some p.weight) (slice_get_within ws place None p.free)) ∙ subst (λ (n : ℕ). slice_get (set ws place (Some p.weight)) n ≡ Some w) is dw) in
        let before = free_found date_form c (column_at place rows) (get_member (name_of_column c) found) p.before (h.each place c p.before None here p.here p.free) in
        let value : HasKeptValue date_form c d p.weight (column_at place rows) p.behind = subst (λ (x : Data). HasKeptValue date_form c x p.weight (column_at place rows) p.behind) same_data (p.keeps.keeps c (column_at place rows) before) in
        rw (is, name, get_member-put k d found, ← builder, ← kept) value

-- ---- the members of an object, one after another

pub token_read : (depth : ℕ) (t : Token) (r : List Token) (d : Data) → token_data t ≡ Some d → converted of_json (value depth (t ∷ r)) ≡ Some (d, r)
token_read depth (tokens.string s) r d e = ap (converted of_json) (value_is depth (tokens.string s ∷ r)) ∙ ap (λ (o : Option Data). option_map {U = Data × List Token} (λ x. (x, r)) o) e
token_read depth (tokens.number s) r d e = ap (converted of_json) (value_is depth (tokens.number s ∷ r)) ∙ ap (λ (o : Option Data). option_map {U = Data × List Token} (λ x. (x, r)) o) e
token_read depth (tokens.boolean b) r d e = ap (converted of_json) (value_is depth (tokens.boolean b ∷ r)) ∙ ap (λ (o : Option Data). option_map {U = Data × List Token} (λ x. (x, r)) o) e
token_read depth tokens.null r d e = ap (converted of_json) (value_is depth (tokens.null ∷ r)) ∙ ap (λ (o : Option Data). option_map {U = Data × List Token} (λ x. (x, r)) o) e
token_read depth _ r d e = absurd cc

-- some members were read, and the others follow
pub record MembersRead (date_form : DateForm) (depth : ℕ) (names : List (List ℕ)) (all left : List Token) (ws0 ws : List (Option ℕ)) (bs0 bs : List ColumnBuilder) : Type 0 where
  pub found : Members
  pub turns : ℕ
  pub enough : length left ≤ turns
  pub read : converted (λ ms. of_members ms no_members) (members (value depth) (length all) all) ≡ converted (λ ms. of_members ms found) (members (value depth) turns left)
  pub known : has_unknown names (keys_of found) ≡ false
  pub each : (cs : List Column) (rows : List (List Cell)) → names_of (columns_of cs) ≡ names → repeats names ≡ false → HoldMembers date_form cs rows no_members ws0 bs0 → HoldMembers date_form cs rows found ws bs

pub members_none : (date_form : DateForm) (depth : ℕ) (names : List (List ℕ)) (all : List Token) (ws : List (Option ℕ)) (bs : List ColumnBuilder) → MembersRead date_form depth names all all ws ws bs bs
members_none date_form depth names all ws bs = record { found = no_members; turns = length all; enough = omega arith; read = refl; known = refl; each = λ cs rows e distinct h. h }

pub members_more : (date_form : DateForm) (depth : ℕ) (names : List (List ℕ)) (all left behind_key new : List Token) (k : List ℕ) (place : ℕ) (ws0 ws ws2 : List (Option ℕ)) (bs0 bs bs2 : List ColumnBuilder)
    → read_key left ≡ Some (Some k, behind_key) → slice_get names place ≡ Some k → PushesMember date_form depth place behind_key new ws ws2 bs bs2 → MembersRead date_form depth names all left ws0 ws bs0 bs
    → MembersRead date_form depth names all new ws0 ws2 bs0 bs2
members_more date_form depth names all left behind_key new k place ws0 ws ws2 bs0 bs bs2 key named p m =
    let d = p.keeps.data_is in
    let less = read_key-shorter left (Some k) behind_key key in
    let one = value_shorter depth behind_key new d p.keeps.read in
    let some : 0 < m.turns = omega (arith, less, m.enough) in
    record {
      found = put k d m.found;
      turns = m.turns - 1;
      enough = omega (arith, less, m.enough, one);
      read = m.read ∙ member_read (value depth) m.found m.turns k left behind_key new d some key p.keeps.read;
      known = known_put names k d m.found (has_here names place k named) m.known;
      each = λ cs rows e distinct h.
          member_held date_form cs rows m.found k d depth place behind_key new ws ws2 bs bs2 (rw e distinct) (rw e named) p refl (m.each cs rows e distinct h);
    }

pub members_all : (date_form : DateForm) (depth : ℕ) (names : List (List ℕ)) (all left new : List Token) (ws0 ws : List (Option ℕ)) (bs0 bs : List ColumnBuilder) → read_key left ≡ Some (None, new)
    → MembersRead date_form depth names all left ws0 ws bs0 bs → PushesMembers date_form depth names all new ws0 ws bs0 bs
members_all date_form depth names all left new ws0 ws bs0 bs key m = record {
  found = m.found;
  read = m.read ∙ members_over (value depth) m.found m.turns left new m.enough key;
  known = m.known;
  each = m.each;
}

-- ---- a row of members

-- the first columns have a cell of this row, and the others that of their member, if there is one
pub record NamedHalf (date_form : DateForm) (cs : List Column) (found : Members) (rows : List (List Cell)) (i weight : ℕ) (ws : List (Option ℕ)) (bs : List ColumnBuilder) : Type 0 where
  pub row : List Cell
  pub len : length row ≡ i
  pub read : cells_behind row (cells_by_name date_form (columns_of (drop i cs)) found) ≡ cells_by_name date_form (columns_of cs) found
  pub weighs : 1 + parts_weight (columns_of (take i cs)) (cells_of row) ≡ weight
  pub count : length bs ≡ length cs
  pub counted : length ws ≡ length cs
  pub done : (j : ℕ) (c : Column) (b : ColumnBuilder) → j < i → slice_get cs j ≡ Some c → slice_get bs j ≡ Some b → Keeps c (column_at j rows ++ get_or row j null ∷ []) b
  pub rest : (j : ℕ) (c : Column) (b : ColumnBuilder) (w : Option ℕ) → i ≤ j → slice_get cs j ≡ Some c → slice_get bs j ≡ Some b → slice_get ws j ≡ Some w
      → HoldsMember date_form c (column_at j rows) (get_member (name_of_column c) found) w b

pub none_behind : (r : Result Cells Refusal) → cells_behind [] r ≡ r
none_behind (Ok cells) = refl
none_behind (Err e) = refl

pub named_none : (date_form : DateForm) (cs : List Column) (found : Members) (rows : List (List Cell)) (ws : List (Option ℕ)) (bs : List ColumnBuilder) → HoldMembers date_form cs rows found ws bs → NamedHalf date_form cs found rows 0 1 ws bs
named_none date_form cs found rows ws bs h = record {
  row = [];
  len = refl;
  read = none_behind (cells_by_name date_form (columns_of cs) found);
  weighs = none_weigh [];
  count = h.count;
  counted = h.counted;
  done = λ j c b lt. absurd (omega arith);
  rest = λ j c b w le. h.each j c b w;
}

pub named_more : (date_form : DateForm) (cs : List Column) (found : Members) (rows : List (List Cell)) (i weight more : ℕ) (w : Option ℕ) (ws : List (Option ℕ)) (bs : List ColumnBuilder) (old new : ColumnBuilder)
    → slice_get bs i ≡ Some old → slice_get ws i ≡ Some w → Completes date_form w more old new → NamedHalf date_form cs found rows i weight ws bs → NamedHalf date_form cs found rows (i + 1) (weight + more) ws (set bs i new)
named_more date_form cs found rows i weight more w ws bs old new here weighed completes h =
    let within : i < length bs = slice_get_within bs i old here in
    let (c, col) = there_within cs i (omega (arith, within, h.count)) in
    let k = completes c (column_at i rows) (get_member (name_of_column c) found) (h.rest i c old w (omega arith) col here weighed) in
    let one : i + 1 ≡ suc i = omega arith in
    let fields : drop i cs ≡ c ∷ drop (suc i) cs = dropped_here cs i c col in
    let short : length h.row ≡ length (take i cs) = h.len ∙ sym (length-take-le i cs (omega (arith, within, h.count))) in
    let sum = parts_weigh (take i cs) h.row c k.kept short in
    record {
      row = h.row ++ k.kept ∷ [];
      len = length-append h.row (k.kept ∷ []) ∙ ap (λ (n : ℕ). n + 1) h.len;
      read = rw one (sym (name_more date_form h.row c (columns_of (drop (suc i) cs)) found k.kept k.read) ∙ rw fields at h.read);
      weighs = rw (one, taken_here cs i c col) (omega (arith, sum, h.weighs, k.weighs));
      count = length-set bs i new ∙ h.count;
      counted = h.counted;
      done = λ j d b lt dc db. elim (cases_lt j i) [
        | inl before ↦
            let same = at_other bs i j new (λ e. omega arith) in
            let front = get_or_append_left h.row (k.kept ∷ []) null j (omega (arith, h.len, before)) in
            subst (λ (x : Cell). Keeps d (column_at j rows ++ x ∷ []) b) (sym front) (h.done j d b before dc (sym same ∙ db))
        | inr after ↦
            let is : j ≡ i = omega arith in
            let put_here = at_set bs i new within in
            let is_new : new ≡ b = same_Some _ _ (sym put_here ∙ subst (λ (n : ℕ). slice_get (set bs i new) n ≡ Some b) is db) in
            let is_own : c ≡ d = same_Some _ _ (sym col ∙ subst (λ (n : ℕ). slice_get cs n ≡ Some d) is dc) in
            let end : get_or (h.row ++ k.kept ∷ []) j null ≡ k.kept = at_end h.row k.kept null j (is ∙ sym h.len) in
            rw (end, is, ← is_new, ← is_own) k.keeps
      ];
      rest = λ j d b v le dc db dv.
          let same = at_other bs i j new (λ e. omega arith) in
          h.rest j d b v (omega (arith, le)) dc (sym same ∙ db) dv;
    }

pub named_all : (date_form : DateForm) (cs : List Column) (found : Members) (rows : List (List Cell)) (i weight : ℕ) (ws : List (Option ℕ)) (bs : List ColumnBuilder) → length bs ≤ i
    → NamedHalf date_form cs found rows i weight ws bs → HasNamedRow date_form cs found weight rows bs
named_all date_form cs found rows i weight ws bs le h =
    let none : drop i cs ≡ [] = drop_all i cs (omega (arith, le, h.count)) in
    let all : take i cs ≡ cs = take_all i cs (omega (arith, le, h.count)) in
    record {
      row = h.row;
      read = sym (rw none at h.read) ∙ names_end date_form h.row found;
      weighs = rw all at h.weighs;
      keeps = record {
        count = h.count;
        each = λ j c b dc db.
            let lt : j < length bs = slice_get_within bs j b db in
            subst (λ (xs : List Cell). Keeps c xs b) (sym (column_more j rows h.row)) (h.done j c b (omega (arith, lt, le)) dc db);
      };
    }

-- ---- the object of a line

-- no member was read yet
pub hold_none : (date_form : DateForm) (cs : List Column) (rows : List (List Cell)) (ws : List (Option ℕ)) (bs : List ColumnBuilder) → length ws ≡ length bs
    → ((j : ℕ) (w : Option ℕ) → slice_get ws j ≡ Some w → w ≡ None) → KeepAll cs rows bs → HoldMembers date_form cs rows no_members ws bs
hold_none date_form cs rows ws bs size none k = record {
  count = k.count;
  counted = size ∙ k.count;
  each = λ j c b w dc db dw. rw (none j w dw) (k.each j c b dc db);
}

pub none_more : (ws : List (Option ℕ)) (i j : ℕ) (w : Option ℕ) → i < length ws → ((k : ℕ) (v : Option ℕ) → k < i → slice_get ws k ≡ Some v → v ≡ None) → j < i + 1 → slice_get (set ws i None) j ≡ Some w → w ≡ None
none_more ws i j w within none lt e = elim (cases_lt j i) [
  | inl before ↦ none j w before (sym (at_other ws i j None (λ x. omega arith)) ∙ e)
  | inr after ↦
      let is : j ≡ i = omega arith in
      sym (same_Some _ _ (sym (at_set ws i None within) ∙ subst (λ (n : ℕ). slice_get (set ws i None) n ≡ Some w) is e))
]

-- and then all
fields_kept : (date_form : DateForm) (depth : ℕ) (names : List (List ℕ)) (inside rest : List Token) (weight : ℕ) (ws ws2 : List (Option ℕ)) (bs bs2 bs3 : List ColumnBuilder) → length ws ≡ length bs
    → ((j : ℕ) (w : Option ℕ) → slice_get ws j ≡ Some w → w ≡ None) → PushesMembers date_form depth names inside rest ws ws2 bs bs2 → CompletesRow date_form ws2 weight bs2 bs3 → KeepsFields date_form depth names inside rest weight bs bs3
fields_kept date_form depth names inside rest weight ws ws2 bs bs2 bs3 size none m completes = record {
  found = m.found;
  read = m.read;
  keeps = λ cs rows e distinct k.
      let h = completes cs rows m.found (m.each cs rows e distinct (hold_none date_form cs rows ws bs size none k)) in
      let own : repeats (names_of (columns_of cs)) ≡ false = rw e distinct in
      let known : has_unknown (names_of (columns_of cs)) (keys_of m.found) ≡ false = rw e m.known in
      record { row = h.row; read = rw (own, known) h.read; weighs = h.weighs; keeps = h.keeps };
}

pub fields_step : {E : Type 0} (date_form : DateForm) (depth : ℕ) (names : List (List ℕ)) (inside rest : List Token) (ws ws2 : List (Option ℕ)) (bs bs2 bs3 : List ColumnBuilder) (r : Result (Option ℕ) E) → length ws ≡ length bs
    → ((j : ℕ) (w : Option ℕ) → slice_get ws j ≡ Some w → w ≡ None) → PushesMembers date_form depth names inside rest ws ws2 bs bs2
    → IfOk r (λ taken. IfSome taken (λ weight. CompletesRow date_form ws2 weight bs2 bs3)) → IfOk r (λ taken. IfSome taken (λ weight. KeepsFields date_form depth names inside rest weight bs bs3))
fields_step date_form depth names inside rest ws ws2 bs bs2 bs3 (Err e) size none m h = tt
fields_step date_form depth names inside rest ws ws2 bs bs2 bs3 (Ok None) size none m h = tt
fields_step date_form depth names inside rest ws ws2 bs bs2 bs3 (Ok (Some weight)) size none m h = fields_kept date_form depth names inside rest weight ws ws2 bs bs2 bs3 size none m h

pub object_kept : (date_form : DateForm) (names : List (List ℕ)) (inside rest : List Token) (weight : ℕ) (bs bs2 : List ColumnBuilder) → rest ≡ [] → KeepsFields date_form 126 names inside rest weight bs bs2
    → KeepsTokens date_form names (tokens.begin_object ∷ inside) weight bs bs2
object_kept date_form names inside rest weight bs bs2 ends k =
    let one = value-begin_object 127 inside (omega arith) in
    record {
      data_is = object k.found;
      read = ap (converted of_json) one ∙ object_read (members (value 126) (length inside) inside) ∙ ap (parse_map object) (k.read ∙ ap (λ (ts : List Token). Some (k.found, ts)) ends);
      keeps = k.keeps;
    }

-- ---- the rows of lines

-- some lines have come as rows, and the others are left
pub record LinesRead (date_form : DateForm) (s : PlainSchema) (lines left : List (List ℕ)) (weight : ℕ) (b : Batches) : Type 0 where
  pub number : ℕ
  pub rows : List (List Cell)
  pub read : behind rows (rows_from (line_row date_form s) (number + 1) (filled_lines left)) ≡ rows_from (line_row date_form s) 1 (filled_lines lines)
  pub weighs : table_weight s rows ≡ weight
  pub holds : HoldRows s rows b

pub lines_none : (date_form : DateForm) (s : PlainSchema) (lines : List (List ℕ)) (b : Batches) → HoldRows s [] b → LinesRead date_form s lines lines 0 b
lines_none date_form s lines b k = record { number = 0; rows = []; read = behind_none _; weighs = refl; holds = k }

-- the same rows in other batches
pub lines_same : (date_form : DateForm) (s : PlainSchema) (lines left : List (List ℕ)) (weight : ℕ) (old new : Batches) → HoldsSame s old new → LinesRead date_form s lines left weight old → LinesRead date_form s lines left weight new
lines_same date_form s lines left weight old new same h = record { number = h.number; rows = h.rows; read = h.read; weighs = h.weighs; holds = same h.rows h.holds }

pub lines_skipped : (date_form : DateForm) (s : PlainSchema) (lines left others : List (List ℕ)) (weight : ℕ) (line : List ℕ) (b : Batches) → left ≡ line ∷ others → is_blank line ≡ true
    → LinesRead date_form s lines left weight b → LinesRead date_form s lines others weight b
lines_skipped date_form s lines left others weight line b here blank h = record {
  number = h.number;
  rows = h.rows;
  read = ap (λ (xs : List (List ℕ)). behind h.rows (rows_from (line_row date_form s) (h.number + 1) xs)) (sym (blank_first left others line here blank)) ∙ h.read;
  weighs = h.weighs;
  holds = h.holds;
}

-- a row that is not too heavy is accepted
line_accepted : (date_form : DateForm) (s : PlainSchema) (line : List ℕ) (d : Data) (row : List Cell) (weight : ℕ) → line_value line ≡ Ok d → cells_in date_form (columns_of s.columns) d ≡ Ok (cells_of row)
    → 1 + parts_weight (columns_of s.columns) (cells_of row) ≡ weight → weight ≤ 16777216 → dictionaries_fit s (row ∷ []) ≡ true → line_row date_form s line ≡ Ok row
line_accepted date_form s line d row weight value cells weighs few full =
    let light : nat_lt 16777216 (row_weight s row) ≡ false = le-ltb _ _ (omega (arith, weighs, few)) in
    rw (value, cells, cells_listed row, light, full) refl

pub lines_more : (date_form : DateForm) (s : PlainSchema) (names : List (List ℕ)) (lines left others : List (List ℕ)) (weight more : ℕ) (line : List ℕ) (b b2 : Batches) → left ≡ line ∷ others
    → is_blank line ≡ false → names_of (columns_of s.columns) ≡ names → repeats names ≡ false → more ≤ 16777216 → KeepsLine date_form names line more b.builders.items b2.builders.items → AddsRow b b2
    → LinesRead date_form s lines left weight b → LinesRead date_form s lines others (weight + more) b2
lines_more date_form s names lines left others weight more line b b2 here blank named distinct few keeps adds h =
    let held = h.holds in
    let v = keeps.keeps s.columns held.last named distinct held.keeps in
    let full = row_fits s held.last b.builders.items v.row held.keeps in
    let row = line_accepted date_form s line keeps.data_is v.row more keeps.read v.read v.weighs few full in
    let i = h.number in
    let given : numbered (i + 1) (line_row date_form s line) ≡ Ok v.row = rw row refl in
    let next = filled_first left others line here blank in
    let joined = sum_by-append (row_weight s) h.rows (v.row ∷ []) in
    record {
      number = i + 1;
      rows = h.rows ++ v.row ∷ [];
      read = sym (row_more (line_row date_form s) (i + 1) h.rows line (filled_lines others) v.row given)
          ∙ ap (λ (xs : List (List ℕ)). behind h.rows (rows_from (line_row date_form s) (i + 1) xs)) (sym next) ∙ h.read;
      weighs = omega (arith, joined, h.weighs, v.weighs);
      holds = held_more s h.rows v.row b b2 held adds v.keeps;
    }

pub lines_all : (date_form : DateForm) (s : PlainSchema) (lines left : List (List ℕ)) (weight : ℕ) (b : Batches) → left ≡ [] → weight ≤ 268435456
    → LinesRead date_form s lines left weight b → HasRows s (rows_from (line_row date_form s) 1 (filled_lines lines)) weight b
lines_all date_form s lines left weight b none few h = record {
  rows = h.rows;
  are_read = sym (rw none at h.read) ∙ rows_end (line_row date_form s) (h.number + 1) h.rows;
  weighs = h.weighs;
  few = few;
  holds = h.holds;
}

-- ---- names as the code keeps them

name_bytes_at : (keys : List (Vec ℕ)) (i : ℕ) (k : Vec ℕ) → slice_get keys i ≡ Some k → slice_get (key_list keys) i ≡ Some k.items
name_bytes_at [] i k e = absurd cc
name_bytes_at (x ∷ keys) zero k e = ap (λ (v : Vec ℕ). Some v.items) (same_Some _ _ e)
name_bytes_at (x ∷ keys) (suc i) k e = name_bytes_at keys i k e

pub stands : (keys : List (Vec ℕ)) (i : ℕ) (k : Vec ℕ) (name : List ℕ) → slice_get keys i ≡ Some k → bytes_eq k.items name ≡ true → slice_get (key_list keys) i ≡ Some name
stands keys i k name e same = name_bytes_at keys i k e ∙ ap Some ((bytes_eq-Decides k.items name).0 same)

-- ---- what a call tells, if it appended the row

utf8_text : (t line : List ℕ) → Some t ≡ text_where_utf8 line → (is_utf8 line ≡ true) × (t ≡ line)
utf8_text t line e = by (is_utf8 line) refl e
  where
    by : (b : Bool) → is_utf8 line ≡ b → Some t ≡ (if b then Some line else None) → (is_utf8 line ≡ true) × (t ≡ line)
    by true is h = (is, same_Some _ _ h)
    by false is h = absurd cc

line_kept : (date_form : DateForm) (names : List (List ℕ)) (t line : List ℕ) (weight : ℕ) (bs bs2 : List ColumnBuilder) → Some t ≡ text_where_utf8 line → KeepsTokens date_form names (tokens_of t) weight bs bs2 → KeepsLine date_form names line weight bs bs2
line_kept date_form names t line weight bs bs2 text k =
    let (utf8, same) = utf8_text t line text in
    let one = text_read t k.data_is k.read in
    let own : read line ≡ Some k.data_is = subst (λ (x : List ℕ). read x ≡ Some k.data_is) same one in
    record { data_is = k.data_is; read = rw (utf8, own) refl; keeps = k.keeps }

pub line_step : {E : Type 0} (date_form : DateForm) (names : List (List ℕ)) (t line : List ℕ) (bs bs2 : List ColumnBuilder) (r : Result (Option ℕ) E) → Some t ≡ text_where_utf8 line
    → IfOk r (λ taken. IfSome taken (λ weight. KeepsTokens date_form names (tokens_of t) weight bs bs2)) → IfOk r (λ taken. IfSome taken (λ weight. KeepsLine date_form names line weight bs bs2))
line_step date_form names t line bs bs2 (Err e) text h = tt
line_step date_form names t line bs bs2 (Ok None) text h = tt
line_step date_form names t line bs bs2 (Ok (Some weight)) text h = line_kept date_form names t line weight bs bs2 text h

pub free_at : (ws : List (Option ℕ)) (i : ℕ) (d : Option ℕ) → i < length ws → is_some (get_or ws i d) ≡ false → slice_get ws i ≡ Some None
free_at [] i d lt e = absurd (omega arith)
free_at (None ∷ ws) zero d lt e = refl
free_at (Some w ∷ ws) zero d lt e = absurd (false≢true (sym e))
free_at (w ∷ ws) (suc i) d lt e = free_at ws i d (omega arith) e

-- ---- the names of fields, one after another

names_more : (cs : List Column) (c : Column) → names_of (columns_of (cs ++ c ∷ [])) ≡ names_of (columns_of cs) ++ name_of_column c ∷ []
names_more [] c = refl
names_more (d ∷ cs) c = ap (λ (ns : List (List ℕ)). name_of_column d ∷ ns) (names_more cs c)

pub name_added : (fields : List Field) (i : ℕ) (f : Field) (old new : List (List ℕ)) → i < length fields → f ≡ get_or fields i f → old ≡ names_of (columns_of (map column_of (take i fields)))
    → new ≡ old ++ string_bytes f.name ∷ [] → new ≡ names_of (columns_of (map column_of (take (i + 1) fields)))
name_added fields i f old new lt is before added =
    let more : take (i + 1) fields ≡ take i fields ++ f ∷ [] = take_more fields i f lt ∙ ap (λ (x : Field). take i fields ++ x ∷ []) (sym is) in
    let own : name_of_column (column_of f) ≡ string_bytes f.name = ap name_of_column (field_parts f) in
    added
    ∙ (λ j. before j ++ sym own j ∷ [])
    ∙ sym (names_more (map column_of (take i fields)) (column_of f))
    ∙ ap (λ (cs : List Column). names_of (columns_of cs)) (sym (map-append column_of (take i fields) (f ∷ [])) ∙ ap (map column_of) (sym more))
