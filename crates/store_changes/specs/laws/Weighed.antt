-- What a table weighs after a command of a list that appended rows to it.
use Rattle.std.specs.Prelude.{◌≡◌, ◌<◌, ◌+◌, ◌++◌, ℕ, Bool, true, false, if◌then◌else◌, List, [], ◌∷◌, Some, refl}
use Rattle.std.specs.Str.{bytes_eq}
use Rattle.std.proofs.Common.{inl, inr, sym, ap, ◌∙◌, subst, arith, append-nil, append_assoc}
use Rattle.std.proofs.lemmas.List.{length-append}
use Rattle.std.proofs.lemmas.List.Sums.{sum_by-append}
use Rattle.sector_dev.specs.Disk.{Image}
use Rattle.segments.specs.declared.run.Run.{Run}
use Rattle.arrow_schema.specs.Column.{PlainSchema}
use Rattle.cells.specs.Cell.{Cell}
use Rattle.cells.specs.Weight.{table_weight}
use Rattle.catalogue.specs.declared.entry.Segment.{Segment}
use Rattle.catalogue.specs.Entries.{PlainEntry, PlainCatalogue, is_entry, page_runs, runs_in_segments, runs_in, runs_of, IsCatalogue}
use Rattle.catalogue.specs.Edits.{entry_of, with_segments, with_more}
use Rattle.catalogue.specs.laws.Changed.{found_passes, more_is}
use Rattle.catalogue.specs.laws.Order.{by_found}
use Rattle.catalogue.specs.laws.Sums.{refilled}
use Rattle.commit.specs.Standing.{InSome}
use Rattle.commit.specs.declared.sector.FormatVersion.TheVariants.{One}
use Rattle.store_runs.specs.Changes.{PlainEdit, PlainChange, edited, placed_segments, HoldsStreams, rows_under, stream_rows}
use Rattle.store_runs.specs.Deciding.{AreBefore, Leaves}
use Rattle.store_runs.specs.Held.{joined_rows, rows_in_bytes, rows_held}
use Rattle.store_runs.specs.Reading.{HaveRead}
use Rattle.store_changes.specs.LawsBelow.{TableLaws}
use Rattle.store_changes.specs.Weights.{TellsWeight, TellsWeightAfter}
use Rattle.store_changes.specs.inner.ReadRows.{ReadsRows}
use Rattle.store_changes.specs.laws.Changed.{streams_held}
use Rattle.store_changes.specs.laws.Digests.{read_rows}
use Rattle.store_changes.specs.laws.Drafting.{before_parts}
use Rattle.store_changes.specs.laws.Listed.{segments_counted}
use Rattle.store_changes.specs.laws.ReadRows.{rows_are_read}
use Rattle.store_changes.specs.laws.ReadTables.{parts_of}
use Rattle.store_changes.specs.laws.SameReads.{Agree, read_alike}

-- ---- the runs of a table lie before a sector

below : (next : ℕ) (runs : List Run) (n : ℕ) → AreBefore next runs → InSome runs n → n < next
below next [] n before within = absurd within
below next (r ∷ rs) n before (inl here) = let end = before.0 in let low = here.1 in omega (arith, end, low)
below next (r ∷ rs) n before (inr later) = below next rs n before.1 later

entry_before : (next : ℕ) (c : PlainCatalogue) (name : List ℕ) (e : PlainEntry) → entry_of c name ≡ Some e → AreBefore next (runs_of c) → AreBefore next (runs_in_segments e.segments)
entry_before next [] name e there before = absurd (cc there)
entry_before next (x ∷ xs) name e there before =
    let lie = before_parts next (runs_in x) (runs_of xs) before in
    by_found x xs name e there
    (λ t same. subst (λ (y : PlainEntry). AreBefore next (runs_in_segments y.segments)) same (before_parts next (page_runs x.page) (runs_in_segments x.segments) lie.0).1)
    (λ f found. entry_before next xs name e found lie.1)

-- ---- rows of segments behind those of others

module _ (tells : Bool) (image : Image) (schema : PlainSchema) where
  have_both : (a b : List Segment) (xs ys : List (List Cell)) → HaveRead tells image schema a xs → HaveRead tells image schema b ys → HaveRead tells image schema (a ++ b) (xs ++ ys)
  have_both [] b xs ys none have = subst (λ (rows : List (List Cell)). HaveRead tells image schema b (rows ++ ys)) (sym none) have
  have_both (g ∷ gs) b xs ys (own, others, first, more, is) have =
      (own, others ++ ys, first, have_both gs b others ys more have, ap (λ (rows : List (List Cell)). rows ++ ys) is ∙ append_assoc own others ys)

  have_held : tells ≡ true → (gs : List Segment) (rows : List (List Cell)) → HaveRead tells image schema gs rows → rows_held schema gs image ≡ Some rows
  unfolding rows_held
  have_held told [] rows none = ap Some (sym none)
  have_held told (g ∷ gs) rows (own, others, first, more, is) =
      let here = read_rows tells image schema g own first told in
      let behind = have_held told gs others more in
      (λ i. joined_rows (here i) (behind i)) ∙ ap Some (sym is)

  -- those of new segments are read of their streams
  new_have : (places : List Run) (streams : List (List ℕ)) (counts : List ℕ) (rows : List (List Cell)) → HoldsStreams image (placed_segments One places streams counts) streams counts
      → stream_rows schema streams counts ≡ Some rows → HaveRead tells image schema (placed_segments One places streams counts) rows
  unfolding stream_rows
  new_have [] streams counts rows holds is =
      let none : Some [] ≡ Some rows = sym (ap (λ (ss : List (List ℕ)). stream_rows schema ss counts) holds) ∙ is in let same : [] ≡ rows = cc none in sym same
  new_have (run ∷ runs) [] counts rows holds is = let same : [] ≡ rows = cc is in sym same
  new_have (run ∷ runs) (s ∷ ss) [] rows holds is = absurd (cc is)
  new_have (run ∷ runs) (s ∷ ss) (n ∷ ns) rows holds is =
      let parts = parts_of (rows_in_bytes schema n (Some s)) (stream_rows schema ss ns) rows is in (
        parts.0,
        parts.1,
        record { bytes = s; copy = record { count = refl; undamaged = refl; held = λ told. holds.0 }; means = parts.2 },
        new_have runs ss ns parts.1 holds.3 parts.3,
        parts.4,
      )

-- ---- a table with more segments

refilled_entry : (c : PlainCatalogue) (name : List ℕ) (e other : PlainEntry) (segments : List Segment) → entry_of c name ≡ Some e → entry_of (with_segments c name segments) name ≡ Some other
    → (other.schema ≡ e.schema) × (other.segments ≡ segments)
refilled_entry [] name e other segments there after = absurd (cc there)
refilled_entry (x ∷ xs) name e other segments there after = by_name (bytes_eq x.name name) refl there after (λ found more. refilled_entry xs name e other segments found more)
  where
    by_name : (b : Bool) → bytes_eq x.name name ≡ b → (if b then Some x else entry_of xs name) ≡ Some e → entry_of (if b then refilled x segments ∷ xs else x ∷ with_segments xs name segments) name ≡ Some other
        → (entry_of xs name ≡ Some e → entry_of (with_segments xs name segments) name ≡ Some other → (other.schema ≡ e.schema) × (other.segments ≡ segments)) → (other.schema ≡ e.schema) × (other.segments ≡ segments)
    by_name true is h k later =
        let stood : x ≡ e = cc h in
        let found : Some (refilled x segments) ≡ Some other = sym (ap (λ (b : Bool). if b then Some (refilled x segments) else entry_of xs name) is) ∙ k in
        let same : refilled x segments ≡ other = cc found in
        (sym (ap (λ (y : PlainEntry). y.schema) same) ∙ ap (λ (y : PlainEntry). y.schema) stood, sym (ap (λ (y : PlainEntry). y.segments) same))
    by_name false is h k later = later h (sym (ap (λ (b : Bool). if b then Some x else entry_of (with_segments xs name segments) name) is) ∙ k)

more_entry : (c : PlainCatalogue) (name : List ℕ) (e other : PlainEntry) (more : List Segment) → entry_of c name ≡ Some e → entry_of (with_more c name more) name ≡ Some other
    → (other.schema ≡ e.schema) × (other.segments ≡ e.segments ++ more)
more_entry c name e other [] there after =
    let both : Some e ≡ Some other = sym there ∙ after in
    let same : e ≡ other = cc both in
    (sym (ap (λ (y : PlainEntry). y.schema) same), sym (ap (λ (y : PlainEntry). y.segments) same) ∙ sym (append-nil e.segments))
more_entry c name e other (s ∷ more) there after =
    refilled_entry c name e other (e.segments ++ s ∷ more) there (sym (ap (λ (d : PlainCatalogue). entry_of d name) (more_is c name e s more there)) ∙ after)

-- ---- after the append

module _ (laws : TableLaws) (tells : Bool) (next : ℕ) (image : Image) (c : PlainCatalogue) (change : PlainChange) (next' : ℕ) (image' : Image) (c' : PlainCatalogue) (name : List ℕ) (weight : ℕ) where
  pub weight_after : IsCatalogue c → Leaves next image c change next' image' c' → TellsWeightAfter tells image c name change weight → TellsWeight tells image' c' name weight
  weight_after sound leaves (e, there, after) = λ other found.
      let segments : List Segment = placed_segments One leaves.places change.streams change.counts in
      let rows : List (List Cell) = after.standing.rows ++ after.rows in
      let made : c' ≡ with_more c name segments = leaves.is ∙ ap (λ (x : PlainEdit). edited c x segments) after.extends in
      let own = more_entry c name e other segments there (sym (ap (λ (d : PlainCatalogue). entry_of d name) made) ∙ found) in
      let entry = found_passes is_entry c name e sound.entries there in
      let agree : tells ≡ true → Agree image image' e.segments = λ told n within. leaves.same n (below next (runs_in_segments e.segments) n (entry_before next c name e there leaves.before) within) in
      let stands = read_alike image image' tells e after.standing entry agree after.read in
      let new = streams_held image' e.schema segments change.streams change.counts leaves.holds ∙ after.new in
      let more = segments_counted e.schema segments image' after.rows new in
      let count = stands.count in
      let have = have_both tells image' e.schema e.segments segments after.standing.rows after.rows stands.read (new_have tells image' e.schema leaves.places change.streams change.counts after.rows leaves.holds after.new) in
      let read : ReadsRows tells image' e.schema (e.segments ++ segments) rows = record {
        kept = after.kept;
        count = omega (arith, length-append after.standing.rows after.rows, sum_by-append (λ (s : Segment). s.rows) e.segments segments, more, count);
        read = have;
        held = λ told. have_held tells image' e.schema told (e.segments ++ segments) rows have;
      } in
      let here : ReadsRows tells image' other.schema other.segments rows =
      subst (λ (s : PlainSchema). ReadsRows tells image' s other.segments rows) (sym own.0) (subst (λ (gs : List Segment). ReadsRows tells image' e.schema gs rows) (sym own.1) read) in
      (rows_under other.schema rows, rows_are_read laws tells image' other (rows_under other.schema rows) refl here, after.is ∙ ap (λ (s : PlainSchema). table_weight s rows) (sym own.0))
