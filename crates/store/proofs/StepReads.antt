-- Why a step is not decided: where the tables of a catalogue are held, each pair and each segment can be read.
use Rattle.std.specs.Prelude.{◌≡◌, ◌++◌, ℕ, Bool, true, false, List, [], ◌∷◌, take, drop, slice_get, Option, Some, None, refl}
use Rattle.std.proofs.Common.{inl, inr, sym, ap, ◌∙◌, subst, take-append-drop}
use Rattle.sector_dev.specs.Disk.{Image}
use Rattle.arrow_schema.specs.Column.{PlainSchema}
use Rattle.arrow_schema.specs.Limits.{IsWithinLimits}
use Rattle.cells.specs.Cell.{Cell, PlainTable}
use Rattle.values.specs.Table.{IsTable}
use Rattle.catalogue.specs.declared.entry.Segment.{Segment}
use Rattle.catalogue.specs.Entries.{PlainEntry, PlainCatalogue, is_entry, IsCatalogue}
use Rattle.catalogue.specs.Edits.{entry_of, from_place}
use Rattle.catalogue.specs.laws.Kept.{entry_is}
use Rattle.catalogue.specs.laws.Changed.{found_passes}
use Rattle.tables.specs.declared.refusal.Refusal.{Refusal}
use Rattle.tables.specs.declared.refusal.Refusal.TheVariants as refusals
use Rattle.tables.specs.Tables.{Tables}
use Rattle.store_runs.specs.Held.{is_undamaged, bytes_of, rows_in_segment, segment_rows, joined_rows, rows_held, table_held, tables_held}
use Rattle.store_runs.specs.Changes.{rows_under}
use Rattle.store_runs.specs.Reading.{LacksBytes}
use Rattle.store_runs.specs.Compacting.{pair_of, UnreadsPair, UnreadsInPairs, UnreadsMoving, UnreadsStep}
use Rattle.store_changes.specs.LawsBelow.{TableLaws}
use Rattle.store_changes.specs.ReadSegment.{FailsReading}
use Rattle.store_changes.specs.laws.Changed.{rows_behind}
use Rattle.store_changes.specs.laws.Digests.{rows_damaged, rows_unread}
use Rattle.store_changes.specs.laws.Named.{entry_has}
use Rattle.store_changes.specs.laws.ReadTables.{read_is_held, held_is_table, parts_of, unread_not_held, damaged_not_held}
use Rattle.store_changes.specs.laws.StepParts.{at_name, one_from}

-- the rows of segments in three parts
three_parts : (schema : PlainSchema) (segments : List Segment) (place count : ℕ) (image : Image) (rows : List (List Cell)) → rows_held schema segments image ≡ Some rows
    → (a b d : List (List Cell)) × (rows_held schema (from_place segments place count) image ≡ Some b) × (rows ≡ a ++ (b ++ d))
three_parts schema segments place count image rows held =
    let front = take place segments in
    let taken = from_place segments place count in
    let rest = drop count (drop place segments) in
    let whole : front ++ (taken ++ rest) ≡ segments = ap (λ (ss : List Segment). front ++ ss) (take-append-drop count (drop place segments)) ∙ take-append-drop place segments in
    let first = parts_of (rows_held schema front image) (rows_held schema (taken ++ rest) image) rows
    (sym (rows_behind schema front (taken ++ rest) image) ∙ ap (λ (ss : List Segment). rows_held schema ss image) whole ∙ held) in
    let second = parts_of (rows_held schema taken image) (rows_held schema rest image) first.1 (sym (rows_behind schema taken rest image) ∙ first.3) in
    (first.0, second.0, second.1, second.2, first.4 ∙ ap (λ (rs : List (List Cell)). first.0 ++ rs) second.4)

module _ (laws : TableLaws) (image : Image) (c : PlainCatalogue) (k : IsCatalogue c) (t : Tables) (held : tables_held image c ≡ Some t) where
  -- an entry has a table, and its rows
  entry_table : (i : ℕ) (e : PlainEntry) → slice_get c i ≡ Some e → (rows : List (List Cell)) × (rows_held e.schema e.segments image ≡ Some rows) × IsTable (rows_under e.schema rows)
  entry_table i e at =
      let found = at_name c i e k.order at in
      let own = entry_has image c t held e.name e found in
      held_is_table laws image e own.0 (within e found) own.1
    where
      within : (x : PlainEntry) → entry_of c x.name ≡ Some x → IsWithinLimits x.schema
      within x there = (entry_is x (found_passes is_entry c x.name x k.entries there)).schema

  -- each pair is a table
  pair_table : (i : ℕ) (e : PlainEntry) (place : ℕ) → slice_get c i ≡ Some e → (table : PlainTable) × (table_held image (pair_of e place) ≡ Some table)
  pair_table i e place at =
      let own = entry_table i e at in
      let parts = three_parts e.schema e.segments place 2 image own.0 own.1 in
      let all : IsTable (rows_under e.schema (parts.0 ++ (parts.1 ++ parts.2))) = subst (λ (rs : List (List Cell)). IsTable (rows_under e.schema rs)) parts.4 own.2 in
      let back = (laws.cut e.schema parts.0 (parts.1 ++ parts.2) all).1 in
      let pair = (laws.cut e.schema parts.1 parts.2 back).0 in
      (rows_under e.schema parts.1, read_is_held laws image (pair_of e place) (rows_under e.schema parts.1) pair refl parts.3)

  -- each segment has its rows
  rows_there : (i : ℕ) (e : PlainEntry) (place : ℕ) (g : Segment) → slice_get c i ≡ Some e → slice_get e.segments place ≡ Some g → rows_in_segment e.schema g (bytes_of g image) ≡ None → ⊥
  unfolding rows_held segment_rows
  rows_there i e place g at there none =
      let own = entry_table i e at in
      let parts = three_parts e.schema e.segments place 1 image own.0 own.1 in
      let one : rows_held e.schema (g ∷ []) image ≡ Some parts.1 = ap (λ (ss : List Segment). rows_held e.schema ss image) (sym (one_from e.segments place g there)) ∙ parts.3 in
      let lacks : None ≡ Some parts.1 = sym (ap (λ (o : Option (List (List Cell))). joined_rows o (Some [])) none) ∙ one in
      absurd (cc lacks)

  -- so its bytes can be read, and are those that were written
  bytes_there : (i : ℕ) (e : PlainEntry) (place : ℕ) (g : Segment) → slice_get c i ≡ Some e → slice_get e.segments place ≡ Some g → bytes_of g image ≡ None → ⊥
  bytes_there i e place g at there none = rows_there i e place g at there (ap (rows_in_segment e.schema g) none ∙ rows_unread e.schema g)

  undamaged_there : (i : ℕ) (e : PlainEntry) (place : ℕ) (g : Segment) → slice_get c i ≡ Some e → slice_get e.segments place ≡ Some g → is_undamaged g.digest (bytes_of g image) ≡ false → ⊥
  undamaged_there i e place g at there damaged = rows_there i e place g at there (rows_damaged e.schema g (bytes_of g image) damaged)

  pair_fails : (tells : Bool) → tells ≡ true → (r : Refusal) → UnreadsInPairs tells image c r → FailsReading r
  pair_fails tells told r unreads = by_refusal r unreads.unread
    where
      by_refusal : (q : Refusal) → UnreadsPair tells image unreads.entry unreads.place q → FailsReading q
      by_refusal refusals.Device u = tt
      by_refusal refusals.OutOfMemory u = tt
      by_refusal (refusals.SegmentUnread number) (at, is, (inside, unread)) =
          let own = pair_table unreads.number unreads.entry unreads.place unreads.at in
          let found = at_name c unreads.number unreads.entry k.order unreads.at in
          let within = (entry_is unreads.entry (found_passes is_entry c unreads.entry.name unreads.entry k.entries found)).schema in
          absurd (unread_not_held laws image (pair_of unreads.entry unreads.place) at own.0 within (unread told) own.1)
      by_refusal (refusals.SegmentDamaged number) (at, is, (inside, damaged)) =
          let own = pair_table unreads.number unreads.entry unreads.place unreads.at in
          let found = at_name c unreads.number unreads.entry k.order unreads.at in
          let within = (entry_is unreads.entry (found_passes is_entry c unreads.entry.name unreads.entry k.entries found)).schema in
          absurd (damaged_not_held laws image (pair_of unreads.entry unreads.place) at own.0 within (damaged told) own.1)
      by_refusal _ u = absurd u

  last_fails : (tells : Bool) → tells ≡ true → (r : Refusal) → UnreadsMoving tells image c r → FailsReading r
  last_fails tells told r unreads = by_refusal r unreads.unread
    where
      by_refusal : (q : Refusal) → LacksBytes tells image unreads.segment unreads.place q → FailsReading q
      by_refusal refusals.Device u = tt
      by_refusal refusals.OutOfMemory u = tt
      by_refusal (refusals.SegmentUnread number) u = absurd (bytes_there unreads.number unreads.entry unreads.place unreads.segment unreads.last.found unreads.last.at (u.1 told))
      by_refusal (refusals.SegmentDamaged number) u = absurd (undamaged_there unreads.number unreads.entry unreads.place unreads.segment unreads.last.found unreads.last.at (u.1 told))
      by_refusal _ u = absurd u

  -- so a step is not decided only for want of memory, or because the device failed
  pub step_fails : (tells : Bool) → tells ≡ true → (r : Refusal) → UnreadsStep tells image c r → FailsReading r
  step_fails tells told r (inl pair) = pair_fails tells told r pair
  step_fails tells told r (inr (stay, last)) = last_fails tells told r last
