-- What an image holds depends on the runs of its catalogue alone.
use Rattle.std.specs.Prelude.{◌≡◌, ◌≤◌, ◌<◌, ◌+◌, ◌^◌, ◌==◌, ◌&&◌, ℕ, true, nat_le, nat_lt, List, [], ◌∷◌, ◌++◌, map, Option, Some, refl}
use Rattle.std.specs.List.{list_all}
use Rattle.std.proofs.Common.{inl, inr, sym, ap, ◌∙◌, arith}
use Rattle.std.proofs.lemmas.Bool.{and_parts, eqb-true}
use Rattle.sector_dev.specs.Disk.{Image}
use Rattle.segments.specs.Sectors.{sector_count}
use Rattle.segments.specs.laws.ReadBack.{same_bytes}
use Rattle.arrow_schema.specs.Column.{PlainSchema}
use Rattle.cells.specs.Cell.{Cell, PlainTable}
use Rattle.catalogue.specs.declared.entry.Segment.{Segment}
use Rattle.catalogue.specs.declared.limits.TheConstants.{MAX_SEGMENT_ROWS}
use Rattle.catalogue.specs.Entries.{PlainEntry, PlainCatalogue, is_between, is_filled, is_digest, is_segment, is_entry, page_runs, runs_in_segments, runs_in, runs_of}
use Rattle.catalogue.specs.laws.Kept.{entry_is}
use Rattle.commit.specs.declared.sector.Commit.{Commit}
use Rattle.commit.specs.Standing.{rules, standing, InSome}
use Rattle.tables.specs.Tables.{Tables, no_tables}
use Rattle.store_runs.specs.Held.{rows_in_segment, segment_rows, joined_rows, rows_held, table_of_rows, table_held, with_held, tables_held, rows_or_unknown, rows_known, HeldTable, held_entry, each_held, held_of, held_by}
use Rattle.pages.specs.Stored.{stored_reading}
use Rattle.pages.specs.laws.Local.{in_left, in_right}

-- a table of this entry with these rows
abbrev pub held_as : PlainEntry → List (Option (List Cell)) → HeldTable
held_as e known = record { name = e.name; schema = e.schema; rows = known }

-- the sectors of a segment are those that its bytes need
pub sectors_of : (segment : Segment) → is_segment segment ≡ true → segment.place.run.count ≡ sector_count segment.place.bytes
sectors_of segment sound =
    let e = segment.place in
    let filled = and_parts (is_filled 1 e) (is_between 1 MAX_SEGMENT_ROWS segment.rows && is_digest segment.digest) sound in
    let some = and_parts (nat_lt e.run.start (2 ^ 64) && nat_lt e.bytes (2 ^ 64)) (nat_le 1 e.bytes && (e.run.count == sector_count e.bytes)) filled.0 in
    eqb-true e.run.count (sector_count e.bytes) (and_parts (nat_le 1 e.bytes) (e.run.count == sector_count e.bytes) some.1).1

-- ---- each table by itself

-- the table of an entry, with its name
abbrev pub named_table : Image → PlainEntry → List ℕ × Option PlainTable
named_table image e = (e.name, table_held image e)

-- the tables that are made of each by itself
tables_from : List (List ℕ × Option PlainTable) → Option Tables
tables_from [] = Some no_tables
tables_from ((name, table) ∷ others) = with_held name table (tables_from others)

from_tables : (image : Image) (c : PlainCatalogue) → tables_held image c ≡ tables_from (map (named_table image) c)
unfolding tables_held tables_from
from_tables image [] = refl
from_tables image (e ∷ es) = ap (with_held e.name (table_held image e)) (from_tables image es)

-- where each is the same, so are the tables
pub tables_by_table : (a b : Image) (c d : PlainCatalogue) → map (named_table a) c ≡ map (named_table b) d → tables_held a c ≡ tables_held b d
tables_by_table a b c d same = from_tables a c ∙ ap tables_from same ∙ sym (from_tables b d)

-- an image holds the same of each table of two catalogues, and so the same tables
abbrev pub HoldsAlike : Image → (old new : PlainCatalogue) → Type 0
HoldsAlike image old new = (each_held image new ≡ each_held image old) × (tables_held image new ≡ tables_held image old)

-- ---- images that agree

module _ (a b : Image) where
  pub same_segment : (schema : PlainSchema) (segment : Segment) → is_segment segment ≡ true
      → ((n : ℕ) → segment.place.run.start ≤ n → n < segment.place.run.start + segment.place.run.count → b n ≡ a n) → segment_rows schema segment b ≡ segment_rows schema segment a
  unfolding segment_rows
  same_segment schema segment sound same =
      let count = sectors_of segment sound in
      ap (rows_in_segment schema segment) (same_bytes b a segment.place.run.start segment.place.bytes (λ j lt. same (segment.place.run.start + j) (omega arith) (omega (arith, count, lt))))

  pub same_rows : (schema : PlainSchema) (segments : List Segment) → list_all is_segment segments ≡ true
      → ((n : ℕ) → InSome (map (λ (s : Segment). s.place.run) segments) n → b n ≡ a n) → rows_held schema segments b ≡ rows_held schema segments a
  unfolding rows_held
  same_rows schema [] sound same = refl
  same_rows schema (segment ∷ segments) sound same =
      let parts = and_parts (is_segment segment) (list_all is_segment segments) sound in
      let first = same_segment schema segment parts.0 (λ n low high. same n (inl (low, high))) in
      let others = same_rows schema segments parts.1 (λ n some. same n (inr some)) in
      λ i. joined_rows (first i) (others i)

  -- and one by one
  same_known : (schema : PlainSchema) (segments : List Segment) → list_all is_segment segments ≡ true
      → ((n : ℕ) → InSome (map (λ (s : Segment). s.place.run) segments) n → b n ≡ a n) → rows_known schema segments b ≡ rows_known schema segments a
  unfolding rows_known
  same_known schema [] sound same = refl
  same_known schema (segment ∷ segments) sound same =
      let parts = and_parts (is_segment segment) (list_all is_segment segments) sound in
      let first = same_segment schema segment parts.0 (λ n low high. same n (inl (low, high))) in
      let others = same_known schema segments parts.1 (λ n some. same n (inr some)) in
      λ i. rows_or_unknown segment.rows (first i) ++ others i

  -- what is asked of each entry of a catalogue
  same_mapped : {X : Type 0} (f h : PlainEntry → X) → ((e : PlainEntry) → is_entry e ≡ true → ((n : ℕ) → InSome (runs_in_segments e.segments) n → b n ≡ a n) → f e ≡ h e)
      → (c : PlainCatalogue) → list_all is_entry c ≡ true → ((n : ℕ) → InSome (runs_of c) n → b n ≡ a n) → map f c ≡ map h c
  same_mapped f h each [] sound same = refl
  same_mapped f h each (entry ∷ entries) sound same =
      let parts = and_parts (is_entry entry) (list_all is_entry entries) sound in
      let first = each entry parts.0 (λ n some. same n (in_left (runs_in entry) (runs_of entries) n (in_right (page_runs entry.page) (runs_in_segments entry.segments) n some))) in
      let others = same_mapped f h each entries parts.1 (λ n some. same n (in_right (runs_in entry) (runs_of entries) n some)) in
      λ i. first i ∷ others i

  -- images that agree on the runs of a catalogue hold the same of each of its tables
  pub same_each : (c : PlainCatalogue) → list_all is_entry c ≡ true → ((n : ℕ) → InSome (runs_of c) n → b n ≡ a n) → each_held b c ≡ each_held a c
  same_each =
      same_mapped (held_entry b) (held_entry a)
      (λ e sound same. let rows = same_known e.schema e.segments (entry_is e sound).segments same in ap (λ (known : List (Option (List Cell))). held_as e known) rows)

  -- and so the same tables
  pub same_tables : (c : PlainCatalogue) → list_all is_entry c ≡ true → ((n : ℕ) → InSome (runs_of c) n → b n ≡ a n) → tables_held b c ≡ tables_held a c
  same_tables c sound same =
      tables_by_table b a c c
      (same_mapped (named_table b) (named_table a)
      (λ e kept own. let rows = same_rows e.schema e.segments (entry_is e kept).segments own in ap (λ (o : Option (List (List Cell))). (e.name, table_of_rows e.schema o)) rows) c sound same)

-- what an image holds that a commit and its catalogue rule
pub held_is : (size : ℕ) (image : Image) (k : Commit) (c : PlainCatalogue) → standing stored_reading size image ≡ rules k c → held_by size image ≡ held_of image (rules k c)
unfolding held_by
held_is size image k c is = ap (held_of image) is
