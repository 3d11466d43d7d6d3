-- The numbers of tables and segments after a change.
use Rattle.std.specs.Prelude.{◌≡◌, ◌≤◌, ◌+◌, length}
use Rattle.catalogue.specs.Entries.{PlainEntry, PlainCatalogue, segment_count}

-- an entry is added, or replaces one
pub record HasMore (c : PlainCatalogue) (e : PlainEntry) (d : PlainCatalogue) : Type 0 where
  pub tables : length d ≤ length c + 1
  pub segments : segment_count d ≤ segment_count c + length e.segments

-- an entry replaces another one
pub record HasSame (c : PlainCatalogue) (old new : PlainEntry) (d : PlainCatalogue) : Type 0 where
  pub tables : length d ≡ length c
  pub segments : segment_count d + length old.segments ≡ segment_count c + length new.segments

-- an entry is removed
pub record HasFewer (c : PlainCatalogue) (e : PlainEntry) (d : PlainCatalogue) : Type 0 where
  pub tables : length d + 1 ≡ length c
  pub segments : segment_count d + length e.segments ≡ segment_count c
