use Rattle.std.proofs.Common.{◌≡◌, take}
use Rattle.sector_dev.specs.Disk.{now, shown_image}
use Rattle.store_changes.specs.Ahead.{IsAhead}
use Rattle.store_changes.specs.inner.ReadRows.{ReadsRows}
use Rattle.store_changes.specs.inner.TableBuilder.{table_so_far}
use Rattle.store_runs.specs.Calls.{done}
use Rattle.store_runs.specs.Reading.{OnlyReadsDevice}
use Rattle.store_changes.proofs.reading.read_segments.Given as goal

-- the rows so far are those of the first segments
abbrev pub invariant-loop-place : goal.invariant-loop-place
invariant-loop-place g l = let D = g.D.SegmentSource in record {
  reads : OnlyReadsDevice D.size D.story D.failed D.tells done l.fn.device l.device;
  goes_on : D.goes_on l.fn.device l.device;
  ahead : IsAhead D.tells (shown_image (now (D.story l.device))) l.segments l.place l.ahead;
  schema : (table_so_far l.gathered).schema ≡ (table_so_far l.fn.empty).schema;
  read : ReadsRows D.tells (shown_image (now (D.story l.fn.device))) (table_so_far l.fn.empty).schema (take l.place l.segments) (table_so_far l.gathered).rows;
}
