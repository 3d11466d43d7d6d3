use Rattle.std.proofs.Common.{◌≡◌, ◌≤◌, List, take}
use Rattle.sector_dev.specs.Disk.{now, shown_image}
use Rattle.arrow_schema.specs.Column.{PlainSchema}
use Rattle.arrow_schema.specs.Limits.{IsWithinLimits}
use Rattle.cells.specs.Cell.{Cell}
use Rattle.cells.specs.Weight.{table_weight}
use Rattle.cells.specs.declared.limits.TheConstants.{MAX_TABLE_WEIGHT}
use Rattle.ipc_write.specs.Written.{schema_message}
use Rattle.store_runs.specs.Calls.{done}
use Rattle.store_runs.specs.Reading.{OnlyReadsDevice}
use Rattle.store_changes.specs.Ahead.{IsAhead}
use Rattle.store_changes.specs.inner.ReadRows.{ReadsRows}
use Rattle.store.specs.inner.Taking.{TakesUnder}
use Rattle.store.proofs.taking.take_segments.Given as goal

-- the rows of the first segments were taken
abbrev pub invariant-loop-place : goal.invariant-loop-place
invariant-loop-place g l = let D = g.D.SegmentSource in let T = g.T.TakesRows in record {
  reads : OnlyReadsDevice D.size D.story D.failed D.tells done l.fn.device l.device;
  goes_on : D.goes_on l.fn.device l.device;
  ahead : IsAhead D.tells (shown_image (now (D.story l.device))) l.segments l.place l.ahead;
  light : l.weight ≤ MAX_TABLE_WEIGHT;
  takes : TakesUnder (T.takes l.taker) l.front;
  taken : (s : PlainSchema) → IsWithinLimits s → l.front ≡ schema_message s → (rows : List (List Cell))
      × ReadsRows D.tells (shown_image (now (D.story l.fn.device))) s (take l.place l.segments) rows × T.has_taken l.fn.start rows l.taker × (l.weight ≡ table_weight s rows);
}
