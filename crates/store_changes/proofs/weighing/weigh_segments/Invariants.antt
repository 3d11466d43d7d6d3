use Rattle.std.proofs.Common.{◌≡◌, ◌≤◌, take}
use Rattle.sector_dev.specs.Disk.{now, shown_image}
use Rattle.arrow_schema.specs.Column.{PlainSchema}
use Rattle.arrow_schema.specs.Limits.{IsWithinLimits}
use Rattle.cells.specs.declared.limits.TheConstants.{MAX_TABLE_WEIGHT}
use Rattle.ipc_write.specs.Written.{schema_message}
use Rattle.store_runs.specs.Calls.{done}
use Rattle.store_runs.specs.Reading.{OnlyReadsDevice}
use Rattle.store_changes.specs.Ahead.{IsAhead}
use Rattle.store_changes.specs.inner.ReadRows.{WeighsRows}
use Rattle.store_changes.proofs.weighing.weigh_segments.Given as goal

-- the weight so far is that of the rows of the first segments
abbrev pub invariant-loop-place : goal.invariant-loop-place
invariant-loop-place g l = let D = g.D.SegmentSource in record {
  reads : OnlyReadsDevice D.size D.story D.failed D.tells done l.fn.device l.device;
  goes_on : D.goes_on l.fn.device l.device;
  ahead : IsAhead D.tells (shown_image (now (D.story l.device))) l.segments l.place l.ahead;
  light : l.weight ≤ MAX_TABLE_WEIGHT;
  weighs : (s : PlainSchema) → IsWithinLimits s → l.front ≡ schema_message s → WeighsRows D.tells (shown_image (now (D.story l.fn.device))) s (take l.place l.segments) l.weight;
}
