use Rattle.std.proofs.Common.{◌≡◌, ◌≤◌, take}
use Rattle.sector_dev.specs.Disk.{now, shown_image}
use Rattle.arrow_schema.specs.Column.{PlainSchema}
use Rattle.arrow_schema.specs.Limits.{IsWithinLimits}
use Rattle.cells.specs.declared.limits.TheConstants.{MAX_TABLE_WEIGHT}
use Rattle.ipc_write.specs.Written.{schema_message}
use Rattle.store_runs.specs.Calls.{done}
use Rattle.store_runs.specs.Reading.{OnlyReadsDevice}
use Rattle.store_changes.specs.inner.Digesting.{DigestsRows}
use Rattle.store_changes.proofs.digests.segment_digests.Given as goal

-- the weight of the rows of the first segments, and the digests of the bytes that these come from
abbrev pub invariant-loop-place : goal.invariant-loop-place
invariant-loop-place g l = let D = g.D.SectorDevice in record {
  reads : OnlyReadsDevice D.size D.story D.failed D.tells done l.fn.device l.device;
  light : l.weight ≤ MAX_TABLE_WEIGHT;
  digested : (s : PlainSchema) → IsWithinLimits s → l.front ≡ schema_message s
      → DigestsRows D.tells (shown_image (now (D.story l.fn.device))) s (take l.place l.segments) l.weight l.digests.items;
}
