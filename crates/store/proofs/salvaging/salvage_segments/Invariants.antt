use Rattle.std.specs.Prelude.{◌≡◌, take}
use Rattle.sector_dev.specs.Disk.{now, shown_image}
use Rattle.arrow_schema.specs.Column.{PlainSchema}
use Rattle.arrow_schema.specs.Limits.{IsWithinLimits}
use Rattle.ipc_write.specs.Written.{schema_message}
use Rattle.store_runs.specs.Calls.{done}
use Rattle.store_runs.specs.Reading.{OnlyReadsDevice}
use Rattle.store.specs.Salvaging.{plain_left}
use Rattle.store.specs.inner.Salvaging.{SalvagesEach}
use Rattle.store.proofs.salvaging.salvage_segments.Given as goal

-- the first segments were salvaged
abbrev pub invariant-loop-place : goal.invariant-loop-place
invariant-loop-place g l = let D = g.D.SectorDevice in record {
  reads : OnlyReadsDevice D.size D.story D.failed D.tells done l.fn.device l.device;
  salvaged : (s : PlainSchema) → IsWithinLimits s → l.front ≡ schema_message s → SalvagesEach D.tells (shown_image (now (D.story l.fn.device))) s (take l.place l.segments) (g.W.Write.contents l.fn.writer) (g.W.Write.contents l.writer) (plain_left l.left_out.items);
}
