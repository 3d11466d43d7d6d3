use Rattle.std.proofs.Common.{◌≡◌, take}
use Rattle.arrow_schema.specs.View.{schema_of}
use Rattle.cells.specs.Weight.{capped_weight}
use Rattle.table_cut.specs.inner.Weights.{piece_weight}
use Rattle.table_cut.proofs.fitting.runs_weight.Given as goal

abbrev pub invariant-loop-run : goal.invariant-loop-run
invariant-loop-run l = l.total ≡ capped_weight (piece_weight (schema_of l.schema) (take l.run-index l.runs))
