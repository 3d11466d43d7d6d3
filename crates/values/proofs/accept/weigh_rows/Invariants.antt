use Rattle.std.proofs.Common.{◌≡◌, map, drop}
use Rattle.arrow_schema.specs.View.{schema_of}
use Rattle.cells.specs.Weight.{capped_weight}
use Rattle.cells.specs.Row.{row_of}
use Rattle.values.proofs.AcceptLemmas.{reported_from}
use Rattle.values.proofs.accept.weigh_rows.Given as goal

-- the rest is reported as all rows are
abbrev pub invariant-loop-i : goal.invariant-loop-i
invariant-loop-i l =
    (reported_from (schema_of l.schema) l.i l.total (drop l.i (map row_of l.rows)) ≡ reported_from (schema_of l.schema) 0 0 (map row_of l.rows)) × (capped_weight l.total ≡ l.total)
