use Rattle.std.proofs.Common.{◌≡◌, ◌+◌, ◌≤◌}
use Rattle.arrow_schema.specs.View.{schema_of}
use Rattle.table_cut.specs.inner.Weights.{front_weight}
use Rattle.table_cut.proofs.fitting.fitting_exactly.Given as goal

-- the rows so far fit, and weigh this much
abbrev pub invariant-loop-i : goal.invariant-loop-i
invariant-loop-i l =
    record {
      weight : l.weight ≡ l.before + front_weight (schema_of l.schema) l.run l.i;
      light : l.weight ≤ 16777216;
    }
