use Rattle.text_columns.proofs.Nulls.{NullsHalf}
use Rattle.text_columns.proofs.builder.+nulls.Given as goal

abbrev pub invariant-push_nulls_each-loop-i : goal.invariant-push_nulls_each-loop-i
invariant-push_nulls_each-loop-i l = record {
  unvisited : goal.unvisited-push_nulls_each-loop-i l;
  half : NullsHalf l.count l.i l.initial.builders l.builders;
}
