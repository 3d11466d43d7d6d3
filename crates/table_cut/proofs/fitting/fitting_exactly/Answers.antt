use Rattle.std.proofs.Common.{arith}
use Rattle.arrow_schema.specs.View.{schema_of}
use Rattle.table_cut.specs.Rows.{arrays_of_run}
use Rattle.table_cut.proofs.SpanWeights.{next_weighs}
use Rattle.table_cut.proofs.fitting.fitting_exactly.Goals as goal

pub loop-i-preserved : goal.loop-i-preserved
loop-i-preserved c =
    let more = next_weighs (schema_of c.args.schema.now) (arrays_of_run c.args.run) c.args.run.from c.args.run.len c.loop-i.i (omega (arith, c.loop-i-test.true)) in
    record {
      weight = omega (arith, more, c.loop-i.invariant.weight, c.loop-i.invariant.light, c.weight_at.ensures, c.add_weights-more.ensures, c.if-more-gt-MAX_PIECE_WEIGHT.false);
      light = omega (arith, c.if-more-gt-MAX_PIECE_WEIGHT.false);
    }
