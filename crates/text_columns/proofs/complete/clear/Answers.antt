use Rattle.std.proofs.Common.{◌<◌, length, arith}
use Rattle.std.proofs.lemmas.Option.{slice_get_within}
use Rattle.text_columns.proofs.LineRows.{none_more}
use Rattle.text_columns.proofs.complete.clear.Goals as goal

pub loop-i-preserved : goal.loop-i-preserved
loop-i-preserved c = record {
  none = λ j w lt e. none_more c.loop-i.weights c.loop-i.i j w (omega (arith, c.loop-i-test.true, c.loop-i.auto.weights)) c.loop-i.invariant.none lt e;
}

pub returns : goal.returns
returns c = λ j w e.
    let within : j < length c.loop-i.weights = slice_get_within c.loop-i.weights j w e in
    c.loop-i.invariant.none j w (omega (arith, within, c.loop-i-test.false, c.loop-i.auto.weights)) e
