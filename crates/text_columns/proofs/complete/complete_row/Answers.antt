use Rattle.std.proofs.Common.{◌≡◌, ◌<◌, length, sym, ap, ◌∙◌, arith}
use Rattle.std.specs.Prelude.{Some, slice_get}
use Rattle.std.proofs.lemmas.Option.{slice_get-get_or}
use Rattle.text_columns.proofs.LineRows.{named_all, named_more, named_none}
use Rattle.text_columns.proofs.complete.complete_row.Goals as goal

pub loop-i-init : goal.loop-i-init
loop-i-init c = record { some = omega arith; few = omega arith; half = λ date_form cs rows found holds. named_none date_form cs found rows c.args.weights.now c.args.builders.now holds }

pub loop-i-preserved : goal.loop-i-preserved
loop-i-preserved c =
    let i = c.loop-i.i in
    let bs = c.loop-i.builders in
    let ws = c.args.weights.now in
    let old = c.index-builders-i.result in
    let within : i < length bs = omega (arith, c.loop-i-test.true, c.loop-i.auto.builders) in
    let here : slice_get bs i ≡ Some old = slice_get-get_or bs i old within ∙ ap Some (sym c.index-builders-i.is) in
    let inside : i < length ws = omega (arith, within, c.requires, c.loop-i.auto.builders) in
    record {
      some = omega (arith, c.loop-i.invariant.some);
      few = omega (arith, c.loop-i.invariant.few, c.if-cell_weight-weight.false);
      half = λ date_form cs rows found holds.
          let completes = rw (c.in-Some.is, ← c.index-builders-i.is) at (c.in_ok-cell_weight.ensures date_form) in
          named_more date_form cs found rows i c.loop-i.weight c.in-Some.cell_weight _ ws bs old c.complete.new.builder here (slice_get-get_or ws i _ inside) completes (c.loop-i.invariant.half date_form cs rows found holds);
    }

pub returns-clause-kept : goal.returns-clause-kept
returns-clause-kept c =
    λ date_form cs rows found holds.
    named_all date_form cs found rows c.loop-i.i c.loop-i.weight c.args.weights.now c.loop-i.builders (omega (arith, c.loop-i-test.false, c.loop-i.auto.builders)) (c.loop-i.invariant.half date_form cs rows found holds)
