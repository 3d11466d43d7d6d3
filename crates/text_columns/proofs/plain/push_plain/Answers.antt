use Rattle.std.proofs.Common.{◌≡◌, ◌∙◌, ◌+◌, ◌<◌, ap, arith, length, length-set, refl, sym}
use Rattle.std.specs.Prelude.{Some, slice_get}
use Rattle.std.proofs.lemmas.Option.{slice_get-get_or}
use Rattle.text_columns.proofs.PlainRows.{begun_more, begun_none, ended}
use Rattle.text_import.specs.FieldForm.{field_form}
use Rattle.text_columns.proofs.plain.push_plain.Goals as goal

pub loop-i-init : goal.loop-i-init
loop-i-init c = record { some = omega arith; few = omega arith; within = c.requires; begun = begun_none c.args.text.now (field_form c.args.form.now) c.args.from c.args.builders.now c.requires }

pub loop-i-preserved : goal.loop-i-preserved
loop-i-preserved c =
    let i = c.loop-i.i in
    let bs = c.loop-i.builders in
    let b = c.index-builders-i.result in
    let within : i < length bs = omega (arith, c.loop-i-test.true, c.loop-i.auto.builders) in
    let here : slice_get bs i ≡ Some b = slice_get-get_or bs i b within ∙ ap Some (sym c.index-builders-i.is) in
    let pushed = rw (c.in-Some.is, ← c.index-builders-i.is) at c.in_ok-field.ensures in
    let more =
    begun_more c.args.text.now (field_form c.args.form.now) c.args.from c.loop-i.at c.in-Some.field.end i c.loop-i.weight c.in-Some.field.weight c.args.builders.now bs b c.push_plain_field.new.builder c.loop-i.invariant.begun
    pushed.field pushed.unquoted here pushed.keeps (sym c.goes_on.ensures ∙ c.if-not-goes_on.false) in
    record { some = omega (arith, c.loop-i.invariant.some); few = omega (arith, c.loop-i.invariant.few, c.if-cell_weight-weight.false); within = more.within; begun = more }

pub returns-then-not-goes_on-clause-pushed : goal.returns-then-not-goes_on-clause-pushed
returns-then-not-goes_on-clause-pushed c =
    let i = c.loop-i.i in
    let bs = c.loop-i.builders in
    let b = c.index-builders-i.result in
    let within : i < length bs = omega (arith, c.loop-i-test.true, c.loop-i.auto.builders) in
    let here : slice_get bs i ≡ Some b = slice_get-get_or bs i b within ∙ ap Some (sym c.index-builders-i.is) in
    let pushed = rw (c.in-Some.is, ← c.index-builders-i.is) at c.in_ok-field.ensures in
    ended c.args.text.now (field_form c.args.form.now) c.args.from c.loop-i.at c.in-Some.field.end i c.loop-i.weight c.in-Some.field.weight c.args.builders.now bs b c.push_plain_field.new.builder c.loop-i.invariant.begun
    pushed.field pushed.unquoted here pushed.keeps
    (record { next = c.behind_line-next.result; weight = c.loop-i.weight + c.in-Some.field.weight })
    (sym c.goes_on.ensures ∙ c.if-not-goes_on.true) refl (omega (arith, c.if-i-builders.false, length-set bs i c.push_plain_field.new.builder)) c.loop-i.auto.builders c.behind_line-next.ensures.within c.behind_line-next.ensures.rest
