use Rattle.std.proofs.Common.{◌≡◌, ◌<◌, length, sym, ap, ◌∙◌, arith}
use Rattle.std.specs.Prelude.{Some, slice_get}
use Rattle.std.proofs.lemmas.Option.{slice_get-get_or}
use Rattle.csv.specs.Records.{fields_of}
use Rattle.text_columns.proofs.Rows.{half_all, half_more, half_none}
use Rattle.text_import.specs.FieldForm.{field_form}
use Rattle.text_columns.proofs.records.push_fields.Goals as goal

pub loop-i-init : goal.loop-i-init
loop-i-init c = record { some = omega arith; few = omega arith; half = λ cs rows keeps. half_none cs (field_form c.args.form.now) (fields_of c.args.row.now) rows c.args.builders.now keeps }

pub loop-i-preserved : goal.loop-i-preserved
loop-i-preserved c =
    let i = c.loop-i.i in
    let bs = c.loop-i.builders in
    let ts = fields_of c.args.row.now in
    let old = c.index-builders-i.result in
    let within : i < length bs = omega (arith, c.loop-i-test.true, c.loop-i.auto.builders) in
    let here : slice_get bs i ≡ Some old = slice_get-get_or bs i old within ∙ ap Some (sym c.index-builders-i.is) in
    let inside : i < length ts = omega (arith, within, c.requires, c.loop-i.auto.builders) in
    let text : slice_get ts i ≡ Some c.record_field.result.now = slice_get-get_or ts i _ inside ∙ ap Some (sym c.record_field.ensures) in
    let taken = rw (c.in-Some.is, ← c.index-builders-i.is) at c.in_ok-cell_weight.ensures in
    record {
      some = omega (arith, c.loop-i.invariant.some);
      few = omega (arith, c.loop-i.invariant.few, c.if-cell_weight-weight.false);
      half = λ cs rows keeps.
          half_more cs (field_form c.args.form.now) ts rows i c.loop-i.weight c.in-Some.cell_weight bs old c.push_field.new.self c.record_field.result.now here text taken (c.loop-i.invariant.half cs rows keeps);
    }

pub returns-clause-kept : goal.returns-clause-kept
returns-clause-kept c =
    λ cs rows keeps.
    half_all cs (field_form c.args.form.now) (fields_of c.args.row.now) rows c.loop-i.i c.loop-i.weight c.loop-i.builders (omega (arith, c.loop-i-test.false, c.loop-i.auto.builders))
    (c.loop-i.invariant.half cs rows keeps)
