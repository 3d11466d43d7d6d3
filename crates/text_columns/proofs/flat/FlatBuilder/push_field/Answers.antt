use Rattle.std.proofs.Common.{◌∙◌, refl, sym}
use Rattle.text_columns.specs.declared.flat.FlatBuilder.{FlatBuilder}
use Rattle.text_columns.proofs.Taken.{field_kept, null_field}
use Rattle.text_import.specs.FieldForm.{field_form}
use Rattle.text_columns.proofs.flat.FlatBuilder.push_field.Goals as goal

pub returns-then-is_null : goal.returns-then-is_null
returns-then-is_null c =
    null_field (field_form c.args.form.now) c.args.text.now c.args.self.now c.push_null.new.self c.push_null.result (sym c.is_null.ensures ∙ c.if-is_null.true) c.push_null.ensures

pub returns : goal.returns
returns c =
    let new : FlatBuilder = record { nullable = c.args.self.now.nullable; valid = c.push.new.self; values = c.push_text.new.values; coding = c.push_text.new.coding } in
    field_kept (field_form c.args.form.now) c.args.text.now c.in-Some.weight c.args.self.now new (sym c.is_null.ensures ∙ c.if-is_null.false) refl c.in_ok-push.ensures.items
    (rw c.in-Some.is at c.in_ok-weight.ensures)
