use Rattle.std.specs.Prelude.{option_map}
use Rattle.std.proofs.Common.{◌≡◌, Some, None, ap, sym, ◌∙◌}
use Rattle.arrow_schema.specs.View.{column_of, index_of}
use Rattle.arrow_schema.specs.Parts.{kind_of_column}
use Rattle.arrow_schema.specs.laws.Parts.{kind_of_field, index_of_field}
use Rattle.columns.specs.Offsets.{width_of}
use Rattle.columns.specs.View.{view_array}
use Rattle.arrays.specs.inner.VisibleSpans.{text_width}
use Rattle.arrays.proofs.VisibleSlots.{no_texts_tested, texts_tested, entry_texts_skipped}
use Rattle.arrays.proofs.visible.texts.any_bad_text.Goals as goal

pub returns-in-None-Some : goal.returns-in-None-Some
returns-in-None-Some c =
    let wide : text_width (kind_of_column (column_of c.args.field.now)) ≡ Some (width_of c.in-None-Some.width)
    = ap text_width (kind_of_field c.args.field.now) ∙ sym c.text_width.ensures ∙ ap (option_map width_of) c.in-None-Some.is-1 in
    c.any_not_utf8.ensures
    ∙ sym (texts_tested (column_of c.args.field.now) (width_of c.in-None-Some.width) (view_array c.args.view) c.args.from c.args.count
    (index_of_field c.args.field.now ∙ ap (option_map index_of) c.in-None-Some.is-0) wide)

pub returns-in_default : goal.returns-in_default
returns-in_default c =
    let none : text_width (kind_of_column (column_of c.args.field.now)) ≡ None = ap text_width (kind_of_field c.args.field.now) ∙ sym c.text_width.ensures ∙ ap (option_map width_of) c.in_default.is-1 in
    sym (no_texts_tested (column_of c.args.field.now) (view_array c.args.view) c.args.from c.args.count
    (index_of_field c.args.field.now ∙ ap (option_map index_of) c.in_default.is-0) none)

pub returns-in_default-2 : goal.returns-in_default-2
returns-in_default-2 c =
    sym (entry_texts_skipped (column_of c.args.field.now) (index_of c.in_default.field-0-0) (view_array c.args.view) c.args.from c.args.count
    (index_of_field c.args.field.now ∙ ap (option_map index_of) c.in_default.is-0))
