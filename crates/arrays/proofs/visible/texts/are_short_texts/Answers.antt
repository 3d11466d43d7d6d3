use Rattle.std.specs.Prelude.{option_map}
use Rattle.std.proofs.Common.{◌≡◌, Some, ap, sym, ◌∙◌}
use Rattle.arrow_schema.specs.View.{column_of, index_of}
use Rattle.arrow_schema.specs.Parts.{kind_of_column}
use Rattle.arrow_schema.specs.laws.Parts.{kind_of_field, index_of_field}
use Rattle.columns.specs.Offsets.{width_of}
use Rattle.columns.specs.View.{view_array}
use Rattle.arrays.specs.inner.VisibleSpans.{text_width}
use Rattle.arrays.proofs.VisibleSlots.{texts_tested}
use Rattle.arrays.proofs.visible.texts.are_short_texts.Goals as goal

pub returns-in-None-Some : goal.returns-in-None-Some
returns-in-None-Some c =
    let wide : text_width (kind_of_column (column_of c.args.field.now)) ≡ Some (width_of c.in-None-Some.width)
    = ap text_width (kind_of_field c.args.field.now) ∙ sym c.text_width.ensures ∙ ap (option_map width_of) c.in-None-Some.is-1 in
    λ h. (texts_tested (column_of c.args.field.now) (width_of c.in-None-Some.width) (view_array c.args.view) c.args.from c.args.count
    (index_of_field c.args.field.now ∙ ap (option_map index_of) c.in-None-Some.is-0) wide) ∙ c.is_one_short_text.ensures h
