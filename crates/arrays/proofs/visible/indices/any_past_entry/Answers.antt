use Rattle.std.specs.Prelude.{option_map}
use Rattle.std.proofs.Common.{ap, sym, ◌∙◌}
use Rattle.std.specs.List.{list_any, range_with_len}
use Rattle.arrow_schema.specs.Column.{Kind}
use Rattle.arrow_schema.specs.View.{column_of, index_of}
use Rattle.arrow_schema.specs.Parts.{kind_of_column}
use Rattle.arrow_schema.specs.laws.Parts.{index_of_field}
use Rattle.columns.specs.View.{view_array}
use Rattle.arrays.proofs.VisibleSlots.{no_index_tested, index_tested, past}
use Rattle.arrays.proofs.visible.indices.any_past_entry.Goals as goal

pub returns-in-None : goal.returns-in-None
returns-in-None c =
    sym (no_index_tested (column_of c.args.field.now) (view_array c.args.view) c.args.from c.args.count (index_of_field c.args.field.now ∙ ap (option_map index_of) c.in-None.is))

pub returns-in-Some : goal.returns-in-Some
returns-in-Some c =
    let kind : Kind = kind_of_column (column_of c.args.field.now) in
    c.any_past.ensures kind
    ∙ (λ j. list_any (past (c.new-slots.ensures.spec j) (c.new-slots.ensures.view j) kind) (range_with_len c.args.from c.args.count))
    ∙ sym (index_tested (column_of c.args.field.now) (index_of c.in-Some.spec) (view_array c.args.view) c.args.from c.args.count (index_of_field c.args.field.now ∙ ap (option_map index_of) c.in-Some.is))
