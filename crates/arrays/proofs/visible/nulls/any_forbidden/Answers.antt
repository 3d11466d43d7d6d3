use Rattle.std.specs.Prelude.{option_map}
use Rattle.std.specs.List.{list_any, range_with_len}
use Rattle.std.proofs.Common.{ap, sym, ◌∙◌}
use Rattle.arrow_schema.specs.Column.{Kind}
use Rattle.arrow_schema.specs.View.{column_of, index_of}
use Rattle.arrow_schema.specs.laws.Parts.{is_nullable_field, kind_of_field, index_of_field}
use Rattle.columns.specs.CellAt.{indexed_cell, kind_cell, unless_null}
use Rattle.columns.specs.View.{view_array}
use Rattle.columns.specs.Visible.{is_null}
use Rattle.arrays.proofs.VisibleSlots.{nulls_taken, nulls_tested, entry_nulls_tested}
use Rattle.arrays.proofs.visible.nulls.any_forbidden.Goals as goal

pub returns-then-field : goal.returns-then-field
returns-then-field c =
    sym (nulls_taken (column_of c.args.field.now) (view_array c.args.view) c.args.from c.args.count (is_nullable_field c.args.field.now ∙ c.if-field.true))

pub returns-in-None : goal.returns-in-None
returns-in-None c =
    c.any_null.ensures
    ∙ ap (λ (k : Kind). list_any (λ i. is_null (unless_null (kind_cell k) (view_array c.args.view) i)) (range_with_len c.args.from c.args.count)) (sym (kind_of_field c.args.field.now))
    ∙ sym (nulls_tested (column_of c.args.field.now) (view_array c.args.view) c.args.from c.args.count (is_nullable_field c.args.field.now ∙ c.if-field.false)
    (index_of_field c.args.field.now ∙ ap (option_map index_of) c.in-None.is))

pub returns-in-Some : goal.returns-in-Some
returns-in-Some c =
    c.any_null_entry.ensures
    ∙ ap (λ (k : Kind). list_any (λ i. is_null (unless_null (indexed_cell (index_of c.in-Some.spec) k) (view_array c.args.view) i)) (range_with_len c.args.from c.args.count)) (sym (kind_of_field c.args.field.now))
    ∙ sym (entry_nulls_tested (column_of c.args.field.now) (index_of c.in-Some.spec) (view_array c.args.view) c.args.from c.args.count (is_nullable_field c.args.field.now ∙ c.if-field.false)
    (index_of_field c.args.field.now ∙ ap (option_map index_of) c.in-Some.is))
