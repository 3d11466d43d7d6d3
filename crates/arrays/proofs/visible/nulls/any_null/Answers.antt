use Rattle.std.specs.Prelude.{not, ◌||◌}
use Rattle.std.specs.List.{range_with_len}
use Rattle.std.proofs.Common.{◌≡◌, Bool, true, false, ap, sym, ◌∙◌}
use Rattle.arrow_schema.specs.Column.{Kind}
use Rattle.arrow_schema.specs.View.{kind_of}
use Rattle.arrow_schema.specs.Parts.{is_nulls}
use Rattle.columns.specs.Array.{Array}
use Rattle.columns.specs.CellAt.{is_valid, kind_cell, unless_null}
use Rattle.columns.specs.View.{view_array}
use Rattle.columns.specs.Visible.{is_null}
use Rattle.arrays.proofs.VisibleSlots.{any_always, any_same, null_at}
use Rattle.arrays.proofs.visible.nulls.any_null.Goals as goal

pub returns-then-is_of_nulls : goal.returns-then-is_of_nulls
returns-then-is_of_nulls c =
    let kind : Kind = kind_of c.args.data_type.now in
    let a : Array = view_array c.args.view in
    let of_nulls : is_nulls kind ≡ true = sym c.is_of_nulls.ensures ∙ c.if-is_of_nulls.true in
    sym (any_always (λ i. is_null (unless_null (kind_cell kind) a i)) c.args.from c.args.count (λ i. null_at kind a i ∙ ap (λ (b : Bool). b || not (is_valid a i)) of_nulls))

pub returns-else-is_of_nulls : goal.returns-else-is_of_nulls
returns-else-is_of_nulls c =
    let kind : Kind = kind_of c.args.data_type.now in
    let a : Array = view_array c.args.view in
    let filled : is_nulls kind ≡ false = sym c.is_of_nulls.ensures ∙ c.if-is_of_nulls.false in
    c.any_unset.ensures
    ∙ sym (any_same (λ i. is_null (unless_null (kind_cell kind) a i)) (λ i. not (is_valid a i)) (range_with_len c.args.from c.args.count)
    (λ i. null_at kind a i ∙ ap (λ (b : Bool). b || not (is_valid a i)) filled))
