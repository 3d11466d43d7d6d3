use Rattle.std.specs.Prelude.{not, ◌||◌}
use Rattle.std.proofs.Common.{◌≡◌, Bool, true, false, arith, ap, sym, ◌∙◌}
use Rattle.arrow_schema.specs.Column.{Kind}
use Rattle.arrow_schema.specs.Parts.{is_nulls}
use Rattle.arrow_schema.specs.View.{kind_of}
use Rattle.columns.specs.Array.{Array}
use Rattle.columns.specs.CellAt.{is_valid}
use Rattle.columns.specs.View.{view_array}
use Rattle.arrays.proofs.EntryNulls.{only_null, only_past}
use Rattle.arrays.proofs.visible.nulls.is_null_at.Goals as goal

pub returns-then-number-slots : goal.returns-then-number-slots
returns-then-number-slots c = sym (only_past (kind_of c.args.data_type.now) (view_array c.args.entries) c.args.number (omega arith))

pub returns-then-is_of_nulls : goal.returns-then-is_of_nulls
returns-then-is_of_nulls c =
    let kind : Kind = kind_of c.args.data_type.now in
    let a : Array = view_array c.args.entries in
    let of_nulls : is_nulls kind ≡ true = sym c.is_of_nulls.ensures ∙ c.if-is_of_nulls.true in
    c.if-is_of_nulls.true ∙ ap (λ (x : Bool). x || not (is_valid a c.args.number)) (sym of_nulls) ∙ sym (only_null kind a c.args.number (omega arith))

pub returns-else-is_of_nulls : goal.returns-else-is_of_nulls
returns-else-is_of_nulls c =
    let kind : Kind = kind_of c.args.data_type.now in
    let a : Array = view_array c.args.entries in
    let filled : is_nulls kind ≡ false = sym c.is_of_nulls.ensures ∙ c.if-is_of_nulls.false in
    ap not c.is_valid.ensures ∙ ap (λ (x : Bool). x || not (is_valid a c.args.number)) (sym filled) ∙ sym (only_null kind a c.args.number (omega arith))
