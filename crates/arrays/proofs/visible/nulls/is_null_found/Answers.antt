use Rattle.std.specs.Prelude.{not, ◌||◌}
use Rattle.std.proofs.Common.{◌≡◌, Bool, true, false, ap, sym, ◌∙◌}
use Rattle.arrow_schema.specs.Column.{Kind}
use Rattle.arrow_schema.specs.View.{kind_of}
use Rattle.arrow_schema.specs.Parts.{is_nulls}
use Rattle.columns.specs.Array.{Array}
use Rattle.columns.specs.CellAt.{is_valid}
use Rattle.columns.specs.laws.SoundParts.{sound_validity}
use Rattle.columns.specs.View.{view_array}
use Rattle.columns.specs.Visible.{is_null}
use Rattle.arrays.proofs.VisibleSlots.{null_at}
use Rattle.arrays.proofs.visible.nulls.is_null_found.Goals as goal

pub is_valid-requires-clause-long : goal.is_valid-requires-clause-long
is_valid-requires-clause-long c =
    sound_validity (kind_of c.args.data_type.now) (view_array c.in-Some.entry.view) (c.in-Some.ensures.sound (kind_of c.args.data_type.now) c.requires.sound).1

pub is_valid-requires-clause-within : goal.is_valid-requires-clause-within
is_valid-requires-clause-within c = (c.in-Some.ensures.sound (kind_of c.args.data_type.now) c.requires.sound).0

pub returns-in-None : goal.returns-in-None
returns-in-None c = ap is_null (c.in-None.ensures.cell (kind_of c.args.data_type.now))

pub returns-then-is_of_nulls : goal.returns-then-is_of_nulls
returns-then-is_of_nulls c =
    let kind : Kind = kind_of c.args.data_type.now in
    let b : Array = view_array c.in-Some.entry.view in
    let unset : Bool = not (is_valid b c.in-Some.entry.place) in
    let of_nulls : is_nulls kind ≡ true = sym c.is_of_nulls.ensures ∙ c.if-is_of_nulls.true in
    c.if-is_of_nulls.true ∙ ap (λ (x : Bool). x || unset) (sym of_nulls) ∙ sym (null_at kind b c.in-Some.entry.place) ∙ ap is_null (c.in-Some.ensures.cell kind)

pub returns-else-is_of_nulls : goal.returns-else-is_of_nulls
returns-else-is_of_nulls c =
    let kind : Kind = kind_of c.args.data_type.now in
    let b : Array = view_array c.in-Some.entry.view in
    let unset : Bool = not (is_valid b c.in-Some.entry.place) in
    let filled : is_nulls kind ≡ false = sym c.is_of_nulls.ensures ∙ c.if-is_of_nulls.false in
    ap not c.is_valid.ensures ∙ ap (λ (x : Bool). x || unset) (sym filled) ∙ sym (null_at kind b c.in-Some.entry.place) ∙ ap is_null (c.in-Some.ensures.cell kind)
