use Rattle.std.specs.Prelude.{ℤ}
use Rattle.std.proofs.Common.{List, sym, ap, ◌∙◌}
use Rattle.arrow_schema.specs.Column.{Kind}
use Rattle.arrow_schema.specs.View.{index_of, kind_of}
use Rattle.cells.specs.Cell.{Cell, null}
use Rattle.columns.specs.Array.{Array, Arrays, dictionary_in}
use Rattle.columns.specs.CellAt.{entries_of_kind, index_at}
use Rattle.columns.specs.View.{view_array}
use Rattle.std.proofs.Common.{get_or}
use Rattle.columns.specs.Visible.{is_null}
use Rattle.arrays.proofs.EntryNulls.{named_null, unnamed_null}
use Rattle.arrays.proofs.visible.nulls.is_null_in.Goals as goal

pub returns-in-None : goal.returns-in-None
returns-in-None c =
    let a : Array = view_array c.args.slots.view in
    let z : ℤ = index_at (index_of c.args.slots.spec) a c.args.i in
    unnamed_null z (entries_of_kind (kind_of c.args.data_type.now) (dictionary_in a)) (sym c.in-None.is ∙ c.number.ensures)

pub returns-in-Some : goal.returns-in-Some
returns-in-Some c =
    let kind : Kind = kind_of c.args.data_type.now in
    let a : Array = view_array c.args.slots.view in
    let z : ℤ = index_at (index_of c.args.slots.spec) a c.args.i in
    let cells : List Cell = entries_of_kind kind (dictionary_in a) in
    c.is_null_at.ensures
    ∙ ap (λ (d : Arrays). is_null (get_or (entries_of_kind kind d) c.in-Some.number null)) c.requires.only
    ∙ named_null z cells c.in-Some.number (sym c.in-Some.is ∙ c.number.ensures)
