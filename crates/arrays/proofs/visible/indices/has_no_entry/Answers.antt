use Rattle.std.specs.Prelude.{ℤ, ◌&&◌}
use Rattle.std.proofs.Common.{Bool, List, arith, ap, sym, ◌∙◌}
use Rattle.std.proofs.lemmas.Bool.{and_right}
use Rattle.arrow_schema.specs.View.{index_of}
use Rattle.cells.specs.Cell.{Cell}
use Rattle.columns.specs.Array.{dictionary_in}
use Rattle.columns.specs.CellAt.{is_valid, index_at, entries_of_kind}
use Rattle.columns.specs.View.{view_array}
use Rattle.columns.specs.Visible.{is_past}
use Rattle.arrays.proofs.VisibleSlots.{not_past}
use Rattle.arrays.proofs.visible.indices.has_no_entry.Goals as goal

pub returns-in-Some : goal.returns-in-Some
returns-in-Some g c = λ kind.
    let index : ℤ = index_at (index_of c.args.slots.spec) (view_array c.args.slots.view) c.args.i in
    let entries : List Cell = entries_of_kind kind (dictionary_in (view_array c.args.slots.view)) in
    let inside = not_past index entries c.in-Some.field-0 c.in-Some.ensures.named (omega (arith, c.in-Some.ensures.below, c.requires.limit, c.requires.count kind)) in
    sym (and_right (is_valid (view_array c.args.slots.view) c.args.i) (is_past index entries) inside)

pub returns-then-is_valid : goal.returns-then-is_valid
returns-then-is_valid g c = λ kind.
    let index : ℤ = index_at (index_of c.args.slots.spec) (view_array c.args.slots.view) c.args.i in
    let entries : List Cell = entries_of_kind kind (dictionary_in (view_array c.args.slots.view)) in
    c.is_past.ensures index entries c.sized_number.ensures (c.requires.count kind) ∙ ap (λ (valid : Bool). valid && is_past index entries) c.if-is_valid.ensures

pub returns-else-is_valid : goal.returns-else-is_valid
returns-else-is_valid g c = λ kind.
    let index : ℤ = index_at (index_of c.args.slots.spec) (view_array c.args.slots.view) c.args.i in
    let entries : List Cell = entries_of_kind kind (dictionary_in (view_array c.args.slots.view)) in
    c.if-is_valid.false ∙ ap (λ (valid : Bool). valid && is_past index entries) c.if-is_valid.ensures
