use Rattle.std.proofs.Common.{◌≡◌, ◌≤◌, ◌+◌, true, Some, ap, sym, ◌∙◌, arith}
use Rattle.std.specs.Prelude.{nat_le}
use Rattle.std.proofs.lemmas.Bool.{and_parts, leb-true}
use Rattle.std.proofs.lemmas.Option.{slice_get_past}
use Rattle.arrow_schema.specs.View.{column_of}
use Rattle.cells.specs.Cell.{cells_of}
use Rattle.columns.specs.declared.borrowed.ArraySlice.{ArraySlice}
use Rattle.columns.specs.Array.{slots_in}
use Rattle.columns.specs.CellAt.{cell_at, cells_from}
use Rattle.columns.specs.Sound.{is_sound}
use Rattle.columns.specs.Texts.{have_utf8_texts}
use Rattle.columns.specs.Borrowed.{slice_cells}
use Rattle.columns.specs.View.{view_array}
use Rattle.columns.proofs.Texts.{text_at}
use Rattle.columns.proofs.Runs.{count_cells, cell_in}
use Rattle.columns.proofs.borrowing.run_get.Goals as goal

inside : (r : ArraySlice) → (is_sound (column_of r.field.now) (view_array r.view) ≡ true) × (r.start + r.count ≤ slots_in (view_array r.view))
    × (have_utf8_texts (cells_of (cells_from (cell_at (column_of r.field.now) (view_array r.view)) r.start r.count)) ≡ true)
inside r =
    let first = and_parts (is_sound (column_of r.field.now) (view_array r.view)) _ r.readable in
    let second = and_parts (nat_le (r.start + r.count) (slots_in (view_array r.view))) _ first.1 in
    (first.0, leb-true _ _ second.0, second.1)

pub returns-then-i-run : goal.returns-then-i-run
returns-then-i-run c =
    let r : ArraySlice = c.args.run.now in
    sym (slice_get_past (slice_cells r) c.args.i (omega (arith, count_cells (cell_at (column_of r.field.now) (view_array r.view)) r.start r.count)))

pub overflow_add-run : goal.overflow_add-run
overflow_add-run c = let h = inside c.args.run.now in omega (arith, h.1)

pub value-requires : goal.value-requires
value-requires c =
    let r : ArraySlice = c.args.run.now in
    let h = inside r in
    record {
      sound = h.0;
      within = omega (arith, h.1);
      texts = text_at (cell_at (column_of r.field.now) (view_array r.view)) r.start r.count c.args.i h.2 (omega arith);
    }

pub returns : goal.returns
returns c =
    let r : ArraySlice = c.args.run.now in
    ap Some c.value.ensures ∙ sym (cell_in (cell_at (column_of r.field.now) (view_array r.view)) r.start r.count c.args.i (omega arith))
