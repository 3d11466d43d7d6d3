use Rattle.std.specs.List.{flat_map, list_all}
use Rattle.std.proofs.Common.{◌≡◌, ◌++◌, ◌+◌, ℕ, true, List, ap, append_assoc, arith, drop, length, sym, subst, take, ◌∙◌}
use Rattle.arrow_schema.specs.Column.{Column}
use Rattle.arrow_schema.specs.View.{column_of}
use Rattle.cells.specs.Cell.{Cell}
use Rattle.cells.specs.Dictionary.{entries_of, with_entries}
use Rattle.dictionary_codes.specs.CodedCells.{is_coded}
use Rattle.dictionary_codes.specs.Named.{named_cells}
use Rattle.dictionary_codes.specs.Room.{IsRoomFor}
use Rattle.facts.specs.laws.Lists.{flat_map-item}
use Rattle.table_cut.specs.declared.row_run.RowRun.{RowRun}
use Rattle.table_cut.specs.inner.Columns.{cells_at_place, has_sound_array}
use Rattle.table_cut.proofs.FitLemmas.{all_of_part, field_coded, first_few, part_named, piece_at}
use Rattle.table_cut.proofs.RoomLemmas.{item_passes}
use Rattle.table_cut.proofs.columns_room.name_piece.Goals as goal

pub loop-run-init : goal.loop-run-init
unfolding with_entries
loop-run-init c = c.end.ensures

pub name_slots-requires-clause-sound : goal.name_slots-requires-clause-sound
name_slots-requires-clause-sound c =
    let col : Column = column_of c.args.field.now in
    let i : ℕ = c.loop-run.run-index in
    c.slots_at.ensures.sound col (item_passes (has_sound_array c.args.place col) c.args.piece.now i c.run-item.result c.loop-run-test.true c.run-item.is c.requires.counted.sound)

pub name_slots-requires-clause-coded : goal.name_slots-requires-clause-coded
name_slots-requires-clause-coded c =
    let col : Column = column_of c.args.field.now in
    let piece : List RowRun = c.args.piece.now in
    let i : ℕ = c.loop-run.run-index in
    let run : RowRun = c.run-item.result in
    let cells : List RowRun → List Cell = flat_map (cells_at_place c.args.place col) in
    let own : list_all is_coded (cells_at_place c.args.place col run) ≡ true =
    all_of_part is_coded (cells piece) (cells (take i piece)) (cells_at_place c.args.place col run) (cells (drop (i + 1) piece)) (piece_at c.args.place col piece i run c.loop-run-test.true c.run-item.is)
    (field_coded c.args.field.now c.args.spec (cells piece) c.requires.spec c.requires.counted.coded) in
    ap (list_all is_coded) (c.slots_at.ensures.cells col (item_passes (has_sound_array c.args.place col) piece i run c.loop-run-test.true c.run-item.is c.requires.counted.sound)) ∙ own

pub name_slots-requires-clause-few : goal.name_slots-requires-clause-few
name_slots-requires-clause-few c =
    let col : Column = column_of c.args.field.now in
    let piece : List RowRun = c.args.piece.now in
    let i : ℕ = c.loop-run.run-index in
    let cells : List RowRun → List Cell = flat_map (cells_at_place c.args.place col) in
    let own : List Cell = cells_at_place c.args.place col c.run-item.result in
    let split = piece_at c.args.place col piece i c.run-item.result c.loop-run-test.true c.run-item.is ∙ append_assoc (cells (take i piece)) own (cells (drop (i + 1) piece)) in
    let few = first_few c.args.most (cells piece) (cells (take i piece)) (own ++ cells (drop (i + 1) piece)) split c.requires.fits in
    omega (arith, ap length c.loop-run.invariant, few)

pub loop-run-preserved : goal.loop-run-preserved
loop-run-preserved c =
    let col : Column = column_of c.args.field.now in
    let piece : List RowRun = c.args.piece.now in
    let i : ℕ = c.loop-run.run-index in
    let run : RowRun = c.run-item.result in
    let cells : List RowRun → List Cell = flat_map (cells_at_place c.args.place col) in
    let own : List Cell = cells_at_place c.args.place col run in
    let start : List Cell = named_cells c.loop-run.entries in
    let new : List Cell = named_cells c.name_slots.new.entries in
    let n : ℕ = c.in_ok-name_slots.field-0 in
    let here = c.slots_at.ensures.cells col (item_passes (has_sound_array c.args.place col) piece i run c.loop-run-test.true c.run-item.is c.requires.counted.sound) in
    let room : IsRoomFor c.args.most start new own n = subst (λ (cs : List Cell). IsRoomFor c.args.most start new cs n) here c.in_ok-name_slots.ensures in
    part_named c.args.most (cells piece) (cells (take i piece)) own (cells (drop (i + 1) piece)) start new n
    (piece_at c.args.place col piece i run c.loop-run-test.true c.run-item.is) c.requires.fits c.loop-run.invariant room
    ∙ ap entries_of (sym (flat_map-item (cells_at_place c.args.place col) piece i run c.loop-run-test.true c.run-item.is))
