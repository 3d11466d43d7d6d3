use Rattle.std.specs.Prelude.{Option}
use Rattle.std.specs.List.{flat_map}
use Rattle.std.proofs.Common.{◌++◌, ℕ, true, List, ap, arith, drop, length, length-append, sym, subst, take, ◌∙◌}
use Rattle.std.proofs.lemmas.Bool.{and_parts}
use Rattle.std.proofs.lemmas.List.{take-append-drop}
use Rattle.std.proofs.lemmas.Result.{IfOk-weaker}
use Rattle.arrow_schema.specs.Column.{Column, Index}
use Rattle.arrow_schema.specs.View.{column_of, index_of}
use Rattle.cells.specs.Cell.{Cell}
use Rattle.cells.specs.Dictionary.{entries_of, is_within}
use Rattle.dictionary_codes.specs.Named.{named_cells}
use Rattle.dictionary_codes.specs.Room.{IsRoomFor}
use Rattle.table_cut.specs.inner.Columns.{cells_at_place, has_sound_array}
use Rattle.table_cut.specs.inner.Fit.{entries_fit}
use Rattle.table_cut.proofs.FitLemmas.{all_room_for, few_fit, named_room, run_counted}
use Rattle.table_cut.proofs.columns_room.coded_column_room.Goals as goal

pub returns-in-None : goal.returns-in-None
returns-in-None c =
    let col : Column = column_of c.args.field.now in
    let before : List Cell = flat_map (cells_at_place c.args.place col) c.args.piece.now in
    let own : List Cell = cells_at_place c.args.place col c.args.run in
    all_room_for (entries_fit (index_of c.args.spec)) before own c.args.run.len (sym (run_counted c.args.place col c.args.run))
    (λ k le. ap (λ (o : Option ℕ). is_within o (length (entries_of (before ++ take k own)))) (sym c.entry_limit.ensures ∙ c.in-None.is))

pub returns-then-are_few : goal.returns-then-are_few
returns-then-are_few c =
    let col : Column = column_of c.args.field.now in
    let before : List Cell = flat_map (cells_at_place c.args.place col) c.args.piece.now in
    let own : List Cell = cells_at_place c.args.place col c.args.run in
    let size = run_counted c.args.place col c.args.run in
    let few = c.are_few.ensures c.if-are_few.true c.args.place col in
    all_room_for (entries_fit (index_of c.args.spec)) before own c.args.run.len (sym size)
    (λ k le.
    let all = length-append before (take k own) in
    let whole = ap length (take-append-drop k own) in
    let parts = length-append (take k own) (drop k own) in
    few_fit (index_of c.args.spec) c.in-Some.most (before ++ take k own) (sym c.entry_limit.ensures ∙ c.in-Some.is) (omega (arith, all, whole, parts, size, few, c.if-run-most.true)))

pub returns-in_ok-name_piece-in-Some : goal.returns-in_ok-name_piece-in-Some
returns-in_ok-name_piece-in-Some c =
    let col : Column = column_of c.args.field.now in
    let index : Index = index_of c.args.spec in
    let most : ℕ = c.in-Some.most in
    let before : List Cell = flat_map (cells_at_place c.args.place col) c.args.piece.now in
    let own : List Cell = cells_at_place c.args.place col c.args.run in
    let start : List Cell = named_cells c.name_piece.new.entries in
    let new : List Cell = named_cells c.name_slots.new.entries in
    let cells = c.slots_at.ensures.cells col (and_parts (has_sound_array c.args.place col c.args.run) true c.requires.own.sound).0 in
    IfOk-weaker c.name_slots.result _ _
    (λ n room. named_room index most before start new own n (sym c.entry_limit.ensures ∙ c.in-Some.is) c.in_ok-name_piece-in-Some.ensures
    (subst (λ (cs : List Cell). IsRoomFor most start new cs n) cells room))
    c.name_slots.ensures
