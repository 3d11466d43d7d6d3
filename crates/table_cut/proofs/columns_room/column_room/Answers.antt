use Rattle.std.specs.Prelude.{Option, option_map}
use Rattle.std.specs.List.{flat_map}
use Rattle.std.proofs.Common.{◌≡◌, ◌++◌, List, ap, sym, take, ◌∙◌}
use Rattle.std.proofs.lemmas.Result.{IfOk-weaker}
use Rattle.arrow_schema.specs.Column.{Column, Index}
use Rattle.arrow_schema.specs.View.{column_of, index_of}
use Rattle.arrow_schema.specs.declared.types.DictSpec.{DictSpec}
use Rattle.cells.specs.Cell.{Cell}
use Rattle.table_cut.specs.inner.Columns.{cells_at_place}
use Rattle.table_cut.specs.inner.Fit.{column_fits, entries_fit}
use Rattle.table_cut.proofs.FitLemmas.{all_room_for, field_fits, own_fits, run_counted, same_room}
use Rattle.table_cut.proofs.columns_room.column_room.Goals as goal

pub coded_column_room-requires-clause-fits : goal.coded_column_room-requires-clause-fits
coded_column_room-requires-clause-fits c =
    let before : List Cell = flat_map (cells_at_place c.args.place (column_of c.args.field.now)) c.args.piece.now in
    sym (field_fits c.args.field.now before c.requires.before.flat ∙ ap (λ (o : Option DictSpec). own_fits (option_map index_of o) before) c.in-Some.is) ∙ c.requires.fits

pub returns-in-None : goal.returns-in-None
returns-in-None c =
    let col : Column = column_of c.args.field.now in
    let before : List Cell = flat_map (cells_at_place c.args.place col) c.args.piece.now in
    let own : List Cell = cells_at_place c.args.place col c.args.run in
    all_room_for (column_fits col) before own c.args.run.len (sym (run_counted c.args.place col c.args.run))
    (λ k le. field_fits c.args.field.now (before ++ take k own) c.requires.before.flat ∙ ap (λ (o : Option DictSpec). own_fits (option_map index_of o) (before ++ take k own)) c.in-None.is)

pub returns-in-Some : goal.returns-in-Some
returns-in-Some c =
    let col : Column = column_of c.args.field.now in
    let index : Index = index_of c.in-Some.spec in
    let before : List Cell = flat_map (cells_at_place c.args.place col) c.args.piece.now in
    let own : List Cell = cells_at_place c.args.place col c.args.run in
    let same : (cells : List Cell) → entries_fit index cells ≡ column_fits col cells =
    λ cells. sym (field_fits c.args.field.now cells c.requires.before.flat ∙ ap (λ (o : Option DictSpec). own_fits (option_map index_of o) cells) c.in-Some.is) in
    IfOk-weaker c.coded_column_room.result _ _ (λ n room. same_room (entries_fit index) (column_fits col) before own n same room) c.coded_column_room.ensures
