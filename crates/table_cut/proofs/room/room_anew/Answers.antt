use Rattle.std.proofs.lemmas.Result.{IfOk-weaker}
use Rattle.arrow_schema.specs.Column.{columns_of}
use Rattle.arrow_schema.specs.View.{schema_of}
use Rattle.table_cut.specs.Rows.{runs_rows}
use Rattle.table_cut.proofs.room.room_anew.Goals as goal

pub room_after-requires-clause-seen : goal.room_after-requires-clause-seen
room_after-requires-clause-seen c = (runs_rows (columns_of (schema_of c.args.schema.now).columns) c.args.piece.now, c.in_ok-seen.ensures)

pub returns : goal.returns
returns c =
    IfOk-weaker c.room_after.result _ _ (λ room is. is (runs_rows (columns_of (schema_of c.args.schema.now).columns) c.args.piece.now) c.in_ok-seen.ensures c.requires.after.fits) c.room_after.ensures
