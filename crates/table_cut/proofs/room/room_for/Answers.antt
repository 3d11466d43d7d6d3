use Rattle.std.proofs.Common.{List, sym, subst}
use Rattle.std.proofs.lemmas.Result.{IfOk-weaker}
use Rattle.arrow_schema.specs.Column.{PlainSchema, columns_of}
use Rattle.arrow_schema.specs.View.{schema_of}
use Rattle.cells.specs.Cell.{Cell}
use Rattle.table_cut.specs.Rows.{runs_rows}
use Rattle.table_cut.specs.declared.room.Seen.{Seen}
use Rattle.table_cut.specs.inner.Room.{IsSeen, IsRoom}
use Rattle.table_cut.proofs.room.room_for.Goals as goal

pub returns-in-Nothing : goal.returns-in-Nothing
returns-in-Nothing c =
    let s : PlainSchema = schema_of c.args.schema.now in
    let none = subst (λ (seen : Seen). IsSeen s (runs_rows (columns_of s.columns) c.args.piece.now) seen) c.in-Nothing.is c.requires.seen in
    subst (λ (rows : List (List Cell)). IsRoom s rows c.args.run c.room_alone.result) (sym none) c.room_alone.ensures

pub room_after-requires-clause-seen : goal.room_after-requires-clause-seen
room_after-requires-clause-seen c =
    let s : PlainSchema = schema_of c.args.schema.now in
    (runs_rows (columns_of s.columns) c.args.piece.now, subst (λ (seen : Seen). IsSeen s (runs_rows (columns_of s.columns) c.args.piece.now) seen) c.in-Rows.is c.requires.seen)

pub returns-in-Rows : goal.returns-in-Rows
returns-in-Rows c =
    let s : PlainSchema = schema_of c.args.schema.now in
    let seen = subst (λ (seen : Seen). IsSeen s (runs_rows (columns_of s.columns) c.args.piece.now) seen) c.in-Rows.is c.requires.seen in
    IfOk-weaker c.room_after.result _ _ (λ room is. is (runs_rows (columns_of s.columns) c.args.piece.now) seen c.requires.after.fits) c.room_after.ensures

pub room_after_shared-requires-clause-seen : goal.room_after_shared-requires-clause-seen
room_after_shared-requires-clause-seen c =
    let s : PlainSchema = schema_of c.args.schema.now in
    subst (λ (seen : Seen). IsSeen s (runs_rows (columns_of s.columns) c.args.piece.now) seen) c.in-Shared.is c.requires.seen
