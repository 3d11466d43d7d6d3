use Rattle.std.proofs.Common.{List, subst, map}
use Rattle.arrays.specs.Shared.{ShareEntries}
use Rattle.arrow_schema.specs.Column.{columns_of}
use Rattle.arrow_schema.specs.View.{schema_of, column_of}
use Rattle.arrow_schema.specs.declared.types.Field.{Field}
use Rattle.table_cut.specs.Rows.{arrays_of_run, runs_rows}
use Rattle.table_cut.proofs.room.room_after_shared.Goals as goal

pub room_sharing-requires-clause-shares : goal.room_sharing-requires-clause-shares
room_sharing-requires-clause-shares c =
    subst (λ (fields : List Field). ShareEntries (columns_of (map column_of fields)) (arrays_of_run c.args.first) (arrays_of_run c.args.run)) c.deref.ensures.value
    (c.runs_share_entries.ensures c.if-runs_share_entries.true)

pub returns-then-runs_share_entries : goal.returns-then-runs_share_entries
returns-then-runs_share_entries c = c.room_sharing.ensures (runs_rows (columns_of (schema_of c.args.schema.now).columns) c.args.piece.now) c.requires.seen
