use Rattle.std.proofs.Common.{[]}
use Rattle.arrow_schema.specs.Column.{columns_of}
use Rattle.arrow_schema.specs.View.{schema_of}
use Rattle.table_cut.specs.Rows.{arrays_of_run}
use Rattle.table_cut.proofs.room.room_alone.Goals as goal

pub room_sharing-requires-clause-shares : goal.room_sharing-requires-clause-shares
room_sharing-requires-clause-shares c = c.shared_entries_fit.ensures.own (columns_of (schema_of c.args.schema.now).columns) (arrays_of_run c.args.run)

pub returns : goal.returns
returns c = c.room_sharing.ensures [] tt
