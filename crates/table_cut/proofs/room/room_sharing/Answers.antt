use Rattle.std.proofs.Common.{◌≡◌, ◌++◌, true}
use Rattle.arrays.specs.Bytes.{have_bytes}
use Rattle.arrays.specs.Shared.{AreRowsSharing}
use Rattle.arrow_schema.specs.Column.{PlainSchema, Columns, columns_of}
use Rattle.arrow_schema.specs.View.{schema_of}
use Rattle.columns.specs.Array.{Arrays}
use Rattle.table_cut.specs.Rows.{arrays_of_run, run_rows}
use Rattle.table_cut.specs.declared.row_run.RowRun.{RowRun}
use Rattle.table_cut.proofs.RoomLemmas.{all_room, both_share, run_shares, small_bytes}
use Rattle.table_cut.proofs.room.room_sharing.Goals as goal

pub returns : goal.returns
returns c = λ rows are.
    let s : PlainSchema = schema_of c.args.schema.now in
    let cs : Columns = columns_of s.columns in
    let run : RowRun = c.args.run in
    let own : Arrays = arrays_of_run c.args.first in
    let small : have_bytes (arrays_of_run run) ≡ true = c.shared_entries_fit.ensures.bytes run.bytes.now run.dictionaries.now run.arrays.now (small_bytes run.bytes.now c.are_bytes.ensures) in
    let all : AreRowsSharing cs own (rows ++ run_rows cs run) = both_share cs own rows (run_rows cs run) are (run_shares cs own run small c.requires.shares) in
    record {
      room = all_room s rows run (c.shared_entries_fit.ensures.fit s own (rows ++ run_rows cs run) c.requires.schema all);
      known = λ whole. all;
    }
