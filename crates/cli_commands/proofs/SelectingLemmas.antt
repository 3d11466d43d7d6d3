-- Why no lines are printed of a query.
use Rattle.std.specs.Prelude.{Option}
use Rattle.std.proofs.Common.{ℕ, Bool}
use Rattle.sector_dev.specs.Disk.{Image, Story}
use Rattle.sector_dev.specs.declared.device.SectorDevice.{Ghosts}
use Rattle.cells.specs.Cell.{PlainTable}
use Rattle.catalogue.specs.Entries.{PlainEntry}
use Rattle.query.specs.Printed.{printed_selection}
use Rattle.query.specs.Query.{PlainQuery}
use Rattle.query.specs.View.{Reports}
use Rattle.query.specs.declared.errors.QueryError.{QueryError}
use Rattle.query.specs.declared.errors.QueryError.TheVariants as queries
use Rattle.query.specs.declared.row_form.RowForm.{RowForm}
use Rattle.store.specs.declared.store.Store.{Store}
use Rattle.store_runs.specs.Calls.{done}
use Rattle.store_runs.specs.Reading.{ReadsTable}
use Rattle.store.specs.Reading.{OnlyReadsStore}
use Rattle.cli_reports.specs.Refusals.{query_refusal}
use Rattle.cli_commands.specs.Reading.{refusal_ended}
use Rattle.cli_commands.specs.Selecting.{RefusesQuery}

-- the query of the table that reads show is refused, or memory is
pub query_told : (form : RowForm) (halted tells : Bool) (image : Image) (found : Option PlainEntry) (q : PlainQuery) (table : PlainTable) (e : QueryError) → ReadsTable halted tells image found table
    → Reports e (printed_selection form table q) → RefusesQuery form halted tells image found q (query_refusal e)
query_told form halted tells image found q table queries.UnknownColumn reads why = record { table = table; reads = reads; answers = why }
query_told form halted tells image found q table queries.BadCondition reads why = record { table = table; reads = reads; answers = why }
query_told form halted tells image found q table queries.NotComparable reads why = record { table = table; reads = reads; answers = why }
query_told form halted tells image found q table queries.OutOfMemory reads why = (table, reads)

-- the store was only read
pub only_read : {D : Type 0} {g : Ghosts D} (story : D → Story) (size failed : D → ℕ) (tells : Bool) (old new : Store D g) (e : QueryError) → OnlyReadsStore size story failed tells done old new
    → OnlyReadsStore size story failed tells (refusal_ended (query_refusal e)) old new
only_read story size failed tells old new queries.UnknownColumn reads = reads
only_read story size failed tells old new queries.BadCondition reads = reads
only_read story size failed tells old new queries.NotComparable reads = reads
only_read story size failed tells old new queries.OutOfMemory reads = reads
