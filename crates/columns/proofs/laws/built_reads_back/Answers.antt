use Rattle.columns.proofs.BuiltCells.{cells_are_back, rows_are_back, entries_found}
use Rattle.columns.proofs.laws.built_reads_back.Goals as goal

pub returns : goal.returns
returns c =
    let back = c.packed_reads_back.ensures in
    let entries = entries_found c.one_entry_is_one_value.ensures c.entries_are_the_distinct_values.ensures.values in
    record { cells = cells_are_back back entries; rows = rows_are_back back entries }
