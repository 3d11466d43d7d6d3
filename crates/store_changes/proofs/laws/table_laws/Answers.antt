use Rattle.store_changes.proofs.laws.table_laws.Goals as goal

pub returns : goal.returns
returns c = assumption (c.accepted_rows_are_a_table.ensures, c.tables_are_joined_and_cut.ensures)
