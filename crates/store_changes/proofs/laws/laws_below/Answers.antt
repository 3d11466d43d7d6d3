use Rattle.ipc_message.specs.Header.{supported_codes}
use Rattle.store_changes.specs.laws.Pieces.{pieces_held}
use Rattle.store_changes.proofs.laws.laws_below.Goals as goal

pub returns : goal.returns
returns c = record {
  tables = c.table_laws.ensures;
  held = λ table is. pieces_held table (c.pieces_are_tables.ensures.each table is) (c.pieces_are_tables.ensures.whole table);
  selects = c.selection_is_a_table.ensures;
  alike = c.rows_refuse_no_query.ensures;
  means = c.meaning_is_a_table.ensures supported_codes;
  catalogues = c.pages_hold_what_was_read.ensures.kept;
}
