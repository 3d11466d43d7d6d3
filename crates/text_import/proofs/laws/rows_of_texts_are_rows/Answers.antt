use Rattle.text_import.proofs.AcceptedRows.{csv_rows_are_rows, jsonl_rows_are_rows}
use Rattle.text_import.proofs.laws.rows_of_texts_are_rows.Goals as goal

pub returns : goal.returns
returns c = record { csv = csv_rows_are_rows; jsonl = jsonl_rows_are_rows }
