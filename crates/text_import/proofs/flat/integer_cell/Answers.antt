use Rattle.arrow_schema.specs.View.{column_of}
use Rattle.arrow_schema.specs.Parts.{kind_of_column}
use Rattle.text_import.proofs.NumberLemmas.{number_capped}
use Rattle.text_import.proofs.flat.integer_cell.Goals as goal

pub returns : goal.returns
returns c = rw (← number_capped (kind_of_column (column_of c.args.field.now)) c.args.text.now c.requires) (rw c.integer.ensures at c.number_cell.ensures)
