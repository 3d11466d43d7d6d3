use Rattle.std.proofs.Common.{◌∙◌, map}
use Rattle.columns.specs.Borrowed.{borrowed_cell}
use Rattle.batch_build.proofs.Low.{stored_values}
use Rattle.batch_build.proofs.value_bytes.integer_values.Goals as goal

pub returns : goal.returns
returns c = c.in_ok-values.ensures ∙ stored_values c.args.integer.width c.args.integer.signed (map borrowed_cell c.args.cells.now) c.requires
