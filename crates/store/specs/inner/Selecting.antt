-- The lines of a query while the segments of its table are read.
use Rattle.std.specs.Prelude.{◌≡◌, ◌++◌, List}
use Rattle.cells.specs.Cell.{Cell}
use Rattle.selection.specs.LinePrinter.{printer_in, printed_lines, printer_after}
use Rattle.store.specs.declared.selecting.LinesSoFar.{LinesSoFar}

-- the lines of these rows are there too
pub record HasLines (start : LinesSoFar) (rows : List (List Cell)) (l : LinesSoFar) : Type 0 where
  pub text : l.text.items ≡ start.text.items ++ printed_lines (printer_in start.printer) rows
  pub printer : printer_in l.printer ≡ printer_after (printer_in start.printer) rows
