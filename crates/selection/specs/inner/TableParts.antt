-- The record batches of a table, wherever they are.
use Rattle.std.specs.Prelude.{List}
use Rattle.selection.specs.declared.table_parts.TableParts.{TableParts}
use Rattle.selection.specs.declared.table_parts.TableParts.TheVariants.{Own, OfStream}
use Rattle.values.specs.declared.table_part.TablePart.{TablePart}

abbrev pub parts_in : TableParts → List TablePart
parts_in (Own parts) = parts.now
parts_in (OfStream parts) = parts.items
