-- Dictionaries whose texts are UTF-8: that is looked at where their batches are read.
use Rattle.std.specs.Prelude.{Bool, false, Some, None}
use Rattle.std.specs.List.{list_any}
use Rattle.arrow_schema.specs.Column.{Column, column}
use Rattle.columns.specs.Array.{Array, dictionary_in}
use Rattle.columns.specs.CellAt.{entries_of_kind}
use Rattle.columns.specs.Tests.{Typed}
use Rattle.columns.specs.Visible.{is_bad_text}

abbrev pub has_bad_entries : Column → Array → Bool
has_bad_entries (column name nullable kind None pairs) a = false
has_bad_entries (column name nullable kind (Some index) pairs) a = list_any is_bad_text (entries_of_kind kind (dictionary_in a))

-- an entry of the dictionary of an array is a text that is not UTF-8
abbrev pub has_bad_entry : Typed → Bool
has_bad_entry t = has_bad_entries t.column t.array
