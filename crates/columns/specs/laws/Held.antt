-- What is known about columns and the entries of their dictionaries.
use Rattle.std.specs.List.{list_all}
use Rattle.std.proofs.Common.{◌≡◌, true, List}
use Rattle.arrow_schema.specs.Column.{Column}
use Rattle.arrow_schema.specs.Limits.{has_bit_widths, has_flat_dictionary}
use Rattle.cells.specs.Dictionary.{Holding, has_few_entries}

abbrev pub AreSoundColumns : List Column → Type 0
AreSoundColumns cs = (list_all has_flat_dictionary cs ≡ true) × (list_all has_bit_widths cs ≡ true)

abbrev pub HaveFew : List Holding → Type 0
HaveFew hs = list_all has_few_entries hs ≡ true
