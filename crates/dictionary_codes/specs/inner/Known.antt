-- Dictionaries whose entries are known by numbers.
use Rattle.std.specs.Prelude.{List}
use Rattle.std.specs.List.{All}
use Rattle.arrow_schema.specs.View.{kind_of}
use Rattle.dictionary_codes.specs.declared.known_dictionary.KnownDictionary.{KnownDictionary}
use Rattle.dictionary_codes.specs.inner.Codes.{AreKnown}
use Rattle.cells.specs.Cell.{Cell}
use Rattle.columns.specs.CellAt.{entries_of_kind}
use Rattle.columns.specs.View.{placed_dictionary}

abbrev pub dictionary_entries : KnownDictionary → List Cell
dictionary_entries d = entries_of_kind (kind_of d.data_type.now) (placed_dictionary d.bytes.now d.arrays.arrays.now)

-- what is known of each is true
abbrev pub AreAllKnown : (seen : List Cell) → List KnownDictionary → Type 0
AreAllKnown seen dictionaries = All (λ d. AreKnown seen (dictionary_entries d) d.numbers) dictionaries
