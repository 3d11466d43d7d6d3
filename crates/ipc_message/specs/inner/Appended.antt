-- Dictionaries that are appended to a list.
use Rattle.std.specs.Prelude.{◌≡◌, ◌++◌, List, map}
use Rattle.ipc_message.specs.declared.dictionary_type.DictionaryType.{DictionaryType}
use Rattle.ipc_message.specs.DictionaryTypes.{PlainDictionary, plain_dictionary_of}

-- a list has these after what it had
abbrev pub Appends : (old new : List DictionaryType) → List PlainDictionary → Type 0
Appends old new more = map plain_dictionary_of new ≡ map plain_dictionary_of old ++ more
