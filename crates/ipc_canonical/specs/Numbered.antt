-- Dictionary batches with ascending ids.
use Rattle.std.specs.Prelude.{ℕ, ◌+◌, false, List, [], ◌∷◌}
use Rattle.columns.specs.Array.{Array}
use Rattle.dictionary.specs.InEffect.{DictionaryBatch}

-- each array replaces the dictionary of the next id, from `id` on
abbrev pub replacing : ℕ → List Array → List DictionaryBatch
replacing id [] = []
replacing id (a ∷ arrays) = record { id = id; is_delta = false; array = a } ∷ replacing (id + 1) arrays
