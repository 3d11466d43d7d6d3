-- What is written of the bytes that are gathered.
use Rattle.std.specs.Io.KnownBytes.{Appends}
use Rattle.std.specs.Prelude.{◌≡◌, ℕ, List, ◌++◌, Option}

-- bytes were added: those gathered before them and they themselves were written, except for what is gathered now
abbrev pub Gathers : (old new : Option (List ℕ)) → (before after bytes : List ℕ) → Type 0
Gathers old new before after bytes = (written : List ℕ) × (Appends old new written × (before ++ bytes ≡ written ++ after))
