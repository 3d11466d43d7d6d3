-- The refusals of queries of the catalogue in memory, by the state of the store. There are no others.
use Rattle.std.specs.Prelude.{◌≡◌, Bool, true, false, Option, None, IsSome}
use Rattle.catalogue.specs.Entries.{PlainEntry}
use Rattle.tables.specs.declared.refusal.Refusal.{Refusal}
use Rattle.tables.specs.declared.refusal.Refusal.TheVariants as refusals

-- the list of the tables, of a store that is halted or not
abbrev pub RefusesTables : (halted : Bool) → Refusal → Type 0
RefusesTables halted refusals.Halted = halted ≡ true
RefusesTables halted refusals.OutOfMemory = halted ≡ false
RefusesTables halted _ = ⊥

-- the schema of a table with this entry, if there is one
abbrev pub RefusesSchema : (halted : Bool) → Option PlainEntry → Refusal → Type 0
RefusesSchema halted found refusals.Halted = halted ≡ true
RefusesSchema halted found refusals.NoTable = (halted ≡ false) × (found ≡ None)
RefusesSchema halted found refusals.OutOfMemory = (halted ≡ false) × IsSome found
RefusesSchema halted found _ = ⊥
