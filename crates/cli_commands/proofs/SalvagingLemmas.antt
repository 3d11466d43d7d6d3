-- Why a table is not salvaged.
use Rattle.std.proofs.Common.{◌≡◌, Bool, true, false, Option, Some, None, refl}
use Rattle.std.specs.Prelude.{IsSome}
use Rattle.catalogue.specs.Entries.{PlainEntry}
use Rattle.tables.specs.declared.refusal.Refusal.{Refusal}
use Rattle.tables.specs.declared.refusal.Refusal.TheVariants.{Write}
use Rattle.store.specs.Salvaging.{BreaksOff, RefusesSalvage}

-- where a write failed there is a table
pub table_of_write : (halted : Bool) (found : Option PlainEntry) (r : Refusal) → r ≡ Write → RefusesSalvage halted found r → IsSome found
table_of_write true found r is why = absurd (cc (is, why))
table_of_write false None r is why = absurd (cc (is, why))
table_of_write false (Some e) r is why = refl

-- nothing was written where it was not broken off
pub unwritten : {W : Type 0} (halted : Bool) (found : Option PlainEntry) (r : Refusal) (old new : W) → (halted ≡ true → new ≡ old) → (found ≡ None → new ≡ old) → RefusesSalvage halted found r
    → ¬ BreaksOff r → new ≡ old
unwritten true found r old new on none why whole = on refl
unwritten false None r old new on none why whole = none refl
unwritten false (Some e) r old new on none why whole = absurd (whole why)
