-- Whether the commit sectors of an open store agree, by what reads of its device show.
use Rattle.std.specs.Prelude.{◌≡◌, Bool, true, false}
use Rattle.sector_dev.specs.Disk.{Image}
use Rattle.commit.specs.Agreeing.{commits_agree}
use Rattle.tables.specs.declared.refusal.Refusal.{Refusal}
use Rattle.tables.specs.declared.refusal.Refusal.TheVariants as refusals

-- the answer for a store that is not halted; if its device tells its story, the answer is true
abbrev pub SaysAgreement : (halted tells : Bool) → Image → (agree : Bool) → Type 0
SaysAgreement true tells image agree = ⊥
SaysAgreement false tells image agree = tells ≡ true → commits_agree image ≡ agree

-- the refusals
abbrev pub RefusesAgreement : (halted : Bool) → Refusal → Type 0
RefusesAgreement halted refusals.Halted = halted ≡ true
RefusesAgreement halted refusals.Device = halted ≡ false
RefusesAgreement halted _ = ⊥
