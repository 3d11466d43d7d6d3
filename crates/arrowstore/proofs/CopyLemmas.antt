-- Why a copy is not made.
use Rattle.std.proofs.Common.{◌≡◌, ℕ, inl, refl, sym, subst, ◌∙◌}
use Rattle.std.specs.Prelude.{Result, Ok, Err, IfErr, OnOk}
use Rattle.std.proofs.lemmas.Result.{IfErr-at_err}
use Rattle.sector_dev.specs.declared.device.SectorDevice.{Ghosts}
use Rattle.sector_dev.specs.declared.file.FileError.TheVariants as files
use Rattle.store.specs.declared.store.Store.{Store}
use Rattle.cli_reports.specs.declared.refusal.Refusal.{Refusal}
use Rattle.cli_reports.specs.declared.refusal.Refusal.TheVariants.{Io}
use Rattle.cli_reports.specs.declared.refusal.Side.TheVariants.{File}
use Rattle.arrowstore.specs.OnFiles.{FailsToCopy}
use Rattle.arrowstore.proofs.FileLemmas.{of_places}

pub on_ok : {T E : Type 0} {P : Type 0} (result : Result T E) → P → OnOk result P
on_ok (Ok x) holds = holds
on_ok (Err e) holds = tt

-- the system refuses the file
of_system : {D : Type 0} (g : Ghosts D) (sectors : ℕ) (from : Store D g) (refusal : Refusal) → refusal ≡ Io File → FailsToCopy g sectors from refusal
of_system g sectors from refusal is = subst (λ (r : Refusal). FailsToCopy g sectors from r) (sym is) (inl (of_places g sectors _ files.Io refl))

-- it refuses to change its length, which is handed on
pub of_change : {D T : Type 0} (g : Ghosts D) (sectors : ℕ) (from : Store D g) (given done : Result T Refusal) (e : Refusal) → done ≡ given
    → IfErr given (λ refusal. refusal ≡ Io File) → done ≡ Err e → FailsToCopy g sectors from e
of_change g sectors from given done e same io is = of_system g sectors from e (IfErr-at_err (λ refusal. refusal ≡ Io File) (sym same ∙ is) io)

-- or it does not
pub of_last_change : {D T : Type 0} (g : Ghosts D) (sectors : ℕ) (from : Store D g) (given done : Result T Refusal) → done ≡ given
    → IfErr given (λ refusal. refusal ≡ Io File) → IfErr done (λ refusal. FailsToCopy g sectors from refusal)
of_last_change g sectors from given (Ok x) same io = tt
of_last_change g sectors from given (Err e) same io = of_change g sectors from given (Err e) e same io refl
