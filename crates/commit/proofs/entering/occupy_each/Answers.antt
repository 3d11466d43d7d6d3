use Rattle.std.proofs.Common.{◌≡◌, ◌≢◌, ◌∙◌, ◌+◌, ◌<◌, ◌++◌, ◌∷◌, ℕ, length, List, take, drop, get_or, take_all, true, false, ap, sym, subst, Option, Some, Err, IfErr, refl}
use Rattle.std.proofs.lemmas.List.{take_more, drop_more, take-append-drop}
use Rattle.std.proofs.lemmas.Result.{err_from_is_err_and}
use Rattle.segments.specs.declared.run.Run.{Run}
use Rattle.segments.specs.declared.errors.EnterError.{EnterError}
use Rattle.segments.specs.declared.errors.EnterError.TheVariants.{Range as RangeError, Overlap as OverlapError, TooManyPins as PinsError, OutOfMemory as MemoryError}
use Rattle.segments.specs.Runs.{IsOnDevice, IsFree}
use Rattle.segments.specs.Usages.{Space, IsUsedIn}
use Rattle.commit.specs.declared.cause.Cause.{Cause}
use Rattle.commit.specs.declared.cause.Cause.TheVariants.{RunOverlap}
use Rattle.commit.specs.declared.reading.OpenError.{OpenError}
use Rattle.commit.specs.declared.reading.OpenError.TheVariants.{Damaged, NotAStore, Device}
use Rattle.commit.specs.Opening.{open_error}
use Rattle.commit.specs.Standing.{all_on_device, are_apart, runs_fault}
use Rattle.commit.specs.laws.Apart.{HasEntered, entered_more, overlap_told, on_device_is, all_at, fits, overlaps}
use Rattle.commit.proofs.entering.occupy_each.Goals as goal

abbrev none : Run
none = record { start = 0; count = 0 }

-- what an error of the map tells of the store
told_damaged : (e : EnterError) (r : OpenError) (fault : Option Cause) → r ≡ open_error e → (e ≡ RangeError → ⊥) → (e ≡ PinsError → ⊥) → (e ≡ OverlapError → fault ≡ Some RunOverlap) → (cause : Cause) → r ≡ Damaged cause → fault ≡ Some cause
told_damaged RangeError r fault is range pins over cause damaged = absurd (range refl)
told_damaged OverlapError r fault is range pins over cause damaged = let same : RunOverlap ≡ cause = cc (is, damaged) in over refl ∙ ap Some same
told_damaged PinsError r fault is range pins over cause damaged = absurd (pins refl)
told_damaged MemoryError r fault is range pins over cause damaged = absurd (cc (is, damaged))

other_error : (e : EnterError) (r : OpenError) → r ≡ open_error e → (r ≢ NotAStore) × (r ≢ Device)
other_error RangeError r is = (λ no. cc (is, no), λ no. cc (is, no))
other_error OverlapError r is = (λ no. cc (is, no), λ no. cc (is, no))
other_error PinsError r is = (λ no. cc (is, no), λ no. cc (is, no))
other_error MemoryError r is = (λ no. cc (is, no), λ no. cc (is, no))

-- a run that meets those before it
met : (size : ℕ) (map : Space) (text : Run) (runs : List Run) (i : ℕ) → i < length runs → all_on_device size runs ≡ true → HasEntered size map (text ∷ take i runs) → (IsFree map.size (IsUsedIn map.entries) (get_or runs i none) → ⊥)
    → runs_fault size text runs ≡ Some RunOverlap
met size map text runs i lt on has not =
    let run = get_or runs i none in
    let here : IsOnDevice map.size run = subst (λ (n : ℕ). IsOnDevice n run) (sym has.size_is) (on_device_is size run (all_at size runs i none on lt)) in
    let whole : take i runs ++ run ∷ drop (i + 1) runs ≡ runs = ap (λ (rs : List Run). take i runs ++ rs) (sym (drop_more runs i none lt)) ∙ take-append-drop i runs in
    overlaps size text runs on (subst (λ (rs : List Run). are_apart (text ∷ rs) ≡ false) whole (overlap_told size map (text ∷ take i runs) run (drop (i + 1) runs) has here not))

pub loop-run-preserved : goal.loop-run-preserved
loop-run-preserved c =
    let i = c.loop-run.run-index in
    let runs = c.args.runs.now in
    let here = take_more runs i none c.loop-run-test.true in
    subst (λ (rs : List Run). HasEntered c.args.sectors c.occupy.new.self (c.args.text ∷ rs)) (sym here)
    (entered_more c.args.sectors c.loop-run.map c.occupy.new.self (c.args.text ∷ take i runs) (get_or runs i none) c.loop-run.invariant c.in_ok-occupy.ensures.fits.1 c.in_ok-occupy.ensures.changes)

pub returns-in_err-occupy-clause-damaged : goal.returns-in_err-occupy-clause-damaged
returns-in_err-occupy-clause-damaged c =
    let p = err_from_is_err_and c.from_residual-in_err-occupy.result c.from_residual-in_err-occupy.ensures.1 in
    let size = c.args.sectors in
    let runs = c.args.runs.now in
    let i = c.loop-run.run-index in
    let on : all_on_device size runs ≡ true = c.requires.runs in
    let here : IsOnDevice c.loop-run.map.size (get_or runs i none) = subst (λ (n : ℕ). IsOnDevice n (get_or runs i none)) (sym c.loop-run.invariant.size_is) (on_device_is size (get_or runs i none) (all_at size runs i none on c.loop-run-test.true)) in
    subst (λ (r : _). IfErr r (λ e. (cause : Cause) → e ≡ Damaged cause → runs_fault size c.args.text runs ≡ Some cause)) (sym p.1)
    (told_damaged c.in_err-occupy.field-0.0 p.0 (runs_fault size c.args.text runs) p.2
    (λ is. c.occupy.ensures.range.0 (c.in_err-occupy.was ∙ ap Err is) here)
    (λ is. c.occupy.ensures.pins (c.in_err-occupy.was ∙ ap Err is))
    (λ is. met size c.loop-run.map c.args.text runs i c.loop-run-test.true on c.loop-run.invariant (c.occupy.ensures.overlap (c.in_err-occupy.was ∙ ap Err is))))

pub returns-in_err-occupy-clause-errors : goal.returns-in_err-occupy-clause-errors
returns-in_err-occupy-clause-errors c =
    let p = err_from_is_err_and c.from_residual-in_err-occupy.result c.from_residual-in_err-occupy.ensures.1 in
    subst (λ (r : _). IfErr r (λ e. (e ≢ NotAStore) × (e ≢ Device))) (sym p.1) (other_error c.in_err-occupy.field-0.0 p.0 p.2)

pub returns-clause-size : goal.returns-clause-size
returns-clause-size c = c.loop-run.invariant.size_is

pub returns-clause-uses : goal.returns-clause-uses
returns-clause-uses c = (subst (λ (rs : List Run). HasEntered c.args.sectors c.loop-run.map (c.args.text ∷ rs)) (take_all c.loop-run.run-index c.args.runs.now c.loop-run-test.false) c.loop-run.invariant).uses

pub returns-clause-fit : goal.returns-clause-fit
returns-clause-fit c =
    fits c.args.sectors c.args.text c.args.runs.now c.requires.runs
    (subst (λ (rs : List Run). HasEntered c.args.sectors c.loop-run.map (c.args.text ∷ rs)) (take_all c.loop-run.run-index c.args.runs.now c.loop-run-test.false) c.loop-run.invariant).apart
