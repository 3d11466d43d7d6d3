-- Where no call of the device failed, no reply says that one did.
use Rattle.std.specs.Prelude.{◌≡◌, ◌≤◌, ◌<◌, ◌+◌, ◌-◌, ◌^◌, ◌||◌, ℕ, min, Bool, true, false, if◌then◌else◌, List, [], ◌∷◌, refl}
use Rattle.std.specs.List.{list_any}
use Rattle.std.proofs.Common.{sym, ◌∙◌, subst, arith}
use Rattle.sector_dev.specs.Disk.{Story}
use Rattle.store_runs.specs.Calls.{PlainCall, PlainReply, is_device_reply}
use Rattle.store_runs.specs.Machine.{Setting, Machine}
use Rattle.store_runs.specs.Runs.{Run}

-- a number of failures that is counted up, or stays
abbrev count_up : Bool → ℕ → ℕ
count_up failed n = if failed then min (n + 1) (2 ^ 64 - 1) else n

rises : (b : Bool) (n : ℕ) → n ≤ 2 ^ 64 - 1 → (n ≤ count_up b n) × (count_up b n ≤ 2 ^ 64 - 1)
rises true n small = (omega arith, omega arith)
rises false n small = (omega arith, small)

run_rises : (s : Setting) (calls : List PlainCall) (replies : List PlainReply) (m : Machine) (old : Story) (failed : ℕ) (m' : Machine) (new : Story) (failed' : ℕ)
    → Run s calls replies m old failed m' new failed' → failed ≤ 2 ^ 64 - 1 → failed ≤ failed'
unfolding Run
run_rises s [] [] m old failed m' new failed' run small = omega (arith, run.failures)
run_rises s (call ∷ calls) (reply ∷ replies) m old failed m' new failed' run small =
    let r = rises (is_device_reply reply) failed small in
    let up : failed ≤ run.failures = subst (λ (n : ℕ). failed ≤ n) (sym run.goes.counts) r.0 in
    let top : run.failures ≤ 2 ^ 64 - 1 = subst (λ (n : ℕ). n ≤ 2 ^ 64 - 1) (sym run.goes.counts) r.1 in
    let rest = run_rises s calls replies run.machine run.story run.failures m' new failed' run.others top in
    omega (arith, up, rest)
run_rises s [] (reply ∷ replies) m old failed m' new failed' run small = absurd run
run_rises s (call ∷ calls) [] m old failed m' new failed' run small = absurd run

-- one that failed would have been counted
first_passed : (b : Bool) (others : Bool) (failed failures failed' : ℕ) → failed < 2 ^ 64 - 1 → failures ≡ count_up b failed → failures ≤ failed' → failed' ≡ failed
    → (failures ≡ failed → others ≡ false) → (b || others) ≡ false
first_passed true others failed failures failed' small is up same rest = absurd (omega (arith, is, up, same))
first_passed false others failed failures failed' small is up same rest = rest is

pub undisturbed : (s : Setting) (calls : List PlainCall) (replies : List PlainReply) (m : Machine) (old : Story) (failed : ℕ) (m' : Machine) (new : Story) (failed' : ℕ)
    → Run s calls replies m old failed m' new failed' → failed < 2 ^ 64 - 1 → failed' ≡ failed → list_any is_device_reply replies ≡ false
unfolding Run
undisturbed s [] [] m old failed m' new failed' run small same = refl
undisturbed s (call ∷ calls) (reply ∷ replies) m old failed m' new failed' run small same =
    let top : run.failures ≤ 2 ^ 64 - 1 = subst (λ (n : ℕ). n ≤ 2 ^ 64 - 1) (sym run.goes.counts) (rises (is_device_reply reply) failed (omega arith)).1 in
    let up = run_rises s calls replies run.machine run.story run.failures m' new failed' run.others top in
    first_passed (is_device_reply reply) (list_any is_device_reply replies) failed run.failures failed' small run.goes.counts up same
    (λ is. undisturbed s calls replies run.machine run.story run.failures m' new failed' run.others (omega (arith, is)) (same ∙ sym is))
undisturbed s [] (reply ∷ replies) m old failed m' new failed' run small same = absurd run
undisturbed s (call ∷ calls) [] m old failed m' new failed' run small same = absurd run
