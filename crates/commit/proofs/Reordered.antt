-- Runs in another order: the same ones are in use, and they have the same fault.
use Rattle.std.proofs.Common.{◌≡◌, ◌+◌, ◌||◌, ℕ, Bool, true, false, not, nat_le, if◌then◌else◌, List, [], ◌∷◌, IsPermutation, Some, None, refl, sym, ap, ◌∙◌}
use Rattle.std.specs.List.{AllByRecursion, IsDistinct}
use Rattle.std.proofs.lemmas.Bool.{and_from, and_parts, not-false, or_parts, true≢false}
use Rattle.std.proofs.lemmas.List.Elements.{All-from_recursion, recursion_from_All}
use Rattle.std.proofs.lemmas.List.Sorted.{All-permutation, IsPermutation-sym, IsPermutation-cons}
use Rattle.std.proofs.lemmas.Map.Keys.{IsDistinct-IsPermutation}
use Rattle.segments.specs.declared.run.Run.{Run}
use Rattle.segments.specs.Usages.{same_run}
use Rattle.commit.specs.Placing.{is_among, Uses}
use Rattle.commit.specs.declared.cause.Cause.TheVariants.{RunRange, RunOverlap}
use Rattle.commit.specs.Standing.{is_on_device, all_on_device, is_apart, are_apart, runs_fault}
use Rattle.segments.specs.declared.entries.UsageEntry.{UsageEntry}

-- answers that are true together are equal
same_answer : (a b : Bool) → (a ≡ true → b ≡ true) → (b ≡ true → a ≡ true) → a ≡ b
same_answer true true there back = refl
same_answer true false there back = absurd (true≢false (sym (there refl)))
same_answer false true there back = absurd (true≢false (sym (back refl)))
same_answer false false there back = refl

-- ---- on the device

each_on : (size : ℕ) (rs : List Run) → all_on_device size rs ≡ true → AllByRecursion (λ (r : Run). is_on_device size r ≡ true) rs
each_on size [] is = tt
each_on size (r ∷ rs) is = let parts = and_parts (is_on_device size r) (all_on_device size rs) is in (parts.0, each_on size rs parts.1)

all_on : (size : ℕ) (rs : List Run) → AllByRecursion (λ (r : Run). is_on_device size r ≡ true) rs → all_on_device size rs ≡ true
all_on size [] each = refl
all_on size (r ∷ rs) each = and_from (is_on_device size r) (all_on_device size rs) each.0 (all_on size rs each.1)

pub still_on_device : (size : ℕ) (rs ss : List Run) → IsPermutation rs ss → all_on_device size rs ≡ true → all_on_device size ss ≡ true
still_on_device size rs ss moved on =
    all_on size ss (recursion_from_All (λ (r : Run). is_on_device size r ≡ true) ss
    (All-permutation (λ (r : Run). is_on_device size r ≡ true) rs ss moved (All-from_recursion (λ (r : Run). is_on_device size r ≡ true) rs (each_on size rs on))))

-- ---- apart

-- two runs share a sector
abbrev meet : Run → Run → Bool
meet a b = not (nat_le (a.start + a.count) b.start || nat_le (b.start + b.count) a.start)

meet_both : (a b : Run) → meet a b ≡ meet b a
meet_both a b = swapped (nat_le (a.start + a.count) b.start) (nat_le (b.start + b.count) a.start)
  where
    swapped : (x y : Bool) → not (x || y) ≡ not (y || x)
    swapped true true = refl
    swapped true false = refl
    swapped false true = refl
    swapped false false = refl

each_apart : (r : Run) (ss : List Run) → is_apart r ss ≡ true → AllByRecursion (λ (s : Run). meet r s ≡ false) ss
each_apart r [] is = tt
each_apart r (s ∷ ss) is =
    let parts = and_parts (nat_le (r.start + r.count) s.start || nat_le (s.start + s.count) r.start) (is_apart r ss) is in (ap not parts.0, each_apart r ss parts.1)

apart_each : (r : Run) (ss : List Run) → AllByRecursion (λ (s : Run). meet r s ≡ false) ss → is_apart r ss ≡ true
apart_each r [] each = refl
apart_each r (s ∷ ss) each =
    let here = nat_le (r.start + r.count) s.start || nat_le (s.start + s.count) r.start in and_from here (is_apart r ss) (not-false here each.0) (apart_each r ss each.1)

distinct : (rs : List Run) → are_apart rs ≡ true → IsDistinct meet rs
unfolding IsDistinct
distinct [] is = tt
distinct (r ∷ rs) is = let parts = and_parts (is_apart r rs) (are_apart rs) is in (each_apart r rs parts.0, distinct rs parts.1)

all_apart : (rs : List Run) → IsDistinct meet rs → are_apart rs ≡ true
unfolding IsDistinct
all_apart [] distinct = refl
all_apart (r ∷ rs) distinct = and_from (is_apart r rs) (are_apart rs) (apart_each r rs distinct.0) (all_apart rs distinct.1)

still_apart : (rs ss : List Run) → IsPermutation rs ss → are_apart rs ≡ true → are_apart ss ≡ true
still_apart rs ss moved is = all_apart ss (IsDistinct-IsPermutation meet meet_both rs ss moved (distinct rs is))

-- the fault of runs in another order is theirs
pub same_fault : (size : ℕ) (text : Run) (rs ss : List Run) → IsPermutation rs ss → runs_fault size text ss ≡ runs_fault size text rs
unfolding runs_fault
same_fault size text rs ss moved =
    let back = IsPermutation-sym rs ss moved in
    let on : all_on_device size ss ≡ all_on_device size rs = same_answer _ _ (still_on_device size ss rs back) (still_on_device size rs ss moved) in
    let apart : are_apart (text ∷ ss) ≡ are_apart (text ∷ rs) =
    same_answer _ _ (still_apart (text ∷ ss) (text ∷ rs) (IsPermutation-cons text ss rs back)) (still_apart (text ∷ rs) (text ∷ ss) (IsPermutation-cons text rs ss moved)) in
    λ i. if on i then (if apart i then None else Some RunOverlap) else Some RunRange

-- ---- in use

none_same : (r : Run) (ss : List Run) → is_among ss r ≡ false → AllByRecursion (λ (s : Run). same_run s r ≡ false) ss
none_same r [] is = tt
none_same r (s ∷ ss) is = let parts = or_parts (same_run s r) (is_among ss r) is in (parts.0, none_same r ss parts.1)

not_among : (r : Run) (ss : List Run) → AllByRecursion (λ (s : Run). same_run s r ≡ false) ss → is_among ss r ≡ false
not_among r [] each = refl
not_among r (s ∷ ss) each = ap (λ (t : Bool). t || is_among ss r) each.0 ∙ not_among r ss each.1

still_not_among : (r : Run) (rs ss : List Run) → IsPermutation rs ss → is_among rs r ≡ false → is_among ss r ≡ false
still_not_among r rs ss moved is =
    not_among r ss (recursion_from_All (λ (s : Run). same_run s r ≡ false) ss
    (All-permutation (λ (s : Run). same_run s r ≡ false) rs ss moved (All-from_recursion (λ (s : Run). same_run s r ≡ false) rs (none_same r rs is))))

same_refusal : (a b : Bool) → (a ≡ false → b ≡ false) → (b ≡ false → a ≡ false) → a ≡ b
same_refusal true true there back = refl
same_refusal true false there back = back refl
same_refusal false true there back = sym (there refl)
same_refusal false false there back = refl

pub same_uses : (entries : List UsageEntry) (text : Run) (rs ss : List Run) → IsPermutation rs ss → Uses entries (text ∷ ss) [] → Uses entries (text ∷ rs) []
same_uses entries text rs ss moved uses run =
    let there = IsPermutation-cons text rs ss moved in
    uses run
    ∙ ap (λ (t : Bool). record { taken = t; pins = 0 }) (same_refusal (is_among (text ∷ ss) run) (is_among (text ∷ rs) run)
    (still_not_among run (text ∷ ss) (text ∷ rs) (IsPermutation-sym (text ∷ rs) (text ∷ ss) there)) (still_not_among run (text ∷ rs) (text ∷ ss) there))
