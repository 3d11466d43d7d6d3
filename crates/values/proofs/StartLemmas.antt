-- Runs by where they start.
use Rattle.std.specs.Prelude.{sum, nat_lt}
use Rattle.std.specs.List.{AllWithin}
use Rattle.std.specs.List.Sorted.{IsPartitionedBy}
use Rattle.std.proofs.Common.{◌≡◌, ℕ, zero, suc, ◌+◌, ◌-◌, ◌≤◌, ◌<◌, Bool, true, false, List, [], ◌∷◌, length, get_or, take, leb, refl, ap, ◌∙◌, arith}
use Rattle.std.proofs.lemmas.Bool.{leb-true, leb-false, ltb-true, ltb-false}
use Rattle.std.proofs.lemmas.List.{take_all, take-take, get_or_default}
use Rattle.std.proofs.lemmas.List.Sums.{sum_by-cons, sum_by_more, sum_by-take-le}
use Rattle.std.proofs.lemmas.List.Sorted.{IsPartitionedBy-leb}
use Rattle.values.specs.inner.Starts.{starts_from, IsInRun}

pub length_starts : (s : ℕ) (ns : List ℕ) → length (starts_from s ns) ≡ length ns
length_starts s [] = refl
length_starts s (n ∷ ns) = ap suc (length_starts (s + n) ns)

-- a run starts where those before it end
pub start_at : (s : ℕ) (ns : List ℕ) (k : ℕ) → k < length ns → get_or (starts_from s ns) k 0 ≡ s + sum (take k ns)
start_at s [] k lt = absurd (omega arith)
start_at s (n ∷ ns) zero lt = omega arith
start_at s (n ∷ ns) (suc k) lt =
    let rest = start_at (s + n) ns k (omega arith) in
    let more = sum_by-cons (λ (x : ℕ). x) n (take k ns) in
    omega (arith, rest, more)

taken_le : (ns : List ℕ) (i j : ℕ) → i ≤ j → sum (take i ns) ≤ sum (take j ns)
taken_le ns i j le =
    let part = sum_by-take-le (λ (x : ℕ). x) (take j ns) i in
    rw (take-take i j ns le) at part

rises : (ns : List ℕ) (i j d : ℕ) → i ≤ j → j < length (starts_from 0 ns) → get_or (starts_from 0 ns) i d ≤ get_or (starts_from 0 ns) j d
rises ns i j d le lt =
    let many = length_starts 0 ns in
    let first = get_or_default (starts_from 0 ns) i d 0 (omega arith) ∙ start_at 0 ns i (omega (arith, many)) in
    let second = get_or_default (starts_from 0 ns) j d 0 lt ∙ start_at 0 ns j (omega (arith, many)) in
    omega (arith, first, second, taken_le ns i j le)

pub starts_parted : (ns : List ℕ) (place : ℕ) → IsPartitionedBy (λ y. leb y place) (starts_from 0 ns)
starts_parted ns place = IsPartitionedBy-leb (λ (y : ℕ). y) (starts_from 0 ns) place (rises ns)

-- the run that starts last, at or before a place
ends_after : (ns : List ℕ) (run place : ℕ) (b : Bool) → nat_lt (run + 1) (length ns) ≡ b → (run + 1 < length ns → place < sum (take (run + 1) ns)) → place < sum ns
    → place < sum (take (run + 1) ns)
ends_after ns run place true e next all = next (ltb-true _ _ e)
ends_after ns run place false e next all =
    let past : length ns ≤ run + 1 = ltb-false _ _ e in
    rw (take_all (run + 1) ns past) all

pub in_run : (ns : List ℕ) (run place : ℕ) → run < length ns → sum (take run ns) ≤ place → (run + 1 < length ns → place < sum (take (run + 1) ns)) → place < sum ns → IsInRun ns run place
in_run ns run place there low next all =
    let more = sum_by_more (λ (x : ℕ). x) ns run 0 there in
    let after = ends_after ns run place (nat_lt (run + 1) (length ns)) refl next all in
    record { there = there; low = low; high = omega (arith, more, after) }

-- the same, by the starts
pub last_start : (ns starts : List ℕ) (run place : ℕ) → starts ≡ starts_from 0 ns → place < sum ns → run < length starts → get_or starts run 0 ≤ place
    → (run + 1 < length starts → place < get_or starts (run + 1) 0) → IsInRun ns run place
last_start ns starts run place are all there low next =
    let many = ap length are ∙ length_starts 0 ns in
    let here : get_or starts run 0 ≡ sum (take run ns) = rw are (omega (arith, start_at 0 ns run (omega (arith, many)))) in
    let there_next : run + 1 < length ns → place < sum (take (run + 1) ns) =
    λ lt. let at = start_at 0 ns (run + 1) lt in
    let before = next (omega (arith, many)) in
    let same : get_or starts (run + 1) 0 ≡ get_or (starts_from 0 ns) (run + 1) 0 = ap (λ (xs : List ℕ). get_or xs (run + 1) 0) are in
    omega (arith, at, before, same)
    in in_run ns run place (omega (arith, many)) (omega (arith, here)) there_next all

-- how many start at or before it, less one
pub by_halves : (ns starts : List ℕ) (place r : ℕ) → starts ≡ starts_from 0 ns → place < sum ns → r ≤ length starts
    → AllWithin (λ y. leb y place ≡ true) starts 0 r → AllWithin (λ y. leb y place ≡ false) starts r (length starts) → IsInRun ns (r - 1) place
by_halves [] starts place r are all le low high = absurd (omega arith)
by_halves (n ∷ ns) starts place zero are all le low high =
    let first : get_or starts 0 0 ≡ 0 = ap (λ (xs : List ℕ). get_or xs 0 0) are in
    let some : 0 < length starts = rw are (omega arith) in
    let past = high 0 0 (omega arith) some in
    absurd (omega (arith, first, leb-false _ _ past))
by_halves (n ∷ ns) starts place (suc k) are all le low high =
    let e : suc k - 1 ≡ k = omega arith in
    rw e (last_start (n ∷ ns) starts k place are all (omega arith) (leb-true _ _ (low k 0 (omega arith) (omega arith))) (λ lt. leb-false _ _ (high (k + 1) 0 (omega arith) lt)))

-- a start that is kept
pub kept_start : (ns starts : List ℕ) (k r : ℕ) → starts ≡ starts_from 0 ns → k < length ns → r ≡ get_or starts k r → r ≡ sum (take k ns)
kept_start ns starts k r are lt is =
    let many = length_starts 0 ns in
    let same : get_or starts k r ≡ get_or (starts_from 0 ns) k r = ap (λ (xs : List ℕ). get_or xs k r) are in
    let other = get_or_default (starts_from 0 ns) k r 0 (omega (arith, many)) in
    omega (arith, is, same, other, start_at 0 ns k lt)

pub as_many : (ns starts : List ℕ) → starts ≡ starts_from 0 ns → length starts ≡ length ns
as_many ns starts are = ap length are ∙ length_starts 0 ns
