-- Runs in use share no sector, so all of them together fit on their device; and the largest free run.
use Rattle.std.specs.Prelude.{◌||◌, nat_le, min, sum_by}
use Rattle.std.proofs.Common.{◌≡◌, inl, inr, ⊎_elim, ◌≤◌, ◌<◌, ◌+◌, ◌-◌, ℕ, zero, suc, true, List, [], ◌∷◌, None, refl, ap, arith}
use Rattle.std.proofs.lemmas.Bool.{and_parts, and_from, cases_lt, leb-true}
use Rattle.std.proofs.lemmas.List.Sums.{sum_by-cons}
use Rattle.segments.specs.declared.run.Run.{Run}
use Rattle.segments.specs.Runs.{IsFree, IsLowest}
use Rattle.commit.specs.Standing.{is_size, is_on_device, all_on_device, is_apart, are_apart, runs_fault}
use Rattle.commit.specs.laws.Apart.{pair_apart, on_device_is}
use Rattle.commit.specs.laws.Frame.{fault_none}

-- ---- the sectors of runs that stand before one sector

abbrev below : ℕ → Run → ℕ
below n r = min (n - r.start) r.count

abbrev all_below : ℕ → List Run → ℕ
all_below n [] = 0
all_below n (r ∷ rs) = below n r + all_below n rs

-- a sector of one run is in none that is apart from it
still : (n : ℕ) (r : Run) (rs : List Run) → r.start ≤ n → n < r.start + r.count → is_apart r rs ≡ true → all_below (n + 1) rs ≡ all_below n rs
still n r [] low high is = refl
still n r (s ∷ ss) low high is =
    let parts = and_parts (nat_le (r.start + r.count) s.start || nat_le (s.start + s.count) r.start) (is_apart r ss) is in
    let one : below (n + 1) s ≡ below n s = ⊎_elim
    (λ (before : s.start + s.count ≤ r.start). omega (arith, low, before))
    (λ (after : r.start + r.count ≤ s.start). omega (arith, high, after))
    (pair_apart r s parts.0) in
    omega (arith, one, still n r ss low high parts.1)

-- a sector is in one of them at the most
one_more : (n : ℕ) (rs : List Run) → are_apart rs ≡ true → all_below (n + 1) rs ≤ all_below n rs + 1
one_more n [] is = omega arith
one_more n (r ∷ rs) is =
    let parts = and_parts (is_apart r rs) (are_apart rs) is in
    ⊎_elim
    (λ (out : n < r.start). omega (arith, out, one_more n rs parts.1))
    (λ (low : r.start ≤ n).
    ⊎_elim
    (λ (high : n < r.start + r.count). omega (arith, still n r rs low high parts.0))
    (λ (behind : r.start + r.count ≤ n). omega (arith, behind, one_more n rs parts.1))
    (cases_lt n (r.start + r.count)))
    (cases_lt n r.start)

none_below : (size : ℕ) (rs : List Run) → all_on_device size rs ≡ true → all_below 2 rs ≡ 0
none_below size [] on = refl
none_below size (r ∷ rs) on =
    let parts = and_parts (is_on_device size r) (all_on_device size rs) on in
    let own = on_device_is size r parts.0 in
    omega (arith, own.above, none_below size rs parts.1)

few_below : (size k : ℕ) (rs : List Run) → are_apart rs ≡ true → all_on_device size rs ≡ true → (n : ℕ) → n ≡ 2 + k → all_below n rs ≤ k
few_below size zero rs apart on n is =
    let at : n ≡ 2 = omega (arith, is) in
    omega (arith, ap (λ m. all_below m rs) at, none_below size rs on)
few_below size (suc k) rs apart on n is =
    let at : n ≡ (2 + k) + 1 = omega (arith, is) in
    omega (arith, ap (λ m. all_below m rs) at, one_more (2 + k) rs apart, few_below size k rs apart on (2 + k) refl)

whole_below : (size : ℕ) (rs : List Run) → all_on_device size rs ≡ true → all_below size rs ≡ sum_by (λ (r : Run). r.count) rs
whole_below size [] on = refl
whole_below size (r ∷ rs) on =
    let parts = and_parts (is_on_device size r) (all_on_device size rs) on in
    let own = on_device_is size r parts.0 in
    omega (arith, own.within, whole_below size rs parts.1, sum_by-cons (λ (r : Run). r.count) r rs)

-- runs on the device that share no sector fit after the commit sectors
pub apart_fit : (size : ℕ) (rs : List Run) → 2 ≤ size → all_on_device size rs ≡ true → are_apart rs ≡ true → 2 + sum_by (λ (r : Run). r.count) rs ≤ size
apart_fit size rs some on apart = omega (arith, some, few_below size (size - 2) rs apart on size (omega (arith, some)), whole_below size rs on)

-- so do the runs of a catalogue, and that of its text
pub runs_fit : (size : ℕ) (text : Run) (runs : List Run) → 2 ≤ size → is_on_device size text ≡ true → runs_fault size text runs ≡ None → 2 + sum_by (λ (r : Run). r.count) (text ∷ runs) ≤ size
runs_fit size text runs some placed fit =
    let parts = fault_none size text runs fit in
    apart_fit size (text ∷ runs) some (and_from (is_on_device size text) (all_on_device size runs) placed parts.0) parts.1

-- the same of a store's device, and of the runs as they were gathered
pub used_fit : (size : ℕ) (text : Run) (named runs : List Run) → is_size size ≡ true → is_on_device size text ≡ true → runs_fault size text named ≡ None → runs ≡ named
    → (2 + text.count + sum_by (λ (r : Run). r.count) runs ≤ size) × (size ≤ 4194304)
used_fit size text named runs sized placed fit are =
    let limits = and_parts (nat_le 16 size) (nat_le size 4194304) sized in
    let least = leb-true 16 size limits.0 in
    let all = runs_fit size text named (omega (arith, least)) placed fit in (
      omega (arith, all, sum_by-cons (λ (r : Run). r.count) text named, ap (sum_by (λ (r : Run). r.count)) are),
      leb-true size 4194304 limits.1,
    )

pub used_are : (text : Run) (named runs : List Run) (count : ℕ) → count ≡ sum_by (λ (r : Run). r.count) runs → runs ≡ named
    → 2 + text.count + count ≡ 2 + sum_by (λ (r : Run). r.count) (text ∷ named)
used_are text named runs count is are = omega (arith, is, sum_by-cons (λ (r : Run). r.count) text named, ap (sum_by (λ (r : Run). r.count)) are)

-- ---- the largest free run

-- a run of fewer sectors is free where one of more is
shorter : (size : ℕ) (used : Run → Type 0) (run : Run) (count : ℕ) → count ≤ run.count → IsFree size used run → IsFree size used (record { start = run.start; count = count })
shorter size used run count le free = record {
  above = free.above;
  within = omega (arith, free.within, le);
  apart = λ other is. ⊎_elim
      (λ (before : run.start + run.count ≤ other.start). inl (omega (arith, before, le)))
      (λ (after : other.start + other.count ≤ run.start). inr after)
      (free.apart other is);
}

-- the largest run has a number of sectors between these
pub record Between (size : ℕ) (used : Run → Type 0) (some most : ℕ) : Type 0 where
  pub order : some ≤ most
  pub high : most ≤ size
  pub reached : 1 ≤ some → (run : Run) × (run.count ≡ some) × IsFree size used run
  pub bounded : (run : Run) → IsFree size used run → run.count ≤ most

pub between_none : (size : ℕ) (used : Run → Type 0) (some most count less : ℕ) → Between size used some most → some < count → count ≤ most → count ≡ less + 1 → IsLowest size used count None → Between size used some less
between_none size used some most count less between more le is none = record {
  order = omega (arith, more, is);
  high = omega (arith, between.high, le, is);
  reached = between.reached;
  bounded = λ run free. ⊎_elim
      (λ (lt : run.count < count). omega (arith, lt, is))
      (λ (ge : count ≤ run.count). absurd (none (record { start = run.start; count = count }) refl (shorter size used run count ge free)))
      (cases_lt run.count count);
}
