-- Catalogues that shrink in turn are few.
use Rattle.std.specs.Prelude.{◌≡◌, ◌≤◌, ◌<◌, ◌+◌, ◌*◌, ◌&&◌, ℕ, zero, suc, true, nat_le, List, [], ◌∷◌, ◌++◌, length, flat_map, sum_by, refl}
use Rattle.std.proofs.Common.{⊎_elim, ap, ◌∙◌, subst, arith, length-append}
use Rattle.std.proofs.lemmas.Bool.{and_parts, and_from, leb-true}
use Rattle.std.proofs.lemmas.List.{length-map}
use Rattle.std.proofs.lemmas.List.Sums.{sum_by-cons}
use Rattle.std.proofs.lemmas.Nat.{mul-le}
use Rattle.segments.specs.declared.run.Run.{Run}
use Rattle.catalogue.specs.declared.entry.Segment.{Segment}
use Rattle.catalogue.specs.Entries.{PlainEntry, PlainCatalogue, page_runs, runs_in_segments, runs_in, runs_of, segment_count}
use Rattle.commit.specs.Standing.{is_on_device, all_on_device}
use Rattle.store_changes.specs.Exchanging.{starts_sum, ShrinkInTurn, AreOnDevice}

abbrev starts : List Run → ℕ
starts rs = sum_by (λ (r : Run). r.start) rs

-- the runs of all segments
abbrev segment_runs : PlainCatalogue → List Run
segment_runs c = flat_map (λ (e : PlainEntry). runs_in_segments e.segments) c

-- some of the runs that are named
pub on_parts : (size : ℕ) (rs ss : List Run) → all_on_device size (rs ++ ss) ≡ true → (all_on_device size rs ≡ true) × (all_on_device size ss ≡ true)
on_parts size [] ss on = (refl, on)
on_parts size (r ∷ rs) ss on =
    let parts = and_parts (is_on_device size r) (all_on_device size (rs ++ ss)) on in
    let more = on_parts size rs ss parts.1 in
    (and_from (is_on_device size r) (all_on_device size rs) parts.0 more.0, more.1)

pub on_both : (size : ℕ) (rs ss : List Run) → all_on_device size rs ≡ true → all_on_device size ss ≡ true → all_on_device size (rs ++ ss) ≡ true
on_both size [] ss first others = others
on_both size (r ∷ rs) ss first others =
    let parts = and_parts (is_on_device size r) (all_on_device size rs) first in
    and_from (is_on_device size r) (all_on_device size (rs ++ ss)) parts.0 (on_both size rs ss parts.1 others)

segments_on : (size : ℕ) (c : PlainCatalogue) → all_on_device size (runs_of c) ≡ true → all_on_device size (segment_runs c) ≡ true
segments_on size [] on = refl
segments_on size (x ∷ xs) on =
    let parts = on_parts size (runs_in x) (runs_of xs) on in
    on_both size (runs_in_segments x.segments) (segment_runs xs) (on_parts size (page_runs x.page) (runs_in_segments x.segments) parts.0).1 (segments_on size xs parts.1)

count_is : (c : PlainCatalogue) → length (segment_runs c) ≡ segment_count c
count_is [] = refl
count_is (x ∷ xs) = omega (arith, length-append (runs_in_segments x.segments) (segment_runs xs), length-map x.segments (λ (s : Segment). s.place.run), count_is xs, sum_by-cons (λ (e : PlainEntry). length e.segments) x xs)

-- each run starts after the commit sectors, and on the device
low : (size : ℕ) (rs : List Run) → all_on_device size rs ≡ true → length rs ≤ starts rs
low size [] on = omega arith
low size (r ∷ rs) on =
    let parts = and_parts (is_on_device size r) (all_on_device size rs) on in
    let above = leb-true 2 r.start (and_parts (nat_le 2 r.start) (nat_le 1 r.count && nat_le (r.start + r.count) size) parts.0).0 in
    omega (arith, low size rs parts.1, above, sum_by-cons (λ (x : Run). x.start) r rs)

suc_times : (n k : ℕ) → suc n * k ≡ k + n * k
suc_times n k = omega arith

high : (size : ℕ) (rs : List Run) → all_on_device size rs ≡ true → starts rs ≤ length rs * size
high size [] on = omega arith
high size (r ∷ rs) on =
    let parts = and_parts (is_on_device size r) (all_on_device size rs) on in
    let more = and_parts (nat_le 2 r.start) (nat_le 1 r.count && nat_le (r.start + r.count) size) parts.0 in
    let within = leb-true (r.start + r.count) size (and_parts (nat_le 1 r.count) (nat_le (r.start + r.count) size) more.1).1 in
    omega (arith, high size rs parts.1, within, sum_by-cons (λ (x : Run). x.start) r rs, suc_times (length rs) size)

-- as many catalogues may follow one of n segments, of which none ever has more than this
abbrev bound : (each segments sum : ℕ) → ℕ
bound each zero sum = 0
bound each (suc k) sum = k * each + sum

sums_low : (size : ℕ) (c : PlainCatalogue) → all_on_device size (runs_of c) ≡ true → segment_count c ≤ starts_sum c
sums_low size c on = let l = low size (segment_runs c) (segments_on size c on) in omega (arith, l, count_is c)

sums_high : (size : ℕ) (c : PlainCatalogue) → all_on_device size (runs_of c) ≡ true → starts_sum c ≤ segment_count c * size
sums_high size c on = subst (λ (n : ℕ). starts_sum c ≤ n * size) (count_is c) (high size (segment_runs c) (segments_on size c on))

times_le : (a b k : ℕ) → a ≤ b → a * k ≤ b * k
times_le a b k le = mul-le a k b k le (omega arith)

in_turn : (size most : ℕ) (c : PlainCatalogue) (cs : List PlainCatalogue) → AreOnDevice size (c ∷ cs) → ShrinkInTurn c cs → segment_count c ≤ most → length cs ≤ bound (most * size + 1) (segment_count c) (starts_sum c)
in_turn size most c [] on shrink few = omega arith
in_turn size most c (d ∷ ds) on shrink few =
    ⊎_elim
    (λ (fewer : segment_count d + 1 ≡ segment_count c).
    let rest = in_turn size most d ds on.1 shrink.1 (omega (arith, fewer, few)) in
    fewer_one (segment_count d) (segment_count c) (starts_sum d) (starts_sum c) fewer (sums_low size c on.0) (sums_high size d on.1.0) few rest)
    (λ (lower : (segment_count d ≡ segment_count c) × (starts_sum d < starts_sum c)).
    let rest = in_turn size most d ds on.1 shrink.1 (omega (arith, lower.0, few)) in
    lower_sum (segment_count d) (segment_count c) (starts_sum d) (starts_sum c) lower.0 lower.1 (sums_high size c on.0) rest)
    shrink.0
  where
    each : ℕ
    each = most * size + 1

    fewer_one : (k s sum' sum : ℕ) → k + 1 ≡ s → s ≤ sum → sum' ≤ k * size → s ≤ most → length ds ≤ bound each k sum' → length (d ∷ ds) ≤ bound each s sum
    fewer_one zero zero sum' sum is low high few rest = absurd (omega (arith, is))
    fewer_one (suc k) zero sum' sum is low high few rest = absurd (omega (arith, is))
    fewer_one zero (suc s) sum' sum is low high few rest = omega (arith, low, rest, is)
    fewer_one (suc j) (suc s) sum' sum is low high few rest =
        let same : s ≡ suc j = omega (arith, is) in
        let fits = times_le (suc j) most size (omega (arith, is, few)) in
        let more : s * each ≡ each + j * each = ap (λ (n : ℕ). n * each) same ∙ suc_times j each in
        omega (arith, rest, high, fits, more)

    lower_sum : (k s sum' sum : ℕ) → k ≡ s → sum' < sum → sum ≤ s * size → length ds ≤ bound each k sum' → length (d ∷ ds) ≤ bound each s sum
    lower_sum zero zero sum' sum is less high rest = absurd (omega (arith, less, high))
    lower_sum (suc k) zero sum' sum is less high rest = absurd (omega (arith, is))
    lower_sum zero (suc s) sum' sum is less high rest = absurd (omega (arith, is))
    lower_sum (suc k) (suc s) sum' sum is less high rest =
        let same : k * each ≡ s * each = ap (λ (n : ℕ). n * each) (let e : k ≡ s = omega (arith, is) in e) in
        omega (arith, rest, less, same)

pub few_in_turn : (size : ℕ) (c : PlainCatalogue) (cs : List PlainCatalogue) → AreOnDevice size (c ∷ cs) → ShrinkInTurn c cs → length cs ≤ segment_count c * (segment_count c * size + 1)
few_in_turn size c cs on shrink = by_count (segment_count c) (starts_sum c) (in_turn size (segment_count c) c cs on shrink (omega arith)) (sums_high size c on.0)
  where
    by_count : (s sum : ℕ) → length cs ≤ bound (s * size + 1) s sum → sum ≤ s * size → length cs ≤ s * (s * size + 1)
    by_count zero sum le high = omega (arith, le)
    by_count (suc k) sum le high = let more = suc_times k (suc k * size + 1) in omega (arith, le, high, more)
