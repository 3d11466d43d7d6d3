-- Offsets in order: where the spans of slots begin and end.
use Rattle.std.specs.Prelude.{◌||◌, ◌==◌, nat_lt}
use Rattle.std.specs.List.{list_any, range_with_len}
use Rattle.std.proofs.Common.{◌≡◌, ℕ, zero, suc, ◌+◌, ◌-◌, ◌≤◌, ◌<◌, Bool, false, arith}
use Rattle.std.proofs.lemmas.Bool.{or_parts, ltb-false, ne_eqb}
use Rattle.columns.specs.Array.{Array, slots_in, offsets_in}
use Rattle.columns.specs.CellAt.{number_at, span_start}
use Rattle.columns.specs.Tests.{are_unordered, is_negative}

-- a test that holds for no number of a range
pub none : (p : ℕ → Bool) (start n i : ℕ) → list_any p (range_with_len start n) ≡ false → i < n → p (start + i) ≡ false
none p start zero i h lt = absurd (omega arith)
none p start (suc n) zero h lt = let e : start + 0 ≡ start = omega arith in rw e (or_parts (p start) (list_any p (range_with_len (start + 1) n)) h).0
none p start (suc n) (suc i) h lt =
    let e : start + suc i ≡ start + 1 + i = omega arith in
    rw e (none p (start + 1) n i (or_parts (p start) (list_any p (range_with_len (start + 1) n)) h).1 (omega arith))

pub ascend : (f : ℕ → ℕ) (i d : ℕ) → ((k : ℕ) → k < i + d → f k ≤ f (k + 1)) → f i ≤ f (i + d)
ascend f i zero h = let e : i + 0 ≡ i = omega arith in rw e (omega arith)
ascend f i (suc d) h =
    let first = ascend f i d (λ k lt. h k (omega arith)) in
    let last = h (i + d) (omega arith) in
    let e : i + suc d ≡ i + d + 1 = omega arith in
    rw e (omega (arith, first, last))

-- no offset is less than the one before it, and the last is at most `most`
orders : (width most : ℕ) (a : Array) → are_unordered width most a ≡ false → 0 < slots_in a
    → (list_any (λ k. nat_lt (number_at width (offsets_in a) (k + 1)) (number_at width (offsets_in a) k)) (range_with_len 0 (slots_in a)) ≡ false)
    × (nat_lt most (number_at width (offsets_in a) (slots_in a)) ≡ false)
orders width most a h filled =
    let offset : ℕ → ℕ = number_at width (offsets_in a) in
    let some : (slots_in a == 0) ≡ false = ne_eqb _ _ (λ e. omega arith) in
    let negative : Bool = list_any (λ k. is_negative width (offset k)) (range_with_len 0 (slots_in a + 1)) in
    let falls : Bool = list_any (λ k. nat_lt (offset (k + 1)) (offset k)) (range_with_len 0 (slots_in a)) in
    let past : Bool = nat_lt most (offset (slots_in a)) in
    let tests : (negative || (falls || past)) ≡ false = rw some at h in
    or_parts falls past (or_parts negative (falls || past) tests).1

pub offsets_ascend : (width most : ℕ) (a : Array) (from count : ℕ) → are_unordered width most a ≡ false → 0 < slots_in a → from + count ≤ slots_in a
    → number_at width (offsets_in a) from ≤ number_at width (offsets_in a) (from + count)
offsets_ascend width most a from count h filled le =
    let f : ℕ → ℕ = number_at width (offsets_in a) in
    let falls = (orders width most a h filled).0 in
    let up : (k : ℕ) → k < slots_in a → f k ≤ f (k + 1) = λ k l. let z : 0 + k ≡ k = omega arith in ltb-false _ _ (rw z at (none (λ j. nat_lt (f (j + 1)) (f j)) 0 (slots_in a) k falls l)) in
    ascend f from count (λ k l. up k (omega arith))

-- the span of consecutive slots ends at `most` or before
pub spans_fit : (width most : ℕ) (a : Array) (from count : ℕ) → are_unordered width most a ≡ false → 0 < slots_in a → from + count ≤ slots_in a
    → span_start width a from + (number_at width (offsets_in a) (from + count) - span_start width a from) ≤ most
spans_fit width most a from count h filled le =
    let f : ℕ → ℕ = number_at width (offsets_in a) in
    let last : f (slots_in a) ≤ most = ltb-false _ _ (orders width most a h filled).1 in
    let own : f from ≤ f (from + count) = offsets_ascend width most a from count h filled le in
    let e : from + count + (slots_in a - (from + count)) ≡ slots_in a = omega arith in
    let others : f (from + count) ≤ f (slots_in a) = rw e at (offsets_ascend width most a (from + count) (slots_in a - (from + count)) h filled (omega arith)) in
    omega (arith, last, own, others)
