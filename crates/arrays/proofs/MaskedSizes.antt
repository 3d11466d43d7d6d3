-- Bytes of slots whose bits are set, by their runs.
use Rattle.std.specs.Prelude.{◌==◌, if◌then◌else◌}
use Rattle.std.specs.Int.{bit_at}
use Rattle.std.proofs.Common.{◌≡◌, ℕ, zero, suc, ◌+◌, ◌-◌, ◌^◌, ◌≤◌, ◌<◌, false, inl, inr, ap, arith, ◌∙◌}
use Rattle.std.proofs.lemmas.Bool.{cases_lt}
use Rattle.std.proofs.lemmas.Nat.Bits.{bit_at-zero}
use Rattle.columns.specs.Array.{Array, offsets_in, slots_in}
use Rattle.columns.specs.CellAt.{number_at, span_size}
use Rattle.columns.specs.Tests.{are_unordered}
use Rattle.columns.specs.laws.Offsets.{offsets_ascend}
use Rattle.arrays.proofs.NextBits.{ends_below}
use Rattle.arrays.proofs.SpanWeights.{each_more, each_same, next, split}
use Rattle.arrays.specs.inner.Weights.{chosen_sizes, sum_from}

-- a run, and what is left after it
pub sizes_more : (f : ℕ → ℕ) (start next end : ℕ) → start ≤ next → next ≤ end
    → sum_from (λ (size : ℕ). size) f start (end - start) ≡ sum_from (λ (size : ℕ). size) f start (next - start) + sum_from (λ (size : ℕ). size) f next (end - next)
sizes_more f start next end le most =
    let e : next - start + (end - next) ≡ end - start = omega arith in
    let d : start + (next - start) ≡ next = omega arith in
    rw (e, d) at (split (λ (size : ℕ). size) f start (next - start) (end - next))

-- the sizes between offsets are what stands between the first and the last
spans : (width most : ℕ) (a : Array) (start n : ℕ) → are_unordered width most a ≡ false → start + n ≤ slots_in a
    → sum_from (λ (size : ℕ). size) (span_size width a) start n ≡ number_at width (offsets_in a) (start + n) - number_at width (offsets_in a) start
spans width most a start zero up within =
    let e : start + 0 ≡ start = omega arith in
    rw e (omega arith)
spans width most a start (suc n) up within =
    let f : ℕ → ℕ = number_at width (offsets_in a) in
    let e : start + suc n ≡ start + 1 + n = omega arith in
    let first : f start ≤ f (start + 1) = offsets_ascend width most a start 1 up (omega arith) (omega arith) in
    let others : f (start + 1) ≤ f (start + 1 + n) = offsets_ascend width most a (start + 1) n up (omega arith) (omega arith) in
    let rest = spans width most a (start + 1) n up (omega arith) in
    let whole = next (λ (size : ℕ). size) (span_size width a) start n in
    rw e (omega (arith, first, others, rest, whole))

-- two sums of the same
pub sizes_same : (f g : ℕ → ℕ) (start n : ℕ) → ((i : ℕ) → start ≤ i → i < start + n → f i ≡ g i) → sum_from (λ (size : ℕ). size) f start n ≡ sum_from (λ (size : ℕ). size) g start n
sizes_same f g start n same =
    let each = each_more (λ (size : ℕ). size) f (λ (size : ℕ). size) g 0 start n (λ i le lt. omega (arith, same i le lt)) in
    omega (arith, each)

ascends : (width most : ℕ) (a : Array) (i j : ℕ) → are_unordered width most a ≡ false → 0 < slots_in a → i ≤ j → j ≤ slots_in a → number_at width (offsets_in a) i ≤ number_at width (offsets_in a) j
ascends width most a i j up some le within =
    let e : i + (j - i) ≡ j = omega (arith, le) in
    rw e at (offsets_ascend width most a i (j - i) up some (omega (arith, le, within)))

-- a run of set bits: it ends among the slots, and what was added before it stands before its offsets
pub run_fits : (width most left from total at begin end count : ℕ) (a : Array) → are_unordered width most a ≡ false → left < 2 ^ count → from + count ≤ slots_in a → begin < end
    → ((j : ℕ) → begin ≤ j → j < end → bit_at left j ≡ 1) → ((j : ℕ) → j < at → bit_at left j ≡ 0) → total + number_at width (offsets_in a) from ≤ number_at width (offsets_in a) (from + at)
    → (end ≤ count) × (total + number_at width (offsets_in a) from ≤ number_at width (offsets_in a) (from + begin))
    × (number_at width (offsets_in a) (from + begin) ≤ number_at width (offsets_in a) (from + end))
run_fits width most left from total at begin end count a up small within some set none fits =
    let ends : begin + (end - begin) ≤ count = ends_below left count begin (end - begin) small (omega (arith, some)) (λ j lt. set (begin + j) (omega arith) (omega (arith, lt))) in
    let high : end ≤ count = omega (arith, ends, some) in
    let one : bit_at left begin ≡ 1 = set begin (omega arith) some in
    let low : at ≤ begin = elim (cases_lt begin at) [
      | inl lt ↦ absurd (omega (arith, one, none begin lt))
      | inr le ↦ le
    ] in
    let before = ascends width most a (from + at) (from + begin) up (omega (arith, high, some, within)) (omega (arith, low)) (omega (arith, high, some, within)) in
    (high, omega (arith, fits, before), ascends width most a (from + begin) (from + end) up (omega (arith, high, some, within)) (omega (arith, some)) (omega (arith, high, within)))

-- what its slots have, and the bits after it
pub next_run : (width most bits rest from begin end count : ℕ) (a : Array) → are_unordered width most a ≡ false → begin < end → end ≤ count → from + count ≤ slots_in a
    → ((j : ℕ) → j < begin → bit_at bits j ≡ 0) → ((j : ℕ) → begin ≤ j → j < end → bit_at bits j ≡ 1)
    → ((j : ℕ) → j < end → bit_at rest j ≡ 0) → ((j : ℕ) → end ≤ j → bit_at rest j ≡ bit_at bits j)
    → chosen_sizes width bits from a from count
    ≡ number_at width (offsets_in a) (from + end) - number_at width (offsets_in a) (from + begin) + chosen_sizes width rest from a from count
next_run width most bits rest from begin end count a up some high within none all before after =
    let f : ℕ → ℕ = λ i. if bit_at bits (i - from) == 1 then span_size width a i else 0 in
    let g : ℕ → ℕ = λ i. if bit_at rest (i - from) == 1 then span_size width a i else 0 in
    let start : ℕ = from + begin in
    let next : ℕ = from + end in
    let to : ℕ = from + count in
    let first : start - from ≡ begin = omega arith in
    let second : next - start ≡ end - begin = omega arith in
    let both : next - from ≡ end = omega arith in
    let whole : to - from ≡ count = omega arith in
    let last : start + (end - begin) ≡ next = omega (arith, some) in
    let hidden = each_same (λ (size : ℕ). size) f 0 from begin (λ i le lt.
    let here : bit_at bits (i - from) ≡ 0 = none (i - from) (omega (arith, le, lt)) in
    rw here (omega arith)) in
    let shown = each_more (λ (size : ℕ). size) f (λ (size : ℕ). size) (span_size width a) 0 start (end - begin) (λ i le lt.
    let here : bit_at bits (i - from) ≡ 1 = all (i - from) (omega (arith, le)) (omega (arith, le, lt, some)) in
    rw here (omega arith)) in
    let gone = each_same (λ (size : ℕ). size) g 0 from end (λ i le lt.
    let here : bit_at rest (i - from) ≡ 0 = before (i - from) (omega (arith, le, lt)) in
    rw here (omega arith)) in
    let same = sizes_same g f next (to - next) (λ i le lt. ap (λ (b : ℕ). if b == 1 then span_size width a i else 0) (after (i - from) (omega (arith, le)))) in
    let sizes = rw last at (spans width most a start (end - begin) up (omega (arith, some, high, within))) in
    let front = rw (first, whole) at (sizes_more f from start to (omega arith) (omega (arith, some, high))) in
    let back = rw second at (sizes_more f start next to (omega (arith, some)) (omega (arith, high))) in
    let others = rw (both, whole) at (sizes_more g from next to (omega arith) (omega (arith, high))) in
    omega (arith, front, back, others, hidden, shown, gone, same, sizes)

-- where no bit is set
pub no_run : (width bits from n : ℕ) (a : Array) → bits ≡ 0 → chosen_sizes width bits from a from n ≡ 0
no_run width bits from n a is =
    let hidden = each_same (λ (size : ℕ). size) (λ i. if bit_at bits (i - from) == 1 then span_size width a i else 0) 0 from n (λ i le lt.
    let here : bit_at bits (i - from) ≡ 0 = ap (λ (x : ℕ). bit_at x (i - from)) is ∙ bit_at-zero (i - from) in
    rw here (omega arith)) in
    omega (arith, hidden)
