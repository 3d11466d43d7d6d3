-- Slots that weigh no more than as many nulls and what a number rises by from one to the next.
use Rattle.std.specs.List.{range_with_len}
use Rattle.std.proofs.Common.{◌≡◌, ℕ, zero, suc, ◌+◌, ◌-◌, ◌*◌, ◌≤◌, ◌<◌, Bool, true, false, List, [], ◌∷◌, length, take, map, sum_by, refl, sym, ap, arith, ◌∙◌, add-mul, subst}
use Rattle.std.specs.Prelude.{if◌then◌else◌, min}
use Rattle.std.proofs.lemmas.List.{length-take}
use Rattle.std.proofs.lemmas.List.Sums.{sum_by-cons}
use Rattle.cells.specs.Cell.{Cell, cells_of, null}
use Rattle.cells.specs.Weight.{sum_of}
use Rattle.columns.specs.Array.{Array, slots_in, offsets_in, contents_in}
use Rattle.columns.specs.CellAt.{contents_at, number_at, span_cells, span_size, span_start}
use Rattle.columns.specs.Tests.{are_unordered}
use Rattle.columns.specs.laws.Offsets.{offsets_ascend, spans_fit}

-- the sum over n places, from one on
abbrev pub sum_from : {X : Type 0} → (X → ℕ) → (ℕ → X) → (start n : ℕ) → ℕ
sum_from w f start n = sum_by w (map f (range_with_len start n))

-- a number at a place, and 0 at the first one
abbrev pub past : (ℕ → ℕ) → ℕ → ℕ
past f zero = 0
past f (suc i) = f (suc i)

pub past_next : (f : ℕ → ℕ) (i : ℕ) → past f (i + 1) ≡ f (i + 1)
past_next f i = let e : i + 1 ≡ suc i = omega arith in rw e refl

pub past_least : (f : ℕ → ℕ) (i : ℕ) → past f i ≤ f i
past_least f zero = omega arith
past_least f (suc i) = omega arith

-- the cell at a place weighs no more than a null and what the number rises by up to the next place
pub record Climbs (w : Cell → ℕ) (f : ℕ → Cell) (r : ℕ → ℕ) (i : ℕ) : Type 0 where
  pub own : w (f i) + r i ≤ w null + r (i + 1)
  pub up : r i ≤ r (i + 1)

-- so do cells in a row
pub span_climbs : (w : Cell → ℕ) (f : ℕ → Cell) (r : ℕ → ℕ) (most start n : ℕ) → ((i : ℕ) → i < most → Climbs w f r i) → start + n ≤ most
    → (sum_from w f start n + r start ≤ n * w null + r (start + n)) × (r start ≤ r (start + n))
span_climbs w f r most start zero each le =
    let e : start + 0 ≡ start = omega arith in
    let none : sum_from w f start 0 ≡ 0 = refl in
    rw e (omega (arith, none), omega arith)
span_climbs w f r most start (suc n) each le =
    let e : start + suc n ≡ start + 1 + n = omega arith in
    let here = each start (omega arith) in
    let own : w (f start) + r start ≤ w null + r (start + 1) = here.own in
    let up : r start ≤ r (start + 1) = here.up in
    let rest = span_climbs w f r most (start + 1) n each (omega arith) in
    let others : sum_from w f (start + 1) n + r (start + 1) ≤ n * w null + r (start + 1 + n) = rest.0 in
    let more : r (start + 1) ≤ r (start + 1 + n) = rest.1 in
    let next : sum_from w f start (suc n) ≡ w (f start) + sum_from w f (start + 1) n = sum_by-cons w (f start) (map f (range_with_len (start + 1) n)) in
    rw e (omega (arith, own, others, next), omega (arith, up, more))

-- ---- one valid slot

-- a null weighs as a null
pub valid_climbs : (w : Cell → ℕ) (x : Cell) (valid : Bool) (p q : ℕ) → w x + p ≤ w null + q → p ≤ q → w (if valid then x else null) + p ≤ w null + q
valid_climbs w x true p q own up = own
valid_climbs w x false p q own up = omega (arith, up)

pub taken_most : (n : ℕ) (xs : List ℕ) → length (take n xs) ≤ n
taken_most n xs = let e : length (take n xs) ≡ min n (length xs) = length-take n xs in omega (arith, e)

pub sum_listed : (w : Cell → ℕ) (xs : List Cell) → sum_of w (cells_of xs) ≡ sum_by w xs
sum_listed w [] = refl
sum_listed w (x ∷ xs) = let rest = sum_listed w xs in let one = sum_by-cons w x xs in omega (arith, rest, one)

-- texts and binaries: one, and the bytes up to the next offset
pub contents_climb : (width : ℕ) (a : Array) (i : ℕ) → are_unordered width (length (contents_in a)) a ≡ false → i < slots_in a
    → (1 + length (contents_at width a i) + past (span_start width a) i ≤ 1 + past (span_start width a) (i + 1)) × (past (span_start width a) i ≤ past (span_start width a) (i + 1))
contents_climb width a i ordered lt =
    let at : ℕ → ℕ = span_start width a in
    let size : length (contents_at width a i) ≤ at (i + 1) - at i = taken_most (span_size width a i) _ in
    let up : at i ≤ at (i + 1) = offsets_ascend width (length (contents_in a)) a i 1 ordered (omega arith) (omega arith) in
    let least : past at i ≤ at i = past_least at i in
    let next : past at (i + 1) ≡ at (i + 1) = past_next at i in
    (omega (arith, size, up, least, next), omega (arith, up, least, next))

-- up to an offset: as many nulls as there are items before it, and what these weigh more
abbrev pub items_reach : (width : ℕ) → Array → (unit : ℕ) → (ℕ → ℕ) → ℕ → ℕ
items_reach width a unit r j = span_start width a j * unit + r (span_start width a j)

-- items in a row, with as many nulls as there are before them
items_step : (w : Cell → ℕ) (f : ℕ → Cell) (r : ℕ → ℕ) (most k n end : ℕ) → k + n ≡ end → ((j : ℕ) → j < most → Climbs w f r j) → end ≤ most
    → (sum_from w f k n + (k * w null + r k) ≤ end * w null + r end) × (k * w null + r k ≤ end * w null + r end)
items_step w f r most k n end e each le =
    let span = span_climbs w f r most k n each (omega (arith, e, le)) in
    let sum : sum_from w f k n + r k ≤ n * w null + r end = subst (λ (x : ℕ). sum_from w f k n + r k ≤ n * w null + r x) e span.0 in
    let rise : r k ≤ r end = subst (λ (x : ℕ). r k ≤ r x) e span.1 in
    let whole : end * w null ≡ k * w null + n * w null = ap (λ (x : ℕ). x * w null) (sym e) ∙ add-mul k n (w null) in
    (omega (arith, sum, whole), omega (arith, rise, whole))

-- lists: one, and their items
pub items_climb : (width : ℕ) (a : Array) (w : Cell → ℕ) (f : ℕ → Cell) (r : ℕ → ℕ) (most i : ℕ) → are_unordered width most a ≡ false → ((j : ℕ) → j < most → Climbs w f r j) → i < slots_in a
    → (1 + sum_of w (cells_of (span_cells width f a i)) + past (items_reach width a (w null) r) i ≤ 1 + past (items_reach width a (w null) r) (i + 1))
    × (past (items_reach width a (w null) r) i ≤ past (items_reach width a (w null) r) (i + 1))
items_climb width a w f r most i ordered each lt =
    let at : ℕ → ℕ = span_start width a in
    let g : ℕ → ℕ = items_reach width a (w null) r in
    let up : at i ≤ at (i + 1) = offsets_ascend width most a i 1 ordered (omega arith) (omega arith) in
    let fits : at i + (at (i + 1) - at i) ≤ most = spans_fit width most a i 1 ordered (omega arith) (omega arith) in
    let e : at i + (at (i + 1) - at i) ≡ at (i + 1) = omega (arith, up) in
    let step = items_step w f r most (at i) (at (i + 1) - at i) (at (i + 1)) e each (omega (arith, e, fits)) in
    let sum : sum_from w f (at i) (at (i + 1) - at i) + g i ≤ g (i + 1) = step.0 in
    let rise : g i ≤ g (i + 1) = step.1 in
    let listed : sum_of w (cells_of (span_cells width f a i)) ≡ sum_from w f (at i) (at (i + 1) - at i) = sum_listed w (span_cells width f a i) in
    let least : past g i ≤ g i = past_least g i in
    let next : past g (i + 1) ≡ g (i + 1) = past_next g i in
    (behind _ _ _ _ _ _ sum listed least next, omega (arith, rise, least, next))
  where
    behind : (cells sum before here there end : ℕ) → sum + here ≤ there → cells ≡ sum → before ≤ here → end ≡ there → 1 + cells + before ≤ 1 + end
    behind cells sum before here there end a b c d = omega (arith, a, b, c, d)
