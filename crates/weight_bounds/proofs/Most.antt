-- How many slots an array may have, and how much its cells may weigh more than nulls, by the bytes of its buffers.
use Rattle.std.specs.Prelude.{◌⊎◌, ◌&&◌, ◌==◌, not, nat_le, nat_lt, ◌/◌, if◌then◌else◌}
use Rattle.std.specs.List.{list_all}
use Rattle.std.proofs.Common.{◌≡◌, ℕ, zero, suc, ◌+◌, ◌-◌, ◌*◌, ◌≤◌, ◌<◌, Bool, true, false, List, [], ◌∷◌, length, Option, Some, None, inl, inr, refl, sym, ap, arith, ◌∙◌, subst}
use Rattle.std.proofs.lemmas.Bool.{and_parts, leb-true, ltb-false, ne_eqb, not-true}
use Rattle.std.proofs.Math.Nat.{mul-le-mul_left, mul-le-mul_right}
use Rattle.arrow_schema.specs.Column.{Kind, Column, Columns, nulls, booleans, integers, dates, timestamps, texts, large_texts, binaries, large_binaries, fixed_binaries, lists, large_lists, fixed_lists, structs, column, no_column, and_column}
use Rattle.bitmap.specs.Bits.{bytes_of}
use Rattle.cells.specs.Cell.{null}
use Rattle.cells.specs.Fit.{date_bits}
use Rattle.cells.specs.Weight.{weight}
use Rattle.columns.specs.Array.{Array, Arrays, slots_in, validity_in, bits_in, values_in, offsets_in, items_in, children_in, contents_in, indices_in, first_array, other_arrays}
use Rattle.columns.specs.CellAt.{number_at, span_start}
use Rattle.columns.specs.Tests.{are_few, are_few_offsets, are_unordered}
use Rattle.columns.specs.laws.Offsets.{offsets_ascend, spans_fit}
use Rattle.weight_bounds.specs.Bound.{slots_of_width, unless_zero, slots_in_eight, kind_slots_in_eight, part_slots_in_eight, of_items, both, more_of_entries, more_in_eight, kind_more_in_eight, parts_more_in_eight}
use Rattle.weight_bounds.proofs.Climbing.{past, items_reach}
use Rattle.weight_bounds.proofs.Fitting.{is_fit, has_fit_children, are_fit, IsFit, fit_parts, are_within}
use Rattle.weight_bounds.proofs.Steps.{reach_in, reach, reach_parts, both_parts, items_parts}

known : (a d : ℕ) → Some a ≡ Some d → a ≡ d
known a d h = cc h

-- ---- slots

width_chosen : (w slots len most d : ℕ) (b8 b4 b2 b1 : Bool) → nat_le 8 w ≡ b8 → nat_le 4 w ≡ b4 → nat_le 2 w ≡ b2 → nat_le 1 w ≡ b1
    → (if b8 then Some 1 else if b4 then Some 2 else if b2 then Some 4 else if b1 then Some 8 else None) ≡ Some d → slots * w ≤ len → len ≤ most → 8 * slots ≤ d * most
width_chosen w slots len most d true b4 b2 b1 e8 e4 e2 e1 is fits le =
    let k : 1 ≡ d = known 1 d is in
    let wide : 8 ≤ w = leb-true 8 w e8 in
    let own : slots * 8 ≤ slots * w = mul-le-mul_left slots wide in
    let most_is : 8 * slots ≤ 1 * most = omega (arith, own, fits, le) in
    subst (λ (x : ℕ). 8 * slots ≤ x * most) k most_is
width_chosen w slots len most d false true b2 b1 e8 e4 e2 e1 is fits le =
    let k : 2 ≡ d = known 2 d is in
    let wide : 4 ≤ w = leb-true 4 w e4 in
    let own : slots * 4 ≤ slots * w = mul-le-mul_left slots wide in
    let most_is : 8 * slots ≤ 2 * most = omega (arith, own, fits, le) in
    subst (λ (x : ℕ). 8 * slots ≤ x * most) k most_is
width_chosen w slots len most d false false true b1 e8 e4 e2 e1 is fits le =
    let k : 4 ≡ d = known 4 d is in
    let wide : 2 ≤ w = leb-true 2 w e2 in
    let own : slots * 2 ≤ slots * w = mul-le-mul_left slots wide in
    let most_is : 8 * slots ≤ 4 * most = omega (arith, own, fits, le) in
    subst (λ (x : ℕ). 8 * slots ≤ x * most) k most_is
width_chosen w slots len most d false false false true e8 e4 e2 e1 is fits le =
    let k : 8 ≡ d = known 8 d is in
    let wide : 1 ≤ w = leb-true 1 w e1 in
    let own : slots * 1 ≤ slots * w = mul-le-mul_left slots wide in
    let most_is : 8 * slots ≤ 8 * most = omega (arith, own, fits, le) in
    subst (λ (x : ℕ). 8 * slots ≤ x * most) k most_is
width_chosen w slots len most d false false false false e8 e4 e2 e1 is fits le = absurd (cc is)

-- values of one width
of_width : (w : ℕ) (a : Array) (values : List ℕ) (most d : ℕ) → slots_of_width w ≡ Some d → are_few w a values ≡ false → length values ≤ most → 8 * slots_in a ≤ d * most
of_width w a values most d is few le =
    let fits : slots_in a * w ≤ length values = ltb-false (length values) (slots_in a * w) few in
    width_chosen w (slots_in a) (length values) most d (nat_le 8 w) (nat_le 4 w) (nat_le 2 w) (nat_le 1 w) refl refl refl refl is fits le

-- offsets of one width: one more than slots, or none
some_offsets : (w : ℕ) (a : Array) → are_few_offsets w a ≡ false → 0 < slots_in a → (slots_in a + 1) * w ≤ length (offsets_in a)
some_offsets w a few some =
    let filled : (slots_in a == 0) ≡ false = ne_eqb _ _ (λ e. omega arith) in
    ltb-false (length (offsets_in a)) ((slots_in a + 1) * w) (rw filled at few)

none_or_some : (n : ℕ) → (n ≡ 0) ⊎ (0 < n)
none_or_some zero = inl refl
none_or_some (suc n) = inr (omega arith)

small_offsets : (a : Array) (most : ℕ) → are_few_offsets 4 a ≡ false → length (offsets_in a) ≤ most → 8 * slots_in a ≤ 2 * most
small_offsets a most few le = elim (none_or_some (slots_in a)) [ inl none ↦ omega (arith, none) | inr some ↦ let own = some_offsets 4 a few some in omega (arith, own, le) ]

large_offsets : (a : Array) (most : ℕ) → are_few_offsets 8 a ≡ false → length (offsets_in a) ≤ most → 8 * slots_in a ≤ 1 * most
large_offsets a most few le = elim (none_or_some (slots_in a)) [ inl none ↦ omega (arith, none) | inr some ↦ let own = some_offsets 8 a few some in omega (arith, own, le) ]

-- ---- buffers

second_within : (most : ℕ) (x y : List ℕ) (others : List (List ℕ)) → are_within most (x ∷ y ∷ others) ≡ true → length y ≤ most
second_within most x y others h =
    let one = and_parts (nat_le (length x) most) (are_within most (y ∷ others)) h in
    let two = and_parts (nat_le (length y) most) (are_within most others) one.1 in
    leb-true (length y) most two.0

third_within : (most : ℕ) (x y z : List ℕ) → are_within most (x ∷ y ∷ z ∷ []) ≡ true → length z ≤ most
third_within most x y z h =
    let one = and_parts (nat_le (length x) most) (are_within most (y ∷ z ∷ [])) h in
    second_within most y z [] one.1

some_size : (size : ℕ) (o : Option ℕ) (d : ℕ) → unless_zero size o ≡ Some d → (1 ≤ size) × (o ≡ Some d)
some_size size o d h = by_test (nat_le 1 size) refl h
  where
    by_test : (b : Bool) → nat_le 1 size ≡ b → (if b then o else None) ≡ Some d → (1 ≤ size) × (o ≡ Some d)
    by_test true is h = (leb-true 1 size is, h)
    by_test false is h = absurd (cc h)

mutual
  unfolding is_fit has_fit_children are_fit slots_in_eight kind_slots_in_eight part_slots_in_eight

  pub slots_most : (most : ℕ) (c : Column) (a : Array) (d : ℕ) → is_fit most c a ≡ true → slots_in_eight c ≡ Some d → 8 * slots_in a ≤ d * most
  slots_most most (column name nullable kind (Some index) pairs) a d fit is =
      let parts = and_parts (not (are_few (index.bits / 8) a (indices_in a))) (nat_le (length (indices_in a)) most) fit in
      of_width (index.bits / 8) a (indices_in a) most d is (not-true _ parts.0) (leb-true _ _ parts.1)
  slots_most most (column name nullable kind None pairs) a d fit is = kind_slots_most most kind a d (fit_parts most kind a fit) is

  kind_slots_most : (most : ℕ) (k : Kind) (a : Array) (d : ℕ) → IsFit most k a → kind_slots_in_eight k ≡ Some d → 8 * slots_in a ≤ d * most
  kind_slots_most most nulls a d fit is = absurd (cc is)
  kind_slots_most most booleans a d fit is =
      let long : bytes_of (slots_in a) ≤ length (bits_in a) = ltb-false (length (bits_in a)) (bytes_of (slots_in a)) fit.long in
      let le : length (bits_in a) ≤ most = second_within most (validity_in a) (bits_in a) [] fit.within in
      let own : 8 * slots_in a ≤ 64 * most = omega (arith, long, le) in
      subst (λ (x : ℕ). 8 * slots_in a ≤ x * most) (known 64 d is) own
  kind_slots_most most (integers bits signed) a d fit is = of_width (bits / 8) a (values_in a) most d is fit.long (second_within most (validity_in a) (values_in a) [] fit.within)
  kind_slots_most most (dates unit) a d fit is = of_width (date_bits unit / 8) a (values_in a) most d is fit.long (second_within most (validity_in a) (values_in a) [] fit.within)
  kind_slots_most most (timestamps unit timezone) a d fit is =
      of_width 8 a (values_in a) most d is fit.long (second_within most (validity_in a) (values_in a) [] fit.within)
  kind_slots_most most texts a d fit is = subst (λ (x : ℕ). 8 * slots_in a ≤ x * most) (known 2 d is) (small_offsets a most fit.long (second_within most (validity_in a) (offsets_in a) (contents_in a ∷ []) fit.within))
  kind_slots_most most large_texts a d fit is = subst (λ (x : ℕ). 8 * slots_in a ≤ x * most) (known 1 d is) (large_offsets a most fit.long (second_within most (validity_in a) (offsets_in a) (contents_in a ∷ []) fit.within))
  kind_slots_most most binaries a d fit is = subst (λ (x : ℕ). 8 * slots_in a ≤ x * most) (known 2 d is) (small_offsets a most fit.long (second_within most (validity_in a) (offsets_in a) (contents_in a ∷ []) fit.within))
  kind_slots_most most large_binaries a d fit is = subst (λ (x : ℕ). 8 * slots_in a ≤ x * most) (known 1 d is) (large_offsets a most fit.long (second_within most (validity_in a) (offsets_in a) (contents_in a ∷ []) fit.within))
  kind_slots_most most (fixed_binaries width) a d fit is = of_width width a (values_in a) most d is fit.long (second_within most (validity_in a) (values_in a) [] fit.within)
  kind_slots_most most (lists item) a d fit is = subst (λ (x : ℕ). 8 * slots_in a ≤ x * most) (known 2 d is) (small_offsets a most fit.long (second_within most (validity_in a) (offsets_in a) [] fit.within))
  kind_slots_most most (large_lists item) a d fit is = subst (λ (x : ℕ). 8 * slots_in a ≤ x * most) (known 1 d is) (large_offsets a most fit.long (second_within most (validity_in a) (offsets_in a) [] fit.within))
  kind_slots_most most (fixed_lists size item) a d fit is =
      let parts = and_parts (nat_le (slots_in a * size) (slots_in (items_in a))) (is_fit most item (items_in a)) fit.children in
      let long : slots_in a * size ≤ slots_in (items_in a) = leb-true _ _ parts.0 in
      let own = some_size size (slots_in_eight item) d is in
      let some : slots_in a * 1 ≤ slots_in a * size = mul-le-mul_left (slots_in a) own.0 in
      let below : 8 * slots_in (items_in a) ≤ d * most = slots_most most item (items_in a) d parts.1 own.1 in
      omega (arith, long, some, below)
  kind_slots_most most (structs columns) a d fit is = part_slots_most most columns (slots_in a) (children_in a) d fit.children is

  part_slots_most : (most : ℕ) (cs : Columns) (slots : ℕ) (arrays : Arrays) (d : ℕ) → are_fit most cs slots arrays ≡ true → part_slots_in_eight cs ≡ Some d → 8 * slots ≤ d * most
  part_slots_most most no_column slots arrays d fit is = absurd (cc is)
  part_slots_most most (and_column c cs) slots arrays d fit is =
      let long = and_parts (nat_le slots (slots_in (first_array arrays))) (is_fit most c (first_array arrays) && are_fit most cs slots (other_arrays arrays)) fit in
      let fits = and_parts (is_fit most c (first_array arrays)) (are_fit most cs slots (other_arrays arrays)) long.1 in
      let enough : slots ≤ slots_in (first_array arrays) = leb-true _ _ long.0 in
      let own = slots_most most c (first_array arrays) d fits.0 is in
      omega (arith, own, enough)

-- ---- weight

-- up to an offset there are no more bytes than the contents have
contents_most : (width : ℕ) (a : Array) (limit most i : ℕ) → are_unordered width limit a ≡ false → limit ≤ most → i ≤ slots_in a → 8 * past (span_start width a) i ≤ 8 * most
contents_most width a limit most zero ordered le below = omega arith
contents_most width a limit most (suc i) ordered le below =
    let at : ℕ → ℕ = span_start width a in
    let up : at (suc i) ≤ at (suc i + 0) = offsets_ascend width limit a (suc i) 0 ordered (omega arith) (omega arith) in
    let fits : at (suc i) + (at (suc i + 0) - at (suc i)) ≤ limit = spans_fit width limit a (suc i) 0 ordered (omega arith) (omega arith) in
    omega (arith, up, fits, le)

-- up to an offset there are no more items than there are
items_most : (width : ℕ) (a : Array) (unit d m : ℕ) (r : ℕ → ℕ) (limit most i : ℕ) → are_unordered width limit a ≡ false → 8 * limit ≤ d * most → ((j : ℕ) → j ≤ limit → 8 * r j ≤ m * most) → i ≤ slots_in a
    → 8 * past (items_reach width a unit r) i ≤ (d * unit + m) * most
items_most width a unit d m r limit most zero ordered dense below le = omega arith
items_most width a unit d m r limit most (suc i) ordered dense below le =
    let at : ℕ → ℕ = span_start width a in
    let k : ℕ = at (suc i) in
    let up : k ≤ at (suc i + 0) = offsets_ascend width limit a (suc i) 0 ordered (omega arith) (omega arith) in
    let fits : k + (at (suc i + 0) - k) ≤ limit = spans_fit width limit a (suc i) 0 ordered (omega arith) (omega arith) in
    let few : k ≤ limit = omega (arith, up, fits) in
    let more : 8 * r k ≤ m * most = below k few in
    let eight : 8 * k ≤ d * most = omega (arith, few, dense) in
    let units : (8 * k) * unit ≤ (d * most) * unit = mul-le-mul_right unit eight in
    omega (arith, more, units)

fixed_below : (slots size limit i : ℕ) → slots * size ≤ limit → i ≤ slots → i * size ≤ limit
fixed_below slots size limit i long le = let own : i * size ≤ slots * size = mul-le-mul_right size le in omega (arith, long, own)

nothing_more : (d most : ℕ) → 8 * 0 ≤ d * most
nothing_more d most = omega arith

mutual
  unfolding is_fit has_fit_children are_fit more_in_eight kind_more_in_eight parts_more_in_eight reach_in reach reach_parts

  pub reach_most : (most : ℕ) (c : Column) (a : Array) (m : ℕ) → is_fit most c a ≡ true → more_in_eight c ≡ Some m → (i : ℕ) → i ≤ slots_in a → 8 * reach_in c a i ≤ m * most
  reach_most most (column name nullable kind (Some index) pairs) a m fit is i le = nothing_more m most
  reach_most most (column name nullable kind None pairs) a m fit is i le = kind_reach_most most kind a m (fit_parts most kind a fit) is i le

  kind_reach_most : (most : ℕ) (k : Kind) (a : Array) (m : ℕ) → IsFit most k a → kind_more_in_eight k ≡ Some m → (i : ℕ) → i ≤ slots_in a → 8 * reach k a i ≤ m * most
  kind_reach_most most texts a m fit is i le = subst (λ (x : ℕ). 8 * past (span_start 4 a) i ≤ x * most) (known 8 m is) (contents_most 4 a (length (contents_in a)) most i fit.ordered (third_within most (validity_in a) (offsets_in a) (contents_in a) fit.within) le)
  kind_reach_most most large_texts a m fit is i le = subst (λ (x : ℕ). 8 * past (span_start 8 a) i ≤ x * most) (known 8 m is) (contents_most 8 a (length (contents_in a)) most i fit.ordered (third_within most (validity_in a) (offsets_in a) (contents_in a) fit.within) le)
  kind_reach_most most binaries a m fit is i le = subst (λ (x : ℕ). 8 * past (span_start 4 a) i ≤ x * most) (known 8 m is) (contents_most 4 a (length (contents_in a)) most i fit.ordered (third_within most (validity_in a) (offsets_in a) (contents_in a) fit.within) le)
  kind_reach_most most large_binaries a m fit is i le = subst (λ (x : ℕ). 8 * past (span_start 8 a) i ≤ x * most) (known 8 m is) (contents_most 8 a (length (contents_in a)) most i fit.ordered (third_within most (validity_in a) (offsets_in a) (contents_in a) fit.within) le)
  kind_reach_most most (lists item) a m fit is i le =
      let parts = items_parts (slots_in_eight item) (more_in_eight item) (weight item null) m is in
      subst (λ (x : ℕ). 8 * reach (lists item) a i ≤ x * most) (sym parts.4) (items_most 4 a (weight item null) parts.0 parts.1 (reach_in item (items_in a)) (slots_in (items_in a)) most i fit.ordered
      (slots_most most item (items_in a) parts.0 fit.children parts.2) (reach_most most item (items_in a) parts.1 fit.children parts.3) le)
  kind_reach_most most (large_lists item) a m fit is i le =
      let parts = items_parts (slots_in_eight item) (more_in_eight item) (weight item null) m is in
      subst (λ (x : ℕ). 8 * reach (large_lists item) a i ≤ x * most) (sym parts.4) (items_most 8 a (weight item null) parts.0 parts.1 (reach_in item (items_in a)) (slots_in (items_in a)) most i fit.ordered
      (slots_most most item (items_in a) parts.0 fit.children parts.2) (reach_most most item (items_in a) parts.1 fit.children parts.3) le)
  kind_reach_most most (fixed_lists size item) a m fit is i le =
      let parts = and_parts (nat_le (slots_in a * size) (slots_in (items_in a))) (is_fit most item (items_in a)) fit.children in
      reach_most most item (items_in a) m parts.1 is (i * size) (fixed_below (slots_in a) size (slots_in (items_in a)) i (leb-true _ _ parts.0) le)
  kind_reach_most most (structs columns) a m fit is i le = parts_reach_most most columns (slots_in a) (children_in a) m fit.children is i le
  kind_reach_most most _ a m fit is i le = nothing_more m most

  pub parts_reach_most : (most : ℕ) (cs : Columns) (slots : ℕ) (arrays : Arrays) (m : ℕ) → are_fit most cs slots arrays ≡ true → parts_more_in_eight cs ≡ Some m → (i : ℕ) → i ≤ slots
      → 8 * reach_parts cs arrays i ≤ m * most
  parts_reach_most most no_column slots arrays m fit is i le = nothing_more m most
  parts_reach_most most (and_column c cs) slots arrays m fit is i le =
      let long = and_parts (nat_le slots (slots_in (first_array arrays))) (is_fit most c (first_array arrays) && are_fit most cs slots (other_arrays arrays)) fit in
      let fits = and_parts (is_fit most c (first_array arrays)) (are_fit most cs slots (other_arrays arrays)) long.1 in
      let enough : slots ≤ slots_in (first_array arrays) = leb-true _ _ long.0 in
      let parts = both_parts (more_in_eight c) (parts_more_in_eight cs) m is in
      let first : 8 * reach_in c (first_array arrays) i ≤ parts.0 * most = reach_most most c (first_array arrays) parts.0 fits.0 parts.2 i (omega (arith, enough, le)) in
      let others : 8 * reach_parts cs (other_arrays arrays) i ≤ parts.1 * most = parts_reach_most most cs slots (other_arrays arrays) parts.1 fits.1 parts.3 i le in
      let all : 8 * (reach_in c (first_array arrays) i + reach_parts cs (other_arrays arrays) i) ≤ (parts.0 + parts.1) * most = omega (arith, first, others) in
      subst (λ (x : ℕ). 8 * (reach_in c (first_array arrays) i + reach_parts cs (other_arrays arrays) i) ≤ x * most) (sym parts.4) all
