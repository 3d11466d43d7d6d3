-- From slot to slot, a number that bounds what the cells before weigh more than as many nulls.
use Rattle.std.specs.Prelude.{◌&&◌, nat_le, ◌/◌, if◌then◌else◌}
use Rattle.std.specs.List.{range_with_len}
use Rattle.std.proofs.Common.{◌≡◌, ℕ, zero, suc, ◌+◌, ◌-◌, ◌*◌, ◌≤◌, ◌<◌, Bool, true, false, List, length, map, sum_by, Option, Some, None, refl, sym, ap, arith, ◌∙◌}
use Rattle.std.proofs.lemmas.Bool.{and_parts, leb-true}
use Rattle.std.proofs.Math.Nat.{mul-le-mul_right}
use Rattle.arrow_schema.specs.Column.{Kind, Column, Columns, nulls, booleans, integers, dates, timestamps, texts, large_texts, binaries, large_binaries, fixed_binaries, lists, large_lists, fixed_lists, structs, column, no_column, and_column}
use Rattle.cells.specs.Cell.{Cell, null, no_cell}
use Rattle.cells.specs.Weight.{weight, kind_weight, parts_weight}
use Rattle.columns.specs.Array.{Array, Arrays, slots_in, items_in, children_in, contents_in, first_array, other_arrays}
use Rattle.columns.specs.CellAt.{cell_at, cells_from, is_valid, kind_cell, part_cells, span_start}
use Rattle.weight_bounds.specs.Bound.{of_items, both, more_of_entries, more_in_eight, kind_more_in_eight, parts_more_in_eight, slots_in_eight}
use Rattle.weight_bounds.proofs.Climbing.{past, Climbs, span_climbs, valid_climbs, contents_climb, items_reach, items_climb, sum_from, sum_listed}
use Rattle.weight_bounds.proofs.Fitting.{is_fit, has_fit_children, are_fit, IsFit, fit_parts}

unfoldable mutual
  -- how much more than as many nulls the cells before a slot may weigh
  pub reach_in : Column → Array → ℕ → ℕ
  reach_in (column name nullable kind None pairs) = reach kind
  reach_in (column name nullable kind (Some index) pairs) = λ a i. 0

  pub reach : Kind → Array → ℕ → ℕ
  reach nulls = λ a i. 0
  reach booleans = λ a i. 0
  reach (integers bits signed) = λ a i. 0
  reach (dates unit) = λ a i. 0
  reach (timestamps unit timezone) = λ a i. 0
  reach texts = λ a. past (span_start 4 a)
  reach large_texts = λ a. past (span_start 8 a)
  reach binaries = λ a. past (span_start 4 a)
  reach large_binaries = λ a. past (span_start 8 a)
  reach (fixed_binaries width) = λ a i. 0
  reach (lists item) = λ a. past (items_reach 4 a (weight item null) (reach_in item (items_in a)))
  reach (large_lists item) = λ a. past (items_reach 8 a (weight item null) (reach_in item (items_in a)))
  reach (fixed_lists size item) = λ a i. reach_in item (items_in a) (i * size)
  reach (structs columns) = λ a i. reach_parts columns (children_in a) i

  pub reach_parts : Columns → Arrays → ℕ → ℕ
  reach_parts no_column = λ arrays i. 0
  reach_parts (and_column c cs) = λ arrays i. reach_in c (first_array arrays) i + reach_parts cs (other_arrays arrays) i

-- ---- types with a bound

abbrev pub IsBounded : Option ℕ → Type 0
IsBounded o = (n : ℕ) × (o ≡ Some n)

pub both_parts : (o p : Option ℕ) (n : ℕ) → both o p ≡ Some n → (a b : ℕ) × (o ≡ Some a) × (p ≡ Some b) × (n ≡ a + b)
both_parts None p n h = absurd cc
both_parts (Some a) None n h = absurd cc
both_parts (Some a) (Some b) n h = let same : a + b ≡ n = cc in (a, b, refl, refl, sym same)

pub items_parts : (o p : Option ℕ) (unit n : ℕ) → of_items o p unit ≡ Some n → (a b : ℕ) × (o ≡ Some a) × (p ≡ Some b) × (n ≡ a * unit + b)
items_parts None p unit n h = absurd cc
items_parts (Some a) None unit n h = absurd cc
items_parts (Some a) (Some b) unit n h = let same : a * unit + b ≡ n = cc in (a, b, refl, refl, sym same)

-- any value of a type with entries that are bounded weighs as a null
entry_same : (k : Kind) (n : ℕ) → more_of_entries k ≡ Some n → (x : Cell) → kind_weight k x ≡ kind_weight k null
unfolding kind_weight
entry_same nulls n h x = refl
entry_same booleans n h x = refl
entry_same (integers bits signed) n h x = refl
entry_same (dates unit) n h x = refl
entry_same (timestamps unit timezone) n h x = refl
entry_same (fixed_binaries width) n h x = refl
entry_same _ n h x = absurd cc

-- where each weighs as a null
still : (w : Cell → ℕ) (f : ℕ → Cell) (i : ℕ) → w (f i) ≡ w null → Climbs w f (λ j. 0) i
still w f i is = record { own = omega (arith, is); up = omega arith }

-- ---- fixed lists

fixed_climb : (w : Cell → ℕ) (f : ℕ → Cell) (r : ℕ → ℕ) (most size slots i : ℕ) → ((j : ℕ) → j < most → Climbs w f r j) → slots * size ≤ most → i < slots
    → (1 + sum_from w f (i * size) size + r (i * size) ≤ 1 + size * w null + r ((i + 1) * size)) × (r (i * size) ≤ r ((i + 1) * size))
fixed_climb w f r most size slots i each long lt =
    let e : i * size + size ≡ (i + 1) * size = omega arith in
    let below : i + 1 ≤ slots = omega (arith, lt) in
    let end : (i + 1) * size ≤ slots * size = mul-le-mul_right size below in
    let span = span_climbs w f r most (i * size) size each (omega (arith, e, end, long)) in
    let sum : sum_from w f (i * size) size + r (i * size) ≤ size * w null + r ((i + 1) * size) = rw e at span.0 in
    let up : r (i * size) ≤ r ((i + 1) * size) = rw e at span.1 in
    (omega (arith, sum), up)

-- ---- slot by slot

mutual
  unfolding is_fit has_fit_children are_fit cell_at kind_cell part_cells weight kind_weight parts_weight reach_in reach reach_parts more_in_eight kind_more_in_eight parts_more_in_eight

  pub steps_in : (most : ℕ) (c : Column) (a : Array) → is_fit most c a ≡ true → IsBounded (more_in_eight c) → (i : ℕ) → i < slots_in a → Climbs (weight c) (cell_at c a) (reach_in c a) i
  steps_in most (column name nullable kind (Some index) pairs) a fit bounded i lt =
      still (kind_weight kind) (cell_at (column name nullable kind (Some index) pairs) a) i
      (entry_same kind bounded.0 bounded.1 (cell_at (column name nullable kind (Some index) pairs) a i))
  steps_in most (column name nullable kind None pairs) a fit bounded i lt =
      let here = kind_steps most kind a (fit_parts most kind a fit) bounded i lt in
      let valid : Bool = is_valid a i in
      record { own = valid_climbs (kind_weight kind) (kind_cell kind a i) valid (reach kind a i) (reach kind a (i + 1)) here.own here.up; up = here.up }

  kind_steps : (most : ℕ) (k : Kind) (a : Array) → IsFit most k a → IsBounded (kind_more_in_eight k) → (i : ℕ) → i < slots_in a → Climbs (kind_weight k) (kind_cell k a) (reach k a) i
  kind_steps most texts a fit bounded i lt = let pair = contents_climb 4 a i fit.ordered lt in record { own = pair.0; up = pair.1 }
  kind_steps most large_texts a fit bounded i lt = let pair = contents_climb 8 a i fit.ordered lt in record { own = pair.0; up = pair.1 }
  kind_steps most binaries a fit bounded i lt = let pair = contents_climb 4 a i fit.ordered lt in record { own = pair.0; up = pair.1 }
  kind_steps most large_binaries a fit bounded i lt = let pair = contents_climb 8 a i fit.ordered lt in record { own = pair.0; up = pair.1 }
  kind_steps most (lists item) a fit bounded i lt =
      let parts = items_parts (slots_in_eight item) (more_in_eight item) (weight item null) bounded.0 bounded.1 in
      let pair = items_climb 4 a (weight item) (cell_at item (items_in a)) (reach_in item (items_in a)) (slots_in (items_in a)) i fit.ordered
      (steps_in most item (items_in a) fit.children (parts.1, parts.3)) lt in
      record { own = pair.0; up = pair.1 }
  kind_steps most (large_lists item) a fit bounded i lt =
      let parts = items_parts (slots_in_eight item) (more_in_eight item) (weight item null) bounded.0 bounded.1 in
      let pair = items_climb 8 a (weight item) (cell_at item (items_in a)) (reach_in item (items_in a)) (slots_in (items_in a)) i fit.ordered
      (steps_in most item (items_in a) fit.children (parts.1, parts.3)) lt in
      record { own = pair.0; up = pair.1 }
  kind_steps most (fixed_lists size item) a fit bounded i lt =
      let parts = and_parts (nat_le (slots_in a * size) (slots_in (items_in a))) (is_fit most item (items_in a)) fit.children in
      let long : slots_in a * size ≤ slots_in (items_in a) = leb-true _ _ parts.0 in
      let pair = fixed_climb (weight item) (cell_at item (items_in a)) (reach_in item (items_in a)) (slots_in (items_in a)) size (slots_in a) i
      (steps_in most item (items_in a) parts.1 bounded) long lt in
      let listed = sum_listed (weight item) (cells_from (cell_at item (items_in a)) (i * size) size) in
      record { own = omega (arith, listed, pair.0); up = pair.1 }
  kind_steps most (structs columns) a fit bounded i lt =
      let below = parts_steps most columns (slots_in a) (children_in a) fit.children bounded i lt in
      record { own = omega (arith, below.0); up = below.1 }
  kind_steps most _ a fit bounded i lt = record { own = omega arith; up = omega arith }

  pub parts_steps : (most : ℕ) (cs : Columns) (slots : ℕ) (arrays : Arrays) → are_fit most cs slots arrays ≡ true → IsBounded (parts_more_in_eight cs) → (i : ℕ) → i < slots
      → (parts_weight cs (part_cells cs arrays i) + reach_parts cs arrays i ≤ parts_weight cs no_cell + reach_parts cs arrays (i + 1)) × (reach_parts cs arrays i ≤ reach_parts cs arrays (i + 1))
  parts_steps most no_column slots arrays fit bounded i lt = (omega arith, omega arith)
  parts_steps most (and_column c cs) slots arrays fit bounded i lt =
      let long = and_parts (nat_le slots (slots_in (first_array arrays))) (is_fit most c (first_array arrays) && are_fit most cs slots (other_arrays arrays)) fit in
      let fits = and_parts (is_fit most c (first_array arrays)) (are_fit most cs slots (other_arrays arrays)) long.1 in
      let enough : slots ≤ slots_in (first_array arrays) = leb-true _ _ long.0 in
      let parts = both_parts (more_in_eight c) (parts_more_in_eight cs) bounded.0 bounded.1 in
      let first = steps_in most c (first_array arrays) fits.0 (parts.0, parts.2) i (omega (arith, enough, lt)) in
      let own : weight c (cell_at c (first_array arrays) i) + reach_in c (first_array arrays) i ≤ weight c null + reach_in c (first_array arrays) (i + 1) = first.own in
      let up : reach_in c (first_array arrays) i ≤ reach_in c (first_array arrays) (i + 1) = first.up in
      let others = parts_steps most cs (slots) (other_arrays arrays) fits.1 (parts.1, parts.3) i lt in
      let rest : parts_weight cs (part_cells cs (other_arrays arrays) i) + reach_parts cs (other_arrays arrays) i ≤ parts_weight cs no_cell + reach_parts cs (other_arrays arrays) (i + 1) = others.0 in
      let more : reach_parts cs (other_arrays arrays) i ≤ reach_parts cs (other_arrays arrays) (i + 1) = others.1 in
      (omega (arith, own, rest), omega (arith, up, more))
