-- Arrays without a dictionary that can be looked up, and none of whose buffers has more bytes than a given number.
use Rattle.std.specs.Prelude.{◌||◌, ◌&&◌, not, nat_le, nat_lt, ◌/◌}
use Rattle.std.specs.List.{list_any, list_all}
use Rattle.std.proofs.Common.{◌≡◌, ℕ, ◌+◌, ◌*◌, ◌≤◌, Bool, true, false, List, [], ◌∷◌, ◌++◌, length, drop, get_or, Some, None, refl, sym, ap, arith, ◌∙◌}
use Rattle.std.proofs.lemmas.Bool.{and_parts, or_parts, not-true}
use Rattle.std.proofs.lemmas.Bool.Decides.{nat_tests}
use Rattle.std.proofs.lemmas.List.{get_or-drop}
use Rattle.arrow_schema.specs.Column.{Pair, Kind, Column, Columns, nulls, booleans, integers, dates, timestamps, texts, large_texts, binaries, large_binaries, fixed_binaries, lists, large_lists, fixed_lists, structs, column, no_column, and_column}
use Rattle.columns.specs.Array.{Array, Arrays, slots_in, items_in, children_in, indices_in, array_list, first_array, other_arrays}
use Rattle.columns.specs.Buffers.{Node, kind_buffers}
use Rattle.columns.specs.FromBuffers.{array_from, kind_array_from, arrays_from, buffer_at, buffer_count, dictionary_count, node_count}
use Rattle.columns.specs.Tests.{Typed, typed, arrays_at, arrays_below, every_array, is_short, is_unordered, has_short_child, has_short_validity, has_short_buffer, has_bad_offsets, are_few}

abbrev pub are_within : (most : ℕ) → List (List ℕ) → Bool
are_within most buffers = list_all (λ b. nat_le (length b) most) buffers

-- given a test of the children
abbrev pub is_fit_by : (most : ℕ) → Kind → (Array → Bool) → Array → Bool
is_fit_by most kind children a = not (has_short_buffer kind a) && (not (has_bad_offsets kind a) && (are_within most (kind_buffers kind a) && children a))

unfoldable mutual
  pub is_fit : (most : ℕ) → Column → Array → Bool
  is_fit most (column name nullable kind None pairs) = is_fit_by most kind (has_fit_children most kind)
  is_fit most (column name nullable kind (Some index) pairs) = λ a. not (are_few (index.bits / 8) a (indices_in a)) && nat_le (length (indices_in a)) most

  pub has_fit_children : (most : ℕ) → Kind → Array → Bool
  has_fit_children most (lists item) = λ a. is_fit most item (items_in a)
  has_fit_children most (large_lists item) = λ a. is_fit most item (items_in a)
  has_fit_children most (fixed_lists size item) = λ a. nat_le (slots_in a * size) (slots_in (items_in a)) && is_fit most item (items_in a)
  has_fit_children most (structs columns) = λ a. are_fit most columns (slots_in a) (children_in a)
  has_fit_children most nulls = λ a. true
  has_fit_children most booleans = λ a. true
  has_fit_children most (integers bits signed) = λ a. true
  has_fit_children most (dates unit) = λ a. true
  has_fit_children most (timestamps unit timezone) = λ a. true
  has_fit_children most texts = λ a. true
  has_fit_children most large_texts = λ a. true
  has_fit_children most binaries = λ a. true
  has_fit_children most large_binaries = λ a. true
  has_fit_children most (fixed_binaries width) = λ a. true

  -- one for each column, with at least this many slots
  pub are_fit : (most : ℕ) → Columns → (slots : ℕ) → Arrays → Bool
  are_fit most no_column = λ slots arrays. true
  are_fit most (and_column c cs) = λ slots arrays. nat_le slots (slots_in (first_array arrays)) && (is_fit most c (first_array arrays) && are_fit most cs slots (other_arrays arrays))

-- what a test of a kind says
pub record IsFit (most : ℕ) (kind : Kind) (a : Array) : Type 0 where
  pub long : has_short_buffer kind a ≡ false
  pub ordered : has_bad_offsets kind a ≡ false
  pub within : are_within most (kind_buffers kind a) ≡ true
  pub children : has_fit_children most kind a ≡ true

pub fit_parts : (most : ℕ) (kind : Kind) (a : Array) → is_fit_by most kind (has_fit_children most kind) a ≡ true → IsFit most kind a
fit_parts most kind a h =
    let one = and_parts (not (has_short_buffer kind a)) (not (has_bad_offsets kind a) && (are_within most (kind_buffers kind a) && has_fit_children most kind a)) h in
    let two = and_parts (not (has_bad_offsets kind a)) (are_within most (kind_buffers kind a) && has_fit_children most kind a) one.1 in
    let three = and_parts (are_within most (kind_buffers kind a)) (has_fit_children most kind a) two.1 in
    record { long = not-true _ one.0; ordered = not-true _ two.0; within = three.0; children = three.1 }

-- ---- arrays that were made of buffers

-- these arrays pass the tests of a batch
pub record AreClean (every : List Typed) : Type 0 where
  pub long : list_any (λ t. is_short t.column t.array) every ≡ false
  pub ordered : list_any (λ t. is_unordered t.column t.array) every ≡ false
  pub children : list_any (λ t. has_short_child t.column t.array) every ≡ false

first_clean : (t : Typed) (every : List Typed) → AreClean (t ∷ every) → (is_short t.column t.array ≡ false) × (is_unordered t.column t.array ≡ false) × (has_short_child t.column t.array ≡ false)
first_clean t every h = (
  (or_parts (is_short t.column t.array) _ h.long).0,
  (or_parts (is_unordered t.column t.array) _ h.ordered).0,
  (or_parts (has_short_child t.column t.array) _ h.children).0,
)

others_clean : (t : Typed) (every : List Typed) → AreClean (t ∷ every) → AreClean every
others_clean t every h = record {
  long = (or_parts (is_short t.column t.array) _ h.long).1;
  ordered = (or_parts (is_unordered t.column t.array) _ h.ordered).1;
  children = (or_parts (has_short_child t.column t.array) _ h.children).1;
}

front_clean : (xs ys : List Typed) → AreClean (xs ++ ys) → AreClean xs
front_clean [] ys h = record { long = refl; ordered = refl; children = refl }
front_clean (x ∷ xs) ys h =
    let own = first_clean x (xs ++ ys) h in
    let rest = front_clean xs ys (others_clean x (xs ++ ys) h) in
    record { long = rw own.0 rest.long; ordered = rw own.1 rest.ordered; children = rw own.2 rest.children }

rest_clean : (xs ys : List Typed) → AreClean (xs ++ ys) → AreClean ys
rest_clean [] ys h = h
rest_clean (x ∷ xs) ys h = rest_clean xs ys (others_clean x (xs ++ ys) h)

long_enough : (a b : ℕ) → nat_lt a b ≡ false → nat_le b a ≡ true
long_enough a b h = grind (arith, nat_tests)

-- no buffer has more bytes
abbrev pub AreFew : (most : ℕ) → (buffers : List (List ℕ)) → Type 0
AreFew most bs = (k : ℕ) → nat_le (length (get_or bs k [])) most ≡ true

pub few_after : (most n : ℕ) (bs : List (List ℕ)) → AreFew most bs → AreFew most (drop n bs)
few_after most n bs few k = ap (λ (b : List ℕ). nat_le (length b) most) (get_or-drop n bs k []) ∙ few (n + k)

own_few : (most : ℕ) (k : Kind) (ns : List Node) (bs : List (List ℕ)) (ds : List (List Array)) → AreFew most bs → are_within most (kind_buffers k (kind_array_from k ns bs ds)) ≡ true
unfolding kind_array_from
own_few most nulls ns bs ds few = refl
own_few most booleans ns bs ds few = rw (few 0, few 1) refl
own_few most (integers bits signed) ns bs ds few = rw (few 0, few 1) refl
own_few most (dates unit) ns bs ds few = rw (few 0, few 1) refl
own_few most (timestamps unit timezone) ns bs ds few = rw (few 0, few 1) refl
own_few most texts ns bs ds few = rw (few 0, few 1, few 2) refl
own_few most large_texts ns bs ds few = rw (few 0, few 1, few 2) refl
own_few most binaries ns bs ds few = rw (few 0, few 1, few 2) refl
own_few most large_binaries ns bs ds few = rw (few 0, few 1, few 2) refl
own_few most (fixed_binaries width) ns bs ds few = rw (few 0, few 1) refl
own_few most (lists item) ns bs ds few = rw (few 0, few 1) refl
own_few most (large_lists item) ns bs ds few = rw (few 0, few 1) refl
own_few most (fixed_lists size item) ns bs ds few = rw (few 0) refl
own_few most (structs columns) ns bs ds few = rw (few 0) refl

own_fit : (most : ℕ) (k : Kind) (a : Array) → (has_short_validity a || has_short_buffer k a) ≡ false → has_bad_offsets k a ≡ false → are_within most (kind_buffers k a) ≡ true
    → has_fit_children most k a ≡ true → is_fit_by most k (has_fit_children most k) a ≡ true
own_fit most k a short ordered within children =
    let parts = or_parts (has_short_validity a) (has_short_buffer k a) short in
    rw (parts.1, ordered, within) children

mutual
  unfolding arrays_at arrays_below every_array is_fit has_fit_children are_fit array_from kind_array_from arrays_from

  fit_from : (most : ℕ) (c : Column) (ns : List Node) (bs : List (List ℕ)) (ds : List (List Array)) → AreFew most bs → AreClean (arrays_at c (array_from c ns bs ds)) → is_fit most c (array_from c ns bs ds) ≡ true
  fit_from most (column name nullable kind (Some index) pairs) ns bs ds few h =
      let c : Column = column name nullable kind (Some index) pairs in
      let a : Array = array_from c ns bs ds in
      let own = first_clean (typed c a) [] h in
      let parts = or_parts (has_short_validity a) (are_few (index.bits / 8) a (indices_in a)) own.0 in
      rw (parts.1, few 1) refl
  fit_from most (column name nullable kind None pairs) ns bs ds few h =
      let c : Column = column name nullable kind None pairs in
      let a : Array = kind_array_from kind ns bs ds in
      let own = first_clean (typed c a) (arrays_below kind a) h in
      own_fit most kind a own.0 own.1 (own_few most kind ns bs ds few) (children_fit most name nullable kind pairs ns bs ds few own.2 (others_clean (typed c a) (arrays_below kind a) h))

  children_fit : (most : ℕ) (name : List ℕ) (nullable : Bool) (k : Kind) (pairs : List Pair) (ns : List Node) (bs : List (List ℕ)) (ds : List (List Array)) → AreFew most bs
      → has_short_child (column name nullable k None pairs) (kind_array_from k ns bs ds) ≡ false → AreClean (arrays_below k (kind_array_from k ns bs ds))
      → has_fit_children most k (kind_array_from k ns bs ds) ≡ true
  children_fit most name nullable (lists item) pairs ns bs ds few short h = fit_from most item (drop 1 ns) (drop 2 bs) ds (few_after most 2 bs few) h
  children_fit most name nullable (large_lists item) pairs ns bs ds few short h = fit_from most item (drop 1 ns) (drop 2 bs) ds (few_after most 2 bs few) h
  children_fit most name nullable (fixed_lists size item) pairs ns bs ds few short h =
      let a : Array = kind_array_from (fixed_lists size item) ns bs ds in
      rw (long_enough (slots_in (items_in a)) (slots_in a * size) short) (fit_from most item (drop 1 ns) (drop 1 bs) ds (few_after most 1 bs few) h)
  children_fit most name nullable (structs columns) pairs ns bs ds few short h =
      all_fit most columns (slots_in (kind_array_from (structs columns) ns bs ds)) (drop 1 ns) (drop 1 bs) ds (few_after most 1 bs few) h short
  children_fit most name nullable _ pairs ns bs ds few short h = refl

  -- the arrays of columns, none of which has fewer than `slots` slots
  pub all_fit : (most : ℕ) (cs : Columns) (slots : ℕ) (ns : List Node) (bs : List (List ℕ)) (ds : List (List Array)) → AreFew most bs → AreClean (every_array cs (arrays_from cs ns bs ds))
      → list_any (λ child. nat_lt (slots_in child) slots) (array_list (arrays_from cs ns bs ds)) ≡ false → are_fit most cs slots (arrays_from cs ns bs ds) ≡ true
  all_fit most no_column slots ns bs ds few h short = refl
  all_fit most (and_column c cs) slots ns bs ds few h short =
      let a : Array = array_from c ns bs ds in
      let others : Arrays = arrays_from cs (drop (node_count c) ns) (drop (buffer_count c) bs) (drop (dictionary_count c) ds) in
      let here = or_parts (nat_lt (slots_in a) slots) (list_any (λ child. nat_lt (slots_in child) slots) (array_list others)) short in
      rw (long_enough (slots_in a) slots here.0, fit_from most c ns bs ds few (front_clean (arrays_at c a) (every_array cs others) h))
      (all_fit most cs slots (drop (node_count c) ns) (drop (buffer_count c) bs) (drop (dictionary_count c) ds) (few_after most (buffer_count c) bs few) (rest_clean (arrays_at c a) (every_array cs others) h) here.1)
