-- Arrays that pass all tests can be looked up.
use Rattle.std.specs.Prelude.{◌||◌, nat_lt, nat_le, ◌/◌}
use Rattle.std.specs.List.{list_any, list_all, flat_map}
use Rattle.std.proofs.Common.{◌≡◌, ℕ, ◌*◌, Bool, true, false, List, [], ◌∷◌, ◌++◌, map, drop, Some, None, refl, sym, arith, ◌∙◌}
use Rattle.std.proofs.lemmas.Bool.{and_parts, or_parts}
use Rattle.std.proofs.lemmas.Bool.Decides.{nat_tests}
use Rattle.std.proofs.lemmas.List.Folds.{list_all-append}
use Rattle.arrow_schema.specs.Column.{Pair, Kind, Column, Columns, lists, large_lists, fixed_lists, structs, column, no_column, and_column}
use Rattle.columns.specs.Array.{Array, Arrays, slots_in, items_in, indices_in, dictionary_in, array_list}
use Rattle.columns.specs.Tests.{Typed, typed, arrays_at, arrays_below, every_array, is_short, is_unordered, has_short_child, has_short_validity, has_short_buffer, has_bad_offsets, are_few}
use Rattle.columns.specs.Sound.{is_sound, has_sound_children, are_sound, is_kind_sound}
use Rattle.columns.specs.Buffers.{Node, typed_dictionaries, value_column}
use Rattle.columns.specs.FromBuffers.{array_from, kind_array_from, arrays_from, node_count, buffer_count, dictionary_count}

abbrev pub is_typed_sound : Typed → Bool
is_typed_sound t = is_sound t.column t.array

-- these arrays pass all tests, and their dictionaries can be looked up
pub record AreClean (every : List Typed) : Type 0 where
  pub long : list_any (λ t. is_short t.column t.array) every ≡ false
  pub ordered : list_any (λ t. is_unordered t.column t.array) every ≡ false
  pub children : list_any (λ t. has_short_child t.column t.array) every ≡ false
  pub dictionaries : list_all is_typed_sound (flat_map typed_dictionaries every) ≡ true

first_clean : (t : Typed) (every : List Typed) → AreClean (t ∷ every)
    → (is_short t.column t.array ≡ false) × (is_unordered t.column t.array ≡ false) × (has_short_child t.column t.array ≡ false) × (list_all is_typed_sound (typed_dictionaries t) ≡ true)
first_clean t every h = (
  (or_parts (is_short t.column t.array) _ h.long).0,
  (or_parts (is_unordered t.column t.array) _ h.ordered).0,
  (or_parts (has_short_child t.column t.array) _ h.children).0,
  (and_parts (list_all is_typed_sound (typed_dictionaries t)) (list_all is_typed_sound (flat_map typed_dictionaries every))
      (sym (list_all-append is_typed_sound (typed_dictionaries t) (flat_map typed_dictionaries every)) ∙ h.dictionaries)).0,
)

others_clean : (t : Typed) (every : List Typed) → AreClean (t ∷ every) → AreClean every
others_clean t every h = record {
  long = (or_parts (is_short t.column t.array) _ h.long).1;
  ordered = (or_parts (is_unordered t.column t.array) _ h.ordered).1;
  children = (or_parts (has_short_child t.column t.array) _ h.children).1;
  dictionaries = (and_parts (list_all is_typed_sound (typed_dictionaries t)) (list_all is_typed_sound (flat_map typed_dictionaries every))
      (sym (list_all-append is_typed_sound (typed_dictionaries t) (flat_map typed_dictionaries every)) ∙ h.dictionaries)).1;
}

none_clean : AreClean []
none_clean = record { long = refl; ordered = refl; children = refl; dictionaries = refl }

clean_with : (t : Typed) (every : List Typed) → is_short t.column t.array ≡ false → is_unordered t.column t.array ≡ false → has_short_child t.column t.array ≡ false
    → list_all is_typed_sound (typed_dictionaries t) ≡ true → AreClean every → AreClean (t ∷ every)
clean_with t every s u c d h = record {
  long = rw s h.long;
  ordered = rw u h.ordered;
  children = rw c h.children;
  dictionaries = list_all-append is_typed_sound (typed_dictionaries t) (flat_map typed_dictionaries every) ∙ rw d h.dictionaries;
}

-- if two lists together are clean, the first one is
front_clean : (xs ys : List Typed) → AreClean (xs ++ ys) → AreClean xs
front_clean [] ys h = none_clean
front_clean (x ∷ xs) ys h =
    let own = first_clean x (xs ++ ys) h in
    clean_with x xs own.0 own.1 own.2 own.3 (front_clean xs ys (others_clean x (xs ++ ys) h))

rest_clean : (xs ys : List Typed) → AreClean (xs ++ ys) → AreClean ys
rest_clean [] ys h = h
rest_clean (x ∷ xs) ys h = rest_clean xs ys (others_clean x (xs ++ ys) h)

-- an array without a dictionary is sound if its own tests and its children's pass
own_sound : (k : Kind) (a : Array) → (has_short_validity a || has_short_buffer k a) ≡ false → has_bad_offsets k a ≡ false → has_sound_children k a ≡ true → is_kind_sound k a ≡ true
own_sound k a short ordered children =
    let parts = or_parts (has_short_validity a) (has_short_buffer k a) short in
    rw (parts.0, parts.1, ordered) children

values_sound : (kind : Kind) (c : Column) (xs : List Array) → value_column c ≡ column [] true kind None [] → list_all is_typed_sound (map (λ a. typed (value_column c) a) xs) ≡ true
    → list_all (is_kind_sound kind) xs ≡ true
unfolding is_sound
values_sound kind c [] is h = refl
values_sound kind c (x ∷ xs) is h =
    let parts = and_parts (is_sound (value_column c) x) (list_all is_typed_sound (map (λ a. typed (value_column c) a) xs)) h in
    let here : is_kind_sound kind x ≡ true = rw is at parts.0 in
    rw here (values_sound kind c xs is parts.1)

long_enough : (a b : ℕ) → nat_lt a b ≡ false → nat_le b a ≡ true
long_enough a b h = grind (arith, nat_tests)

mutual
  unfolding arrays_at arrays_below every_array is_sound has_sound_children are_sound array_from kind_array_from arrays_from

  pub sound_from : (c : Column) (ns : List Node) (bs : List (List ℕ)) (ds : List (List Array)) → AreClean (arrays_at c (array_from c ns bs ds)) → is_sound c (array_from c ns bs ds) ≡ true
  sound_from (column name nullable kind (Some index) pairs) ns bs ds h =
      let c : Column = column name nullable kind (Some index) pairs in
      let a : Array = array_from c ns bs ds in
      let own = first_clean (typed c a) [] h in
      let parts = or_parts (has_short_validity a) (are_few (index.bits / 8) a (indices_in a)) own.0 in
      rw (parts.0, parts.1) (values_sound kind c (array_list (dictionary_in a)) refl own.3)
  sound_from (column name nullable kind None pairs) ns bs ds h =
      let c : Column = column name nullable kind None pairs in
      let a : Array = kind_array_from kind ns bs ds in
      let own = first_clean (typed c a) (arrays_below kind a) h in
      own_sound kind a own.0 own.1 (children_sound name nullable kind pairs ns bs ds own.2 (others_clean (typed c a) (arrays_below kind a) h))

  children_sound : (name : List ℕ) (nullable : Bool) (k : Kind) (pairs : List Pair) (ns : List Node) (bs : List (List ℕ)) (ds : List (List Array))
      → has_short_child (column name nullable k None pairs) (kind_array_from k ns bs ds) ≡ false → AreClean (arrays_below k (kind_array_from k ns bs ds))
      → has_sound_children k (kind_array_from k ns bs ds) ≡ true
  children_sound name nullable (lists item) pairs ns bs ds short h = sound_from item (drop 1 ns) (drop 2 bs) ds h
  children_sound name nullable (large_lists item) pairs ns bs ds short h = sound_from item (drop 1 ns) (drop 2 bs) ds h
  children_sound name nullable (fixed_lists size item) pairs ns bs ds short h =
      let a : Array = kind_array_from (fixed_lists size item) ns bs ds in
      rw (long_enough (slots_in (items_in a)) (slots_in a * size) short) (sound_from item (drop 1 ns) (drop 1 bs) ds h)
  children_sound name nullable (structs columns) pairs ns bs ds short h = all_sound columns (slots_in (kind_array_from (structs columns) ns bs ds)) (drop 1 ns) (drop 1 bs) ds h short
  children_sound name nullable _ pairs ns bs ds short h = refl

  -- the arrays of columns, none of which has fewer than `slots` slots, are sound
  pub all_sound : (cs : Columns) (slots : ℕ) (ns : List Node) (bs : List (List ℕ)) (ds : List (List Array)) → AreClean (every_array cs (arrays_from cs ns bs ds))
      → list_any (λ child. nat_lt (slots_in child) slots) (array_list (arrays_from cs ns bs ds)) ≡ false → are_sound cs slots (arrays_from cs ns bs ds) ≡ true
  all_sound no_column slots ns bs ds h short = refl
  all_sound (and_column c cs) slots ns bs ds h short =
      let a : Array = array_from c ns bs ds in
      let others : Arrays = arrays_from cs (drop (node_count c) ns) (drop (buffer_count c) bs) (drop (dictionary_count c) ds) in
      let here = or_parts (nat_lt (slots_in a) slots) (list_any (λ child. nat_lt (slots_in child) slots) (array_list others)) short in
      rw (long_enough (slots_in a) slots here.0, sound_from c ns bs ds (front_clean (arrays_at c a) (every_array cs others) h))
      (all_sound cs slots (drop (node_count c) ns) (drop (buffer_count c) bs) (drop (dictionary_count c) ds) (rest_clean (arrays_at c a) (every_array cs others) h) here.1)
