-- An array by its slots, its validity bitmap and its layout.
use Rattle.std.specs.Prelude.{Some, None, get_or, option_map}
use Rattle.std.proofs.Common.{◌≡◌, true, false, ℕ, ◌+◌, ◌≤◌, List, [], ◌∷◌, ◌++◌, length, map, drop, refl, sym, ap, ◌∙◌}
use Rattle.std.proofs.lemmas.List.{append-nil, drop_all}
use Rattle.arrow_schema.specs.declared.types.Field.{Field}
use Rattle.arrow_schema.specs.declared.types.DictSpec.{DictSpec}
use Rattle.arrow_schema.specs.Parts.{is_nulls, kind_of_column, index_of_column}
use Rattle.arrow_schema.specs.View.{column_of, kind_of, index_of}
use Rattle.arrow_schema.specs.laws.Parts.{kind_of_field, index_of_field}
use Rattle.arrow_schema.specs.Column.{Index, Column, Columns, column, columns_of, Kind, nulls}
use Rattle.columns.specs.declared.array.PlacedArray.{PlacedArray}
use Rattle.columns.specs.Array.{Array, Arrays, Layout, array, dictionary_layout, no_array, and_array, arrays_of, array_list, slots_in, validity_in, layout_in}
use Rattle.columns.specs.Buffers.{Node}
use Rattle.columns.specs.FromBuffers.{array_from, kind_array_from, arrays_from, buffer_at, first_slots, node_count, buffer_count, dictionary_count}
use Rattle.columns.specs.View.{array_in, arrays_in, placed_arrays}
use Rattle.columns.specs.laws.Places.{arrays_listed}
use Rattle.arrays.specs.declared.rest.Rest.{Rest}
use Rattle.arrays.specs.inner.Rest.{rest_nodes, rest_buffers, rest_known, rest_dictionaries, kind_placed, IsPlaced, ArePlaced, IsPlacedBelow, ArePlacedBelow, IsLeft}

slots_from : (k : Kind) (nodes : List Node) (buffers : List (List ℕ)) (dictionaries : List (List Array)) → slots_in (kind_array_from k nodes buffers dictionaries) ≡ first_slots nodes
unfolding kind_array_from
slots_from nulls nodes buffers dictionaries = refl
slots_from _ nodes buffers dictionaries = refl

-- every type but that of nulls has a validity bitmap, which is the first buffer
pub no_validity : (k : Kind) (r : Rest) → is_nulls k ≡ true → validity_in (kind_placed k r) ≡ []
unfolding kind_array_from
no_validity nulls r is = refl
no_validity _ r is = absurd cc

pub first_validity : (k : Kind) (r : Rest) → is_nulls k ≡ false → validity_in (kind_placed k r) ≡ buffer_at (rest_buffers r) 0
unfolding kind_array_from
first_validity nulls r is = absurd cc
first_validity _ r is = refl

whole : (a : Array) (slots : ℕ) (validity : List ℕ) (layout : Layout) → slots ≡ slots_in a → validity ≡ validity_in a → layout ≡ layout_in a → array slots validity layout ≡ a
whole (array n v l) slots validity layout s e f = λ j. array (s j) (e j) (f j)

pub own_array : (k : Kind) (nodes : List Node) (buffers : List (List ℕ)) (dictionaries : List (List Array)) (slots : ℕ) (validity : List ℕ) (layout : Layout)
    → slots ≡ first_slots nodes → validity ≡ validity_in (kind_array_from k nodes buffers dictionaries) → layout ≡ layout_in (kind_array_from k nodes buffers dictionaries)
    → array slots validity layout ≡ kind_array_from k nodes buffers dictionaries
own_array k nodes buffers dictionaries slots validity layout s e f =
    whole (kind_array_from k nodes buffers dictionaries) slots validity layout (s ∙ sym (slots_from k nodes buffers dictionaries)) e f

-- a field without a dictionary, and one with a dictionary
plain_column : (c : Column) (r : Rest) → index_of_column c ≡ None → kind_placed (kind_of_column c) r ≡ array_from c (rest_nodes r) (rest_buffers r) (rest_dictionaries r)
unfolding array_from
plain_column (column name nullable kind None pairs) r is = refl
plain_column (column name nullable kind (Some index) pairs) r is = absurd cc

pub plain_from : (field : Field) (r : Rest) → field.dictionary ≡ None → kind_placed (kind_of field.data_type) r ≡ array_from (column_of field) (rest_nodes r) (rest_buffers r) (rest_dictionaries r)
plain_from field r is =
    ap (λ (k : Kind). kind_placed k r) (sym (kind_of_field field)) ∙ plain_column (column_of field) r (index_of_field field ∙ ap (option_map index_of) is)

-- of which the indices are the second buffer
abbrev pub coded_placed : Rest → Array
coded_placed r = array (first_slots (rest_nodes r)) (buffer_at (rest_buffers r) 0) (dictionary_layout (buffer_at (rest_buffers r) 1) (arrays_of (get_or (rest_dictionaries r) 0 [])))

coded_column : (c : Column) (index : Index) (r : Rest) → index_of_column c ≡ Some index → coded_placed r ≡ array_from c (rest_nodes r) (rest_buffers r) (rest_dictionaries r)
unfolding array_from
coded_column (column name nullable kind None pairs) index r is = absurd cc
coded_column (column name nullable kind (Some own) pairs) index r is = refl

pub coded_from : (field : Field) (spec : DictSpec) (r : Rest) → field.dictionary ≡ Some spec → coded_placed r ≡ array_from (column_of field) (rest_nodes r) (rest_buffers r) (rest_dictionaries r)
coded_from field spec r is = coded_column (column_of field) (index_of spec) r (index_of_field field ∙ ap (option_map index_of) is)

-- ---- the arrays of columns, one after another

more_after : (y : Array) (xs ys all : List Array) → xs ≡ ys → y ∷ ys ≡ all → y ∷ xs ≡ all
more_after y xs ys all e h = ap (λ zs. y ∷ zs) e ∙ h

-- one more
pub placed_more : (g : PlacedArray → Array) (arrays : List PlacedArray) (a : PlacedArray) (x : Array) (others all : List Array) → g a ≡ x → map g arrays ++ (x ∷ others) ≡ all
    → map g (arrays ++ a ∷ []) ++ others ≡ all
placed_more g [] a x others all is h = ap (λ y. y ∷ others) is ∙ h
placed_more g (b ∷ arrays) a x others all is h = more_after (g b) (map g (arrays ++ a ∷ []) ++ others) (map g arrays ++ (x ∷ others)) all (placed_more g arrays a x others (map g arrays ++ (x ∷ others)) is refl) h

-- all of them
pub placed_all : (g : PlacedArray → Array) (arrays : List PlacedArray) (all : Arrays) → map g arrays ++ [] ≡ array_list all → arrays_of (map g arrays) ≡ all
placed_all g arrays all h = ap arrays_of (sym (append-nil (map g arrays)) ∙ h) ∙ arrays_listed all

abbrev pub placed_from : Rest → List Field → Arrays
placed_from r fs = arrays_from (columns_of (map column_of fs)) (rest_nodes r) (rest_buffers r) (rest_dictionaries r)

-- the arrays so far are those of the first fields, and the others are to be placed of what is left
pub record IsDone (r left : Rest) (fs others : List Field) (arrays : List PlacedArray) : Type 0 where
  pub bytes : left.bytes.now ≡ r.bytes.now
  pub dictionaries : left.dictionaries.now ≡ r.dictionaries.now
  pub done : map (array_in r.bytes.now (rest_known r)) arrays ++ array_list (placed_from left others) ≡ array_list (placed_from r fs)

pub none_placed : (r : Rest) (fs : List Field) (arrays : List PlacedArray) → arrays ≡ [] → IsDone r r fs fs arrays
none_placed r fs arrays none = record {
  bytes = refl;
  dictionaries = refl;
  done = ap (λ (xs : List PlacedArray). map (array_in r.bytes.now (rest_known r)) xs ++ array_list (placed_from r fs)) none;
}

pub next_placed : (r left after : Rest) (fs : List Field) (i : ℕ) (f : Field) (arrays more : List PlacedArray) (a : PlacedArray) → drop i fs ≡ f ∷ drop (i + 1) fs
    → IsPlaced (column_of f) left a → IsLeft left after (node_count (column_of f)) (buffer_count (column_of f)) (dictionary_count (column_of f)) → more ≡ arrays ++ a ∷ []
    → IsDone r left fs (drop i fs) arrays → IsDone r after fs (drop (i + 1) fs) more
unfolding arrays_from
next_placed r left after fs i f arrays more a next placed rest pushed h =
    let g : PlacedArray → Array = array_in r.bytes.now (rest_known r) in
    let x : Array = array_from (column_of f) (rest_nodes left) (rest_buffers left) (rest_dictionaries left) in
    let cs : Columns = columns_of (map column_of (drop (i + 1) fs)) in
    let same : g a ≡ x = (λ j. array_in (sym h.bytes j) (arrays_in (sym h.bytes j) (sym h.dictionaries j)) a) ∙ placed in
    let others : arrays_from cs (drop (node_count (column_of f)) (rest_nodes left)) (drop (buffer_count (column_of f)) (rest_buffers left)) (drop (dictionary_count (column_of f)) (rest_dictionaries left))
    ≡ placed_from after (drop (i + 1) fs)
    = λ j. arrays_from cs (sym rest.nodes_left j) (sym rest.buffers_left j) (sym rest.dictionaries_left j) in
    let e : placed_from left (drop i fs) ≡ and_array x (placed_from after (drop (i + 1) fs)) = ap (placed_from left) next ∙ ap (and_array x) others in
    let so_far : map g arrays ++ (x ∷ array_list (placed_from after (drop (i + 1) fs))) ≡ array_list (placed_from r fs) = ap (λ (xs : Arrays). map g arrays ++ array_list xs) (sym e) ∙ h.done in
    record {
      bytes = rest.same_bytes ∙ h.bytes;
      dictionaries = rest.same_dictionaries ∙ h.dictionaries;
      done = ap (λ (xs : List PlacedArray). map g xs ++ array_list (placed_from after (drop (i + 1) fs))) pushed ∙ placed_more g arrays a x (array_list (placed_from after (drop (i + 1) fs))) (array_list (placed_from r fs)) same so_far;
    }

pub finished : (r left : Rest) (fs : List Field) (i : ℕ) (arrays : List PlacedArray) → length fs ≤ i → IsDone r left fs (drop i fs) arrays → ArePlaced (columns_of (map column_of fs)) r arrays
unfolding arrays_from
finished r left fs i arrays past h =
    let g : PlacedArray → Array = array_in r.bytes.now (rest_known r) in
    let none : placed_from left (drop i fs) ≡ no_array = ap (placed_from left) (drop_all i fs past) in
    placed_all g arrays (placed_from r fs) (ap (λ (xs : Arrays). map g arrays ++ array_list xs) (sym none) ∙ h.done)

-- ---- the arrays below an array

pub below_placed : (r left : Rest) (c : Column) (buffers : ℕ) (a : PlacedArray) → IsLeft r left 1 buffers 0 → IsPlaced c left a → IsPlacedBelow c r buffers a
below_placed r left c buffers a h placed =
    (λ j. array_in (sym h.same_bytes j) (arrays_in (sym h.same_bytes j) (sym h.same_dictionaries j)) a) ∙ placed
    ∙ λ j. array_from c (h.nodes_left j) (h.buffers_left j) (h.dictionaries_left j)

pub all_placed_below : (r left : Rest) (cs : Columns) (arrays : List PlacedArray) → IsLeft r left 1 1 0 → ArePlaced cs left arrays → ArePlacedBelow cs r arrays
all_placed_below r left cs arrays h placed =
    (λ j. placed_arrays (sym h.same_bytes j) (sym h.same_dictionaries j) arrays) ∙ placed
    ∙ λ j. arrays_from cs (h.nodes_left j) (h.buffers_left j) (h.dictionaries_left j)
