-- Nodes, buffers and dictionaries that were listed of arrays are read as these arrays.
use Rattle.std.proofs.Common.{◌≡◌, ℕ, List, [], ◌∷◌, ◌++◌, map, length, Some, None, refl, arith, ap, sym, ◌∙◌, length-append, append_assoc, append-nil}
use Rattle.std.specs.List.{flat_map}
use Rattle.std.proofs.lemmas.Grind.{flat_map-append}
use Rattle.std.proofs.lemmas.List.{map-append, length-map, drop_at}
use Rattle.std.proofs.lemmas.List.Concat.{flat_map-cons}
use Rattle.arrow_schema.specs.Column.{Kind, Column, Columns, nulls, lists, large_lists, fixed_lists, structs, column, no_column, and_column}
use Rattle.columns.specs.Array.{Array, Arrays, array, slots_in, validity_in, offsets_in, indices_in, items_in, children_in, dictionary_in, array_list, empty_array, first_array, other_arrays, list_layout, fixed_list_layout, struct_layout, dictionary_layout}
use Rattle.cells.specs.Cell.{Cell}
use Rattle.cells.specs.Dictionary.{item_list, part_list}
use Rattle.columns.specs.Built.{built, built_kind, built_parts, fixed_items, first_cell, other_cells}
use Rattle.columns.specs.Buffers.{Node, node_of, nodes_of, buffers_of, column_buffers, kind_buffers}
use Rattle.columns.specs.FromBuffers.{array_from, kind_array_from, arrays_from, node_count, buffer_count, dictionary_count, own_index}
use Rattle.columns.specs.Tests.{Typed, typed, arrays_at, arrays_below, every_array}
use Rattle.columns.specs.Layouts.{HasLayout, HasKindLayout, HaveLayouts, own_dictionary_arrays, dictionary_arrays}
use Rattle.columns.specs.laws.Places.{arrays_listed}

abbrev pub buffers_with : Typed → List (List ℕ)
buffers_with t = column_buffers t.column t.array

-- ---- how many there are of each does not hang on the array

same_own_buffers : (k : Kind) (a b : Array) → length (kind_buffers k a) ≡ length (kind_buffers k b)
same_own_buffers nulls a b = refl
same_own_buffers _ a b = refl

same_buffers : (c : Column) (a b : Array) → length (column_buffers c a) ≡ length (column_buffers c b)
same_buffers (column name nullable kind None pairs) a b = same_own_buffers kind a b
same_buffers (column name nullable kind (Some index) pairs) a b = refl

-- the lists of two arrays of one column have the same columns
abbrev pub columns_in : List Typed → List Column
columns_in ts = map (λ t. t.column) ts

mutual
  unfolding arrays_at

  pub same_columns : (c : Column) (a b : Array) → columns_in (arrays_at c a) ≡ columns_in (arrays_at c b)
  same_columns (column name nullable kind None pairs) a b = ap (λ (cs : List Column). column name nullable kind None pairs ∷ cs) (same_below kind a b)
  same_columns (column name nullable kind (Some index) pairs) a b = refl

  same_below : (k : Kind) (a b : Array) → columns_in (arrays_below k a) ≡ columns_in (arrays_below k b)
  same_below (lists item) a b = same_columns item (items_in a) (items_in b)
  same_below (large_lists item) a b = same_columns item (items_in a) (items_in b)
  same_below (fixed_lists size item) a b = same_columns item (items_in a) (items_in b)
  same_below (structs columns) a b = same_all columns (children_in a) (children_in b)
  same_below _ a b = refl

  pub same_all : (cs : Columns) (xs ys : Arrays) → columns_in (every_array cs xs) ≡ columns_in (every_array cs ys)
  same_all no_column xs ys = refl
  same_all (and_column c cs) xs ys =
      let f : Typed → Column = λ t. t.column in
      map-append f (arrays_at c (first_array xs)) (every_array cs (other_arrays xs))
      ∙ ap (λ (zs : List Column). zs ++ columns_in (every_array cs (other_arrays xs))) (same_columns c (first_array xs) (first_array ys))
      ∙ ap (λ (zs : List Column). columns_in (arrays_at c (first_array ys)) ++ zs) (same_all cs (other_arrays xs) (other_arrays ys))
      ∙ sym (map-append f (arrays_at c (first_array ys)) (every_array cs (other_arrays ys)))

heads : (c d : Column) (cs ds : List Column) → c ∷ cs ≡ d ∷ ds → (c ≡ d) × (cs ≡ ds)
heads c d cs ds e = (cc, cc)

pub as_many_buffers : (ts us : List Typed) → columns_in ts ≡ columns_in us → length (flat_map buffers_with ts) ≡ length (flat_map buffers_with us)
as_many_buffers [] [] e = refl
as_many_buffers [] (u ∷ us) e = cc
as_many_buffers (t ∷ ts) [] e = cc
as_many_buffers (t ∷ ts) (u ∷ us) e =
    let h = heads t.column u.column (columns_in ts) (columns_in us) e in
    let own : length (buffers_with t) ≡ length (buffers_with u) = ap (λ (c : Column). length (column_buffers c t.array)) h.0 ∙ same_buffers u.column t.array u.array in
    let rest = as_many_buffers ts us h.1 in
    let one = ap length (flat_map-cons buffers_with t ts) ∙ length-append (buffers_with t) (flat_map buffers_with ts) in
    let two = ap length (flat_map-cons buffers_with u us) ∙ length-append (buffers_with u) (flat_map buffers_with us) in
    omega (arith, own, rest, one, two)

own_count : (c : Column) (a : Array) → length (own_dictionary_arrays (typed c a)) ≡ length (own_index c)
own_count (column name nullable kind None pairs) a = refl
own_count (column name nullable kind (Some index) pairs) a = refl

as_many_dictionaries : (ts us : List Typed) → columns_in ts ≡ columns_in us → length (flat_map own_dictionary_arrays ts) ≡ length (flat_map (λ t. own_index t.column) us)
as_many_dictionaries [] [] e = refl
as_many_dictionaries [] (u ∷ us) e = cc
as_many_dictionaries (t ∷ ts) [] e = cc
as_many_dictionaries (t ∷ ts) (u ∷ us) e =
    let h = heads t.column u.column (columns_in ts) (columns_in us) e in
    let own : length (own_dictionary_arrays t) ≡ length (own_index u.column) = own_count t.column t.array ∙ ap (λ (c : Column). length (own_index c)) h.0 in
    let rest = as_many_dictionaries ts us h.1 in
    let one = ap length (flat_map-cons own_dictionary_arrays t ts) ∙ length-append (own_dictionary_arrays t) (flat_map own_dictionary_arrays ts) in
    let two = ap length (flat_map-cons (λ (t : Typed). own_index t.column) u us) ∙ length-append (own_index u.column) (flat_map (λ t. own_index t.column) us) in
    omega (arith, own, rest, one, two)

node_count_is : (c : Column) (a : Array) → length (map node_of (arrays_at c a)) ≡ node_count c
node_count_is c a =
    length-map (arrays_at c a) node_of
    ∙ sym (length-map (arrays_at c a) (λ (t : Typed). t.column))
    ∙ ap length (same_columns c a empty_array)
    ∙ length-map (arrays_at c empty_array) (λ (t : Typed). t.column)

-- ---- read again, whatever follows

mutual
  unfolding arrays_at array_from HasLayout

  column_again : (c : Column) (a : Array) → HasLayout c a → (ns : List Node) (bs : List (List ℕ)) (ds : List (List Array))
      → array_from c (map node_of (arrays_at c a) ++ ns) (flat_map buffers_with (arrays_at c a) ++ bs) (flat_map own_dictionary_arrays (arrays_at c a) ++ ds) ≡ a
  column_again (column name nullable kind None pairs) a h ns bs ds =
      let t : Typed = typed (column name nullable kind None pairs) a in
      let buffers : flat_map buffers_with (t ∷ arrays_below kind a) ++ bs ≡ kind_buffers kind a ++ (flat_map buffers_with (arrays_below kind a) ++ bs) =
      ap (λ (xs : List (List ℕ)). xs ++ bs) (flat_map-cons buffers_with t (arrays_below kind a)) ∙ append_assoc (kind_buffers kind a) (flat_map buffers_with (arrays_below kind a)) bs in
      let dictionaries : flat_map own_dictionary_arrays (t ∷ arrays_below kind a) ++ ds ≡ flat_map own_dictionary_arrays (arrays_below kind a) ++ ds =
      ap (λ (xs : List (List Array)). xs ++ ds) (flat_map-cons own_dictionary_arrays t (arrays_below kind a)) in
      ap (λ (xs : List (List ℕ)). kind_array_from kind (node_of t ∷ (map node_of (arrays_below kind a) ++ ns)) xs (flat_map own_dictionary_arrays (t ∷ arrays_below kind a) ++ ds)) buffers
      ∙ ap (kind_array_from kind (node_of t ∷ (map node_of (arrays_below kind a) ++ ns)) (kind_buffers kind a ++ (flat_map buffers_with (arrays_below kind a) ++ bs))) dictionaries
      ∙ kind_again kind a (node_of t).null_count h ns bs ds
  column_again (column name nullable kind (Some index) pairs) a h ns bs ds =
      let c : Column = column name nullable kind (Some index) pairs in
      let t : Typed = typed c a in
      let buffers : flat_map buffers_with (t ∷ []) ++ bs ≡ validity_in a ∷ indices_in a ∷ bs = ap (λ (xs : List (List ℕ)). xs ++ bs) (flat_map-cons buffers_with t []) in
      let dictionaries : flat_map own_dictionary_arrays (t ∷ []) ++ ds ≡ array_list (dictionary_in a) ∷ ds = ap (λ (xs : List (List Array)). xs ++ ds) (flat_map-cons own_dictionary_arrays t []) in
      ap (λ (xs : List (List ℕ)). array_from c (node_of t ∷ ns) xs (flat_map own_dictionary_arrays (t ∷ []) ++ ds)) buffers
      ∙ ap (array_from c (node_of t ∷ ns) (validity_in a ∷ indices_in a ∷ bs)) dictionaries
      ∙ ap (λ (xs : Arrays). array (slots_in a) (validity_in a) (dictionary_layout (indices_in a) xs)) (arrays_listed (dictionary_in a)) ∙ sym h

  kind_again : (k : Kind) (a : Array) (nulls_in : ℕ) → HasKindLayout k a → (ns : List Node) (bs : List (List ℕ)) (ds : List (List Array))
      → kind_array_from k (record { slots = slots_in a; null_count = nulls_in } ∷ (map node_of (arrays_below k a) ++ ns)) (kind_buffers k a ++ (flat_map buffers_with (arrays_below k a) ++ bs)) (flat_map own_dictionary_arrays (arrays_below k a) ++ ds) ≡ a
  kind_again (lists item) a n h ns bs ds = ap (λ (x : Array). array (slots_in a) (validity_in a) (list_layout (offsets_in a) x)) (column_again item (items_in a) h.1 ns bs ds) ∙ sym h.0
  kind_again (large_lists item) a n h ns bs ds = ap (λ (x : Array). array (slots_in a) (validity_in a) (list_layout (offsets_in a) x)) (column_again item (items_in a) h.1 ns bs ds) ∙ sym h.0
  kind_again (fixed_lists size item) a n h ns bs ds = ap (λ (x : Array). array (slots_in a) (validity_in a) (fixed_list_layout x)) (column_again item (items_in a) h.1 ns bs ds) ∙ sym h.0
  kind_again (structs columns) a n h ns bs ds = ap (λ (xs : Arrays). array (slots_in a) (validity_in a) (struct_layout xs)) (all_again columns (children_in a) h.1 ns bs ds) ∙ sym h.0
  kind_again _ a n h ns bs ds = sym h

  all_again : (cs : Columns) (xs : Arrays) → HaveLayouts cs xs → (ns : List Node) (bs : List (List ℕ)) (ds : List (List Array))
      → arrays_from cs (map node_of (every_array cs xs) ++ ns) (flat_map buffers_with (every_array cs xs) ++ bs) (flat_map own_dictionary_arrays (every_array cs xs) ++ ds) ≡ xs
  all_again no_column xs h ns bs ds = sym h
  all_again (and_column c cs) xs h ns bs ds =
      let first : List Typed = arrays_at c (first_array xs) in
      let rest : List Typed = every_array cs (other_arrays xs) in
      let nodes : map node_of (first ++ rest) ++ ns ≡ map node_of first ++ (map node_of rest ++ ns) =
      ap (λ (zs : List Node). zs ++ ns) (map-append node_of first rest) ∙ append_assoc (map node_of first) (map node_of rest) ns in
      let buffers : flat_map buffers_with (first ++ rest) ++ bs ≡ flat_map buffers_with first ++ (flat_map buffers_with rest ++ bs) =
      ap (λ (zs : List (List ℕ)). zs ++ bs) (flat_map-append buffers_with first rest) ∙ append_assoc (flat_map buffers_with first) (flat_map buffers_with rest) bs in
      let dictionaries : flat_map own_dictionary_arrays (first ++ rest) ++ ds ≡ flat_map own_dictionary_arrays first ++ (flat_map own_dictionary_arrays rest ++ ds) =
      ap (λ (zs : List (List Array)). zs ++ ds) (flat_map-append own_dictionary_arrays first rest) ∙ append_assoc (flat_map own_dictionary_arrays first) (flat_map own_dictionary_arrays rest) ds in
      let here = column_again c (first_array xs) h.1 (map node_of rest ++ ns) (flat_map buffers_with rest ++ bs) (flat_map own_dictionary_arrays rest ++ ds) in
      let same = same_columns c (first_array xs) empty_array in
      let after_nodes = drop_at (map node_of first) (map node_of rest ++ ns) (node_count c) (node_count_is c (first_array xs)) in
      let after_buffers = drop_at (flat_map buffers_with first) (flat_map buffers_with rest ++ bs) (buffer_count c) (as_many_buffers first (arrays_at c empty_array) same) in
      let after_dictionaries = drop_at (flat_map own_dictionary_arrays first) (flat_map own_dictionary_arrays rest ++ ds) (dictionary_count c) (as_many_dictionaries first (arrays_at c empty_array) same) in
      let others = all_again cs (other_arrays xs) h.2 ns bs ds in
      rw (nodes, buffers, dictionaries, here, after_nodes, after_buffers, after_dictionaries, others) (sym h.0)

pub arrays_again : (cs : Columns) (xs : Arrays) → HaveLayouts cs xs → arrays_from cs (nodes_of cs xs) (buffers_of cs xs) (dictionary_arrays cs xs) ≡ xs
arrays_again cs xs h =
    let again = all_again cs xs h [] [] [] in
    rw (append-nil (map node_of (every_array cs xs)), append-nil (flat_map buffers_with (every_array cs xs)), append-nil (flat_map own_dictionary_arrays (every_array cs xs))) at again

-- ---- what is written has its layouts

mutual
  unfolding built HasLayout

  built_layout : (c : Column) (cells : List Cell) → HasLayout c (built c cells)
  built_layout (column name nullable kind None pairs) cells = kind_layout kind cells
  built_layout (column name nullable kind (Some index) pairs) cells = refl

  kind_layout : (k : Kind) (cells : List Cell) → HasKindLayout k (built_kind k cells)
  kind_layout (lists item) cells = (refl, built_layout item (flat_map item_list cells))
  kind_layout (large_lists item) cells = (refl, built_layout item (flat_map item_list cells))
  kind_layout (fixed_lists size item) cells = (refl, built_layout item (flat_map (fixed_items size) cells))
  kind_layout (structs columns) cells = (refl, parts_layout columns (map part_list cells))
  kind_layout _ cells = refl

  pub parts_layout : (cs : Columns) (rows : List (List Cell)) → HaveLayouts cs (built_parts cs rows)
  parts_layout no_column rows = refl
  parts_layout (and_column c cs) rows = (refl, built_layout c (map first_cell rows), parts_layout cs (map other_cells rows))
