-- Where what is known of dictionaries is readable, so are the dictionaries of the arrays of a batch.
use Rattle.std.specs.List.{list_any, list_all, flat_map}
use Rattle.std.proofs.Common.{◌≡◌, ℕ, zero, suc, ◌+◌, Bool, true, false, List, [], ◌∷◌, ◌++◌, length, map, drop, Some, None, refl, sym, ap, ◌∙◌}
use Rattle.std.proofs.lemmas.Bool.{and_parts, not-true}
use Rattle.std.proofs.lemmas.Grind.{flat_map-append}
use Rattle.std.proofs.lemmas.List.{append-nil, length-append}
use Rattle.std.proofs.lemmas.List.Folds.{list_all-append, list_any-append}
use Rattle.arrow_schema.specs.Column.{Pair, Index, Kind, Column, Columns, nulls, texts, lists, large_lists, fixed_lists, structs, column, no_column, and_column}
use Rattle.columns.specs.Array.{Array, Arrays, array_list, arrays_of, empty_array, no_array, slots_in, dictionary_in}
use Rattle.columns.specs.Buffers.{Node, typed_dictionaries, dictionaries_of}
use Rattle.columns.specs.CellAt.{cell_at, cells_from, entries_of_kind, unless_null, kind_cell}
use Rattle.columns.specs.FromBuffers.{array_from, kind_array_from, arrays_from, own_index, node_count, buffer_count, dictionary_count}
use Rattle.columns.specs.Sound.{is_sound}
use Rattle.columns.specs.Tests.{Typed, typed, arrays_at, arrays_below, every_array}
use Rattle.columns.specs.Visible.{is_bad_text}
use Rattle.columns.specs.laws.Places.{listed}
use Rattle.columns.specs.laws.Sounds.{is_typed_sound}
use Rattle.arrays.specs.Entries.{has_bad_entry}
use Rattle.arrays.specs.Known.{is_readable, are_readable, own_values, values_in, dictionary_values}

-- ---- lists of what is known

nothing_known : (columns : List Column) (n : ℕ) → are_readable columns (drop n []) ≡ true
nothing_known [] n = refl
nothing_known (c ∷ columns) zero = refl
nothing_known (c ∷ columns) (suc n) = refl

known_parts : (xs ys : List Column) (ds : List (List Array)) → are_readable (xs ++ ys) ds ≡ true → (are_readable xs ds ≡ true) × (are_readable ys (drop (length xs) ds) ≡ true)
known_parts [] ys ds h = (refl, h)
known_parts (x ∷ xs) ys [] h = (refl, nothing_known ys (length (x ∷ xs)))
known_parts (x ∷ xs) ys (d ∷ ds) h =
    let own = and_parts (list_all (is_readable x) d) (are_readable (xs ++ ys) ds) h in
    let rest = known_parts xs ys ds own.1 in
    (rw own.0 rest.0, rest.1)

own_many : (c : Column) → length (own_values c) ≡ length (own_index c)
own_many (column name nullable kind None pairs) = refl
own_many (column name nullable kind (Some index) pairs) = refl

as_many : (every : List Typed) → length (values_in every) ≡ length (flat_map (λ t. own_index t.column) every)
as_many [] = refl
as_many (t ∷ every) =
    length-append (own_values t.column) (values_in every) ∙ (λ j. own_many t.column j + as_many every j)
    ∙ sym (length-append (own_index t.column) (flat_map (λ u. own_index u.column) every))

-- ---- arrays whose dictionaries are readable

record AreGood (every : List Typed) : Type 0 where
  pub sound : list_all is_typed_sound (flat_map typed_dictionaries every) ≡ true
  pub texts : list_any has_bad_entry every ≡ false

both_good : (xs ys : List Typed) → AreGood xs → AreGood ys → AreGood (xs ++ ys)
both_good xs ys g h = record {
  sound = ap (list_all is_typed_sound) (flat_map-append typed_dictionaries xs ys) ∙ list_all-append is_typed_sound (flat_map typed_dictionaries xs) (flat_map typed_dictionaries ys) ∙ rw g.sound h.sound;
  texts = list_any-append has_bad_entry xs ys ∙ rw g.texts h.texts;
}

typed_sound : (values : Column) (xs : List Array) → list_all (is_readable values) xs ≡ true → list_all is_typed_sound (map (λ a. typed values a) xs) ≡ true
typed_sound values [] h = refl
typed_sound values (x ∷ xs) h =
    let own = and_parts (is_readable values x) (list_all (is_readable values) xs) h in
    let here = and_parts (is_sound values x) _ own.0 in
    rw here.0 (typed_sound values xs own.1)

no_bad_text : (kind : Kind) (xs : List Array) → list_all (is_readable (column [] true kind None [])) xs ≡ true → list_any is_bad_text (flat_map (λ a. cells_from (unless_null (kind_cell kind) a) 0 (slots_in a)) xs) ≡ false
unfolding cell_at
no_bad_text kind [] h = refl
no_bad_text kind (x ∷ xs) h =
    let values : Column = column [] true kind None [] in
    let own = and_parts (is_readable values x) (list_all (is_readable values) xs) h in
    let here : list_any is_bad_text (cells_from (unless_null (kind_cell kind) x) 0 (slots_in x)) ≡ false = not-true _ (and_parts (is_sound values x) _ own.0).1 in
    list_any-append is_bad_text (cells_from (unless_null (kind_cell kind) x) 0 (slots_in x)) (flat_map (λ a. cells_from (unless_null (kind_cell kind) a) 0 (slots_in a)) xs)
    ∙ rw here (no_bad_text kind xs own.1)

-- one array with a dictionary
own_good : (name : List ℕ) (nullable : Bool) (kind : Kind) (index : Index) (pairs : List Pair) (a : Array) (xs : List Array) → dictionary_in a ≡ arrays_of xs
    → list_all (is_readable (column [] true kind None [])) xs ≡ true → AreGood (typed (column name nullable kind (Some index) pairs) a ∷ [])
own_good name nullable kind index pairs a xs is h =
    let same : array_list (dictionary_in a) ≡ xs = ap array_list is ∙ listed xs in
    record {
      sound = ap (list_all is_typed_sound) (append-nil (map (λ x. typed (column [] true kind None []) x) (array_list (dictionary_in a))))
          ∙ ap (λ (ys : List Array). list_all is_typed_sound (map (λ x. typed (column [] true kind None []) x) ys)) same ∙ typed_sound (column [] true kind None []) xs h;
      texts = (let none : list_any is_bad_text (entries_of_kind kind (dictionary_in a)) ≡ false
          = ap (λ (ys : List Array). list_any is_bad_text (flat_map (λ x. cells_from (unless_null (kind_cell kind) x) 0 (slots_in x)) ys)) same ∙ no_bad_text kind xs h in rw none refl);
    }

none_good : AreGood []
none_good = record { sound = refl; texts = refl }

-- one without
plain_good : (name : List ℕ) (nullable : Bool) (kind : Kind) (pairs : List Pair) (a : Array) (below : List Typed) → typed_dictionaries (typed (column name nullable kind None pairs) a) ≡ [] → AreGood below
    → AreGood (typed (column name nullable kind None pairs) a ∷ below)
plain_good name nullable kind pairs a below none h = record {
  sound = ap (λ (ts : List Typed). list_all is_typed_sound (ts ++ flat_map typed_dictionaries below)) none ∙ h.sound;
  texts = h.texts;
}

no_layout : (k : Kind) (ns : List Node) (bs : List (List ℕ)) (ds : List (List Array)) → dictionary_in (kind_array_from k ns bs ds) ≡ no_array
unfolding kind_array_from
no_layout nulls ns bs ds = refl
no_layout _ ns bs ds = refl

mutual
  unfolding arrays_at arrays_below every_array array_from kind_array_from arrays_from

  good_at : (c : Column) (ns : List Node) (bs : List (List ℕ)) (ds : List (List Array)) → are_readable (values_in (arrays_at c empty_array)) ds ≡ true → AreGood (arrays_at c (array_from c ns bs ds))
  good_at (column name nullable kind (Some index) pairs) ns bs [] h = own_good name nullable kind index pairs (array_from (column name nullable kind (Some index) pairs) ns bs []) [] refl refl
  good_at (column name nullable kind (Some index) pairs) ns bs (d ∷ ds) h =
      own_good name nullable kind index pairs (array_from (column name nullable kind (Some index) pairs) ns bs (d ∷ ds)) d refl (and_parts (list_all (is_readable (column [] true kind None [])) d) true h).0
  good_at (column name nullable kind None pairs) ns bs ds h =
      plain_good name nullable kind pairs (kind_array_from kind ns bs ds) (arrays_below kind (kind_array_from kind ns bs ds))
      (ap (λ (xs : Arrays). map (λ x. typed (column [] true kind None []) x) (array_list xs)) (no_layout kind ns bs ds)) (good_below kind ns bs ds h)

  good_below : (k : Kind) (ns : List Node) (bs : List (List ℕ)) (ds : List (List Array)) → are_readable (values_in (arrays_below k empty_array)) ds ≡ true
      → AreGood (arrays_below k (kind_array_from k ns bs ds))
  good_below (lists item) ns bs ds h = good_at item (drop 1 ns) (drop 2 bs) ds h
  good_below (large_lists item) ns bs ds h = good_at item (drop 1 ns) (drop 2 bs) ds h
  good_below (fixed_lists size item) ns bs ds h = good_at item (drop 1 ns) (drop 1 bs) ds h
  good_below (structs columns) ns bs ds h = all_good columns (drop 1 ns) (drop 1 bs) ds h
  good_below _ ns bs ds h = none_good

  all_good : (cs : Columns) (ns : List Node) (bs : List (List ℕ)) (ds : List (List Array)) → are_readable (values_in (every_array cs no_array)) ds ≡ true → AreGood (every_array cs (arrays_from cs ns bs ds))
  all_good no_column ns bs ds h = none_good
  all_good (and_column c cs) ns bs ds h =
      let own : List Typed = arrays_at c empty_array in
      let others : List Typed = every_array cs no_array in
      let split : are_readable (values_in own ++ values_in others) ds ≡ true = ap (λ (vs : List Column). are_readable vs ds) (sym (flat_map-append (λ t. own_values t.column) own others)) ∙ h in
      let parts = known_parts (values_in own) (values_in others) ds split in
      let left : are_readable (values_in others) (drop (dictionary_count c) ds) ≡ true = ap (λ (n : ℕ). are_readable (values_in others) (drop n ds)) (sym (as_many own)) ∙ parts.1 in
      both_good (arrays_at c (array_from c ns bs ds)) (every_array cs (arrays_from cs (drop (node_count c) ns) (drop (buffer_count c) bs) (drop (dictionary_count c) ds)))
      (good_at c ns bs ds parts.0) (all_good cs (drop (node_count c) ns) (drop (buffer_count c) bs) (drop (dictionary_count c) ds) left)

pub known_sound : (cs : Columns) (ns : List Node) (bs : List (List ℕ)) (ds : List (List Array)) → are_readable (dictionary_values cs) ds ≡ true
    → list_all is_typed_sound (dictionaries_of cs (arrays_from cs ns bs ds)) ≡ true
known_sound cs ns bs ds h = (all_good cs ns bs ds h).sound

pub known_texts : (cs : Columns) (ns : List Node) (bs : List (List ℕ)) (ds : List (List Array)) → are_readable (dictionary_values cs) ds ≡ true
    → list_any has_bad_entry (every_array cs (arrays_from cs ns bs ds)) ≡ false
known_texts cs ns bs ds h = (all_good cs ns bs ds h).texts

-- no dictionary at all
pub none_known : (columns : List Column) → are_readable columns [] ≡ true
none_known columns = nothing_known columns 0
