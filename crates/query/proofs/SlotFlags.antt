-- What is asked of the slots of a column, slot by slot of the arrays of record batches.
use Rattle.std.proofs.Common.{◌≡◌, ℕ, ◌+◌, ◌<◌, zero, suc, Bool, true, List, [], ◌∷◌, ◌++◌, map, length, take, drop, refl, sym, ap, subst, ◌∙◌, append_assoc, arith}
use Rattle.std.specs.Prelude.{nat_le, Some, slice_get, get_or}
use Rattle.std.specs.List.{flat_map, list_all, range_with_len}
use Rattle.std.proofs.lemmas.Bool.{and_parts, and_from}
use Rattle.std.proofs.lemmas.List.{drop_all}
use Rattle.facts.specs.laws.Lists.{maps_same, map_map, flat_map-item}
use Rattle.arrow_schema.specs.Column.{Column, columns_of}
use Rattle.cells.specs.Cell.{cell_list, PlainTable}
use Rattle.columns.specs.Array.{Array, slots_in, first_array, arrays_of, empty_array}
use Rattle.columns.specs.CellAt.{cell_at, part_cells, row_at}
use Rattle.columns.specs.Sound.{is_sound, are_sound}
use Rattle.columns.specs.View.{array_in, arrays_in, placed_arrays}
use Rattle.columns.specs.declared.array.Dictionary.{Dictionary}
use Rattle.columns.specs.declared.array.PlacedArray.{PlacedArray}
use Rattle.values.specs.Parts.{arrays_with, batch_rows, part_rows, parts_rows, is_batch_sound, are_parts_sound, parts_table}
use Rattle.values.specs.declared.table_part.Batch.{Batch}
use Rattle.values.specs.declared.table_part.TablePart.{TablePart}
use Rattle.query.specs.declared.slot_test.SlotTest.{SlotTest}
use Rattle.query.specs.Bound.{Bound, meets_at, holds}
use Rattle.query.specs.inner.Masks.{IsMask}
use Rattle.query.specs.inner.Slots.{array_of}
use Rattle.query.specs.inner.SlotTests.{place_in, IsSlotTest, holds_at, batch_flags, part_flags, parts_flags, has_slots, batch_has_slots, part_has_slots}

-- ---- rows

-- the cell of a column in a row
pub cell_in_row : (f : PlacedArray → Array) (cs : List Column) (place : ℕ) (c : Column) (arrays : List PlacedArray) (i : ℕ) → slice_get cs place ≡ Some c
    → slice_get (cell_list (part_cells (columns_of cs) (arrays_of (map f arrays)) i)) place ≡ Some (cell_at c (first_array (arrays_of (map f (drop place arrays)))) i)
unfolding part_cells
cell_in_row f [] place c arrays i e = absurd cc
cell_in_row f (d ∷ cs) zero c arrays i e = let same : d ≡ c = cc in rw same refl
cell_in_row f (d ∷ cs) (suc place) c [] i e =
    cell_in_row f cs place c [] i e ∙ ap (λ (placed : List PlacedArray). Some (cell_at c (first_array (arrays_of (map f placed))) i)) (drop_all {X = PlacedArray} place [] (omega arith))
cell_in_row f (d ∷ cs) (suc place) c (a ∷ arrays) i e = cell_in_row f cs place c arrays i e

-- its array can be looked up
pub array_sound : (f : PlacedArray → Array) (cs : List Column) (place : ℕ) (c : Column) (arrays : List PlacedArray) (rows : ℕ) → slice_get cs place ≡ Some c
    → are_sound (columns_of cs) rows (arrays_of (map f arrays)) ≡ true
    → (nat_le rows (slots_in (first_array (arrays_of (map f (drop place arrays))))) ≡ true) × (is_sound c (first_array (arrays_of (map f (drop place arrays)))) ≡ true)
unfolding are_sound
array_sound f [] place c arrays rows e h = absurd cc
array_sound f (d ∷ cs) zero c arrays rows e h =
    let same : d ≡ c = cc in
    let both = and_parts (nat_le rows (slots_in (first_array (arrays_of (map f arrays))))) _ h in
    (both.0, rw (← same) (and_parts (is_sound d (first_array (arrays_of (map f arrays)))) _ both.1).0)
array_sound f (d ∷ cs) (suc place) c [] rows e h =
    let P : List PlacedArray → Type 0 = λ placed. (nat_le rows (slots_in (first_array (arrays_of (map f placed)))) ≡ true) × (is_sound c (first_array (arrays_of (map f placed))) ≡ true) in
    subst P (drop_all {X = PlacedArray} place [] (omega arith)) (array_sound f cs place c [] rows e (and_parts (is_sound d empty_array) _ (and_parts (nat_le rows 0) _ h).1).1)
array_sound f (d ∷ cs) (suc place) c (a ∷ arrays) rows e h =
    array_sound f cs place c arrays rows e (and_parts (is_sound d (f a)) _ (and_parts (nat_le rows (slots_in (f a))) _ h).1).1

row_holds : (cs : List Column) (b : Bound) (t : SlotTest) (p : TablePart) (batch : Batch) → IsSlotTest cs b t → (i : ℕ)
    → holds b (row_at (columns_of cs) (arrays_with p batch) i) ≡ holds_at t (array_of (place_in t) p batch) i
row_holds cs b t p batch is i =
    let f = array_in p.bytes.items (arrays_in p.bytes.items p.dictionaries.items) in
    ap (meets_at b.predicate) (cell_in_row f cs b.place is.column batch.arrays.items i is.found)
    ∙ is.answers (array_of b.place p batch) i
    ∙ ap (λ k. holds_at t (array_of k p batch) i) (sym is.place)

batch_is : (cs : List Column) (b : Bound) (t : SlotTest) → IsSlotTest cs b t → (p : TablePart) (batch : Batch) → map (holds b) (batch_rows (columns_of cs) p batch) ≡ batch_flags t p batch
batch_is cs b t is p batch =
    map_map (holds b) (row_at (columns_of cs) (arrays_with p batch)) (range_with_len 0 batch.rows)
    ∙ maps_same (λ i. holds b (row_at (columns_of cs) (arrays_with p batch) i)) (holds_at t (array_of (place_in t) p batch)) (row_holds cs b t p batch is) (range_with_len 0 batch.rows)

map_both : {X Y : Type 0} (f : X → Y) (xs ys : List X) → map f (xs ++ ys) ≡ map f xs ++ map f ys
map_both f [] ys = refl
map_both f (x ∷ xs) ys = ap (λ zs. f x ∷ zs) (map_both f xs ys)

-- what holds of the rows of each part, part after part
pub flat_is : {X Y Z : Type 0} (f : Y → Z) (g : X → List Y) (h : X → List Z) → ((x : X) → map f (g x) ≡ h x) → (xs : List X) → map f (flat_map g xs) ≡ flat_map h xs
flat_is f g h each [] = refl
flat_is f g h each (x ∷ xs) = map_both f (g x) (flat_map g xs) ∙ rw (each x, flat_is f g h each xs) refl

pub flags_are : (cs : List Column) (b : Bound) (t : SlotTest) → IsSlotTest cs b t → (parts : List TablePart) → parts_flags t parts ≡ map (holds b) (parts_rows (columns_of cs) parts)
flags_are cs b t is parts =
    sym (flat_is (holds b) (part_rows (columns_of cs)) (part_flags t) (λ p. flat_is (holds b) (batch_rows (columns_of cs) p) (batch_flags t p) (batch_is cs b t is p) p.batches.items) parts)

batch_there : (cs : List Column) (b : Bound) (t : SlotTest) → IsSlotTest cs b t → (p : TablePart) (batch : Batch) → is_batch_sound (columns_of cs) p batch ≡ true → batch_has_slots t p batch ≡ true
batch_there cs b t is p batch h =
    let f = array_in p.bytes.items (arrays_in p.bytes.items p.dictionaries.items) in
    let both = array_sound f cs b.place is.column batch.arrays.items batch.rows is.found h in
    ap (λ k. has_slots t batch.rows (array_of k p batch)) is.place ∙ is.there (array_of b.place p batch) batch.rows both.0 both.1

pub all_too : {X : Type 0} (p q : X → Bool) → ((x : X) → p x ≡ true → q x ≡ true) → (xs : List X) → list_all p xs ≡ true → list_all q xs ≡ true
all_too p q each [] h = refl
all_too p q each (x ∷ xs) h = let both = and_parts (p x) _ h in and_from _ _ (each x both.0) (all_too p q each xs both.1)

pub parts_there : (cs : List Column) (b : Bound) (t : SlotTest) → IsSlotTest cs b t → (parts : List TablePart) → are_parts_sound (columns_of cs) parts ≡ true → list_all (part_has_slots t) parts ≡ true
parts_there cs b t is parts h =
    all_too (λ p. list_all (is_batch_sound (columns_of cs) p) p.batches.items) (part_has_slots t)
    (λ p e. all_too (is_batch_sound (columns_of cs) p) (batch_has_slots t p) (batch_there cs b t is p) p.batches.items e) parts h

-- ---- the code

-- the array that a view shows
pub view_is : (place : ℕ) (p : TablePart) (batch : Batch) (bytes : List ℕ) (all : List Dictionary) (a : PlacedArray) (arrays : List PlacedArray) → bytes ≡ p.bytes.items → all ≡ p.dictionaries.items
    → arrays ≡ batch.arrays.items → ((x : List ℕ) (d : List Dictionary) → array_in x (arrays_in x d) a ≡ first_array (placed_arrays x d (drop place arrays)))
    → array_in bytes (arrays_in bytes all) a ≡ array_of place p batch
view_is place p batch bytes all a arrays same_bytes same_all same_arrays is =
    is bytes all
    ∙ ap (λ (x : List ℕ). first_array (placed_arrays x all (drop place arrays))) same_bytes
    ∙ ap (λ (d : List Dictionary). first_array (placed_arrays p.bytes.items d (drop place arrays))) same_all
    ∙ ap (λ (xs : List PlacedArray). first_array (placed_arrays p.bytes.items p.dictionaries.items (drop place xs))) same_arrays

-- its flags
pub flags_more : {X : Type 0} (g : X → List Bool) (xs : List X) (k : ℕ) (x : X) (start flags : List Bool) → k < length xs → x ≡ get_or xs k x → flags ≡ start ++ flat_map g (take k xs)
    → flags ++ g x ≡ start ++ flat_map g (take (k + 1) xs)
flags_more g xs k x start flags within is h =
    ap (λ (ys : List Bool). ys ++ g x) h ∙ append_assoc start (flat_map g (take k xs)) (g x) ∙ ap (λ (ys : List Bool). start ++ ys) (sym (flat_map-item g xs k x within is))

-- the mask of the flags of all parts is that of the rows
pub parts_mask : (table : PlainTable) (cs : List Column) (b : Bound) (t : SlotTest) (parts : List TablePart) (mask : List ℕ) → IsSlotTest cs b t → cs ≡ table.schema.columns
    → table ≡ parts_table table.schema parts → IsMask mask (parts_flags t parts) → IsMask mask (map (holds b) table.rows)
parts_mask table cs b t parts mask is columns whole h =
    let rows : parts_rows (columns_of cs) parts ≡ table.rows = ap (λ (ds : List Column). parts_rows (columns_of ds) parts) columns ∙ sym (ap (λ (u : PlainTable). u.rows) whole) in
    let P : List Bool → Type 0 = λ bits. IsMask mask bits in
    subst P (flags_are cs b t is parts ∙ ap (map (holds b)) rows) h
