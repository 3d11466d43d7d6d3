-- Where no part of a type varies, all cells of its arrays weigh the same.
use Rattle.std.specs.Prelude.{ℤ, pos, negsuc, Bool, Some, None, if◌then◌else◌}
use Rattle.std.specs.List.{flat_map}
use Rattle.std.proofs.Common.{◌≡◌, ℕ, zero, suc, ◌+◌, ◌*◌, ◌<◌, ◌≤◌, ◌++◌, true, false, List, [], ◌∷◌, length, drop, get_or, refl, sym, ap, arith, ◌∙◌}
use Rattle.std.proofs.lemmas.Bool.{or_parts}
use Rattle.std.proofs.lemmas.List.{drop_all}
use Rattle.arrays.proofs.MayFind.{next_field}
use Rattle.arrow_schema.specs.declared.types.Field.{Field}
use Rattle.arrow_schema.specs.Column.{Kind, Column, Columns, texts, large_texts, binaries, large_binaries, lists, large_lists, fixed_lists, structs, column, no_column, and_column}
use Rattle.arrow_schema.specs.View.{column_of, kind_of}
use Rattle.arrow_schema.specs.Parts.{kind_of_column}
use Rattle.arrow_schema.specs.laws.Parts.{kind_of_field}
use Rattle.cells.specs.Cell.{Cell, null, no_cell}
use Rattle.cells.specs.Weight.{weight, kind_weight, parts_weight}
use Rattle.columns.specs.Array.{Array, Arrays, array_list, children_in, dictionary_in, first_array, items_in, other_arrays, slots_in}
use Rattle.columns.specs.CellAt.{cell_at, cells_from, entries_by, entry_at, index_at, is_valid, kind_cell, part_cells, unless_null}
use Rattle.columns.specs.View.{fields_of}
use Rattle.arrays.specs.inner.Varying.{may_vary_in, may_vary, any_may_vary}
use Rattle.arrays.specs.inner.Weights.{masked_cell, masked_weight, span_weight}
use Rattle.arrays.proofs.KindWeights.{fixed_own}
use Rattle.arrays.proofs.SpanWeights.{each_same}

-- all of them weigh as a null does
abbrev Alike : (w : Cell → ℕ) → List Cell → Type 0
Alike w cells = (n : ℕ) → w (get_or cells n null) ≡ w null

and_alike : (w : Cell → ℕ) (x : Cell) (cells : List Cell) → w x ≡ w null → Alike w cells → Alike w (x ∷ cells)
and_alike w x cells one others = λ n. by n
  where
    by : (n : ℕ) → w (get_or (x ∷ cells) n null) ≡ w null
    by zero = one
    by (suc n) = others n

both_alike : (w : Cell → ℕ) (xs ys : List Cell) → Alike w xs → Alike w ys → Alike w (xs ++ ys)
both_alike w [] ys first others = others
both_alike w (x ∷ xs) ys first others = and_alike w x (xs ++ ys) (first 0) (both_alike w xs ys (λ n. first (suc n)) others)

from_alike : (w : Cell → ℕ) (f : ℕ → Cell) (start n : ℕ) → ((i : ℕ) → w (f i) ≡ w null) → Alike w (cells_from f start n)
from_alike w f start zero each = λ m. refl
from_alike w f start (suc n) each = and_alike w (f start) (cells_from f (start + 1) n) (each start) (from_alike w f (start + 1) n each)

entries_alike : (w : Cell → ℕ) (f : Array → ℕ → Cell) (arrays : List Array) → ((a : Array) (i : ℕ) → w (f a i) ≡ w null)
    → Alike w (flat_map (λ a. cells_from (f a) 0 (slots_in a)) arrays)
entries_alike w f [] each = λ m. refl
entries_alike w f (a ∷ arrays) each =
    both_alike w (cells_from (f a) 0 (slots_in a)) (flat_map (λ a. cells_from (f a) 0 (slots_in a)) arrays) (from_alike w (f a) 0 (slots_in a) (each a)) (entries_alike w f arrays each)

named_alike : (w : Cell → ℕ) (entries : List Cell) (index : ℤ) → Alike w entries → w (entry_at entries index) ≡ w null
named_alike w entries (pos n) all = all n
named_alike w entries (negsuc n) all = refl

or_null : (w : Cell → ℕ) (x : Cell) (valid : Bool) → w x ≡ w null → w (if valid then x else null) ≡ w null
or_null w x true h = h
or_null w x false h = refl

-- a cell of an array, at whatever slot
mutual
  unfolding may_vary may_vary_in any_may_vary weight kind_weight parts_weight cell_at kind_cell part_cells

  same_weight : (k : Kind) → may_vary k ≡ false → (a : Array) (i : ℕ) → kind_weight k (kind_cell k a i) ≡ kind_weight k null
  same_weight texts h a i = absurd cc
  same_weight large_texts h a i = absurd cc
  same_weight binaries h a i = absurd cc
  same_weight large_binaries h a i = absurd cc
  same_weight (lists item) h a i = absurd cc
  same_weight (large_lists item) h a i = absurd cc
  same_weight (fixed_lists size item) h a i =
      fixed_own size item a i
      ∙ ap (λ (n : ℕ). 1 + n) (each_same (weight item) (cell_at item (items_in a)) (weight item null) (i * size) size (λ j from to. same_cell item h (items_in a) j))
  same_weight (structs columns) h a i = ap (λ (n : ℕ). 1 + n) (same_parts columns h (children_in a) i)
  same_weight _ h a i = refl

  same_cell : (c : Column) → may_vary_in c ≡ false → (a : Array) (i : ℕ) → weight c (cell_at c a i) ≡ weight c null
  same_cell (column name nullable kind None pairs) h a i = or_null (kind_weight kind) (kind_cell kind a i) (is_valid a i) (same_weight kind h a i)
  same_cell (column name nullable kind (Some index) pairs) h a i =
      let one : (b : Array) (j : ℕ) → kind_weight kind (unless_null (kind_cell kind) b j) ≡ kind_weight kind null =
      λ b j. or_null (kind_weight kind) (kind_cell kind b j) (is_valid b j) (same_weight kind h b j) in
      let entries : List Cell = entries_by (unless_null (kind_cell kind)) (dictionary_in a) in
      or_null (kind_weight kind) (entry_at entries (index_at index a i)) (is_valid a i)
      (named_alike (kind_weight kind) entries (index_at index a i) (entries_alike (kind_weight kind) (unless_null (kind_cell kind)) (array_list (dictionary_in a)) one))

  same_parts : (cs : Columns) → any_may_vary cs ≡ false → (arrays : Arrays) (i : ℕ) → parts_weight cs (part_cells cs arrays i) ≡ parts_weight cs no_cell
  same_parts no_column h arrays i = refl
  same_parts (and_column c cs) h arrays i =
      let both = or_parts (may_vary_in c) (any_may_vary cs) h in
      let first : weight c (cell_at c (first_array arrays) i) ≡ weight c null = same_cell c both.0 (first_array arrays) i in
      let others : parts_weight cs (part_cells cs (other_arrays arrays) i) ≡ parts_weight cs no_cell = same_parts cs both.1 (other_arrays arrays) i in
      omega (arith, first, others)

-- n slots of such a column are n nulls
pub alike_cells : (c : Column) (a : Array) (start n : ℕ) → may_vary_in c ≡ false → span_weight c a start n ≡ n * weight c null
alike_cells c a start n h = each_same (weight c) (cell_at c a) (weight c null) start n (λ i le lt. same_cell c h a i)

column_varies : (c : Column) → may_vary_in c ≡ may_vary (kind_of_column c)
unfolding may_vary_in
column_varies (column name nullable kind dictionary pairs) = refl

pub field_may_vary : (field : Field) → may_vary_in (column_of field) ≡ may_vary (kind_of field.data_type)
field_may_vary field = column_varies (column_of field) ∙ ap may_vary (kind_of_field field)

pub field_is_alike : (field : Field) → may_vary (kind_of field.data_type) ≡ false → may_vary_in (column_of field) ≡ false
field_is_alike field h = field_may_vary field ∙ h

-- also where they are null because others are
pub alike_masked : (field : Field) (mask a : Array) (start n : ℕ) → may_vary (kind_of field.data_type) ≡ false
    → masked_weight (column_of field) mask a start n ≡ n * weight (column_of field) null
alike_masked field mask a start n h =
    let c : Column = column_of field in
    each_same (weight c) (masked_cell c mask a) (weight c null) start n
    (λ i le lt. or_null (weight c) (cell_at c a i) (is_valid mask i) (same_cell c (field_is_alike field h) a i))

-- ---- field by field

pub field_varies : (fs : List Field) (i : ℕ) (f : Field) → i < length fs → f ≡ get_or fs i f → may_vary_in (column_of f) ≡ true → any_may_vary (fields_of (drop i fs)) ≡ true
unfolding any_may_vary
field_varies fs i f within is h = ap any_may_vary (next_field fs i f within is) ∙ rw h refl

pub field_same : (fs : List Field) (i : ℕ) (f : Field) → i < length fs → f ≡ get_or fs i f → may_vary_in (column_of f) ≡ false
    → any_may_vary (fields_of (drop (i + 1) fs)) ≡ any_may_vary (fields_of (drop i fs))
unfolding any_may_vary
field_same fs i f within is h = sym (ap any_may_vary (next_field fs i f within is) ∙ rw h refl)

pub none_left : (fs : List Field) (i : ℕ) → length fs ≤ i → any_may_vary (fields_of (drop i fs)) ≡ false
unfolding any_may_vary
none_left fs i past = ap (λ (gs : List Field). any_may_vary (fields_of gs)) (drop_all i fs past)
