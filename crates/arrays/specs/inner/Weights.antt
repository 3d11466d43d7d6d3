-- What spans of slots weigh.
use Rattle.std.specs.Prelude.{◌≡◌, ◌==◌, ◌<◌, get_or, length, ℕ, ◌+◌, ◌-◌, ◌&&◌, List, map, sum_by, Option, Some, None, IfSome, if◌then◌else◌}
use Rattle.std.specs.Int.{bit_at}
use Rattle.std.specs.List.{range_with_len}
use Rattle.arrow_schema.specs.Column.{PlainSchema, Kind, Column, Columns, texts, large_texts, binaries, large_binaries, lists, large_lists, no_column, and_column}
use Rattle.cells.specs.Cell.{Cell, null}
use Rattle.cells.specs.Weight.{capped_weight, weight, kind_weight, table_weight}
use Rattle.arrow_schema.specs.View.{index_of}
use Rattle.arrow_schema.specs.declared.types.DictSpec.{DictSpec}
use Rattle.columns.specs.Array.{Array, Arrays, dictionary_in, first_array, other_arrays}
use Rattle.columns.specs.CellAt.{cell_at, entries_of_kind, indexed_cell, is_valid, kind_cell, span_size, unless_null}
use Rattle.columns.specs.View.{view_array}
use Rattle.columns.specs.declared.view.ArrayView.{ArrayView}
use Rattle.columns.specs.Offsets.{contents_width}
use Rattle.arrays.specs.Checks.{are_too_heavy}
use Rattle.arrays.specs.inner.Varying.{may_vary_in}

-- the sum over n places, from one on
abbrev pub sum_from : {X : Type 0} → (X → ℕ) → (ℕ → X) → (start n : ℕ) → ℕ
sum_from w f start n = sum_by w (map f (range_with_len start n))

-- n slots of a column, from one on
abbrev pub span_weight : Column → Array → (start n : ℕ) → ℕ
span_weight c a start n = sum_from (weight c) (cell_at c a) start n

-- the same of a type, without its dictionary
abbrev pub plain_weight : Kind → Array → (start n : ℕ) → ℕ
plain_weight k a start n = sum_from (kind_weight k) (unless_null (kind_cell k) a) start n

-- where all of them are valid
abbrev pub valid_weight : Kind → Array → (start n : ℕ) → ℕ
valid_weight k a start n = sum_from (kind_weight k) (kind_cell k a) start n

-- the same slots of each of some columns
unfoldable pub parts_span_weight : Columns → Arrays → (start n : ℕ) → ℕ
parts_span_weight no_column arrays start n = 0
parts_span_weight (and_column c cs) arrays start n = span_weight c (first_array arrays) start n + parts_span_weight cs (other_arrays arrays) start n

-- the cells of a column at some slots, which are nulls where those of another array are not valid
abbrev pub masked_cell : Column → (mask a : Array) → ℕ → Cell
masked_cell c mask a i = if is_valid mask i then cell_at c a i else null

abbrev pub masked_weight : Column → (mask a : Array) → (start n : ℕ) → ℕ
masked_weight c mask a start n = sum_from (weight c) (masked_cell c mask a) start n

-- the same of each of some columns
unfoldable pub masked_parts_weight : Columns → (mask : Array) → Arrays → (start n : ℕ) → ℕ
masked_parts_weight no_column mask arrays start n = 0
masked_parts_weight (and_column c cs) mask arrays start n = masked_weight c mask (first_array arrays) start n + masked_parts_weight cs mask (other_arrays arrays) start n

-- the same of types whose cells weigh one, and then each byte or item between their offsets so much: also of lists of items that weigh alike
abbrev pub sized_width : Kind → Option ℕ
sized_width (lists item) = if may_vary_in item then None else Some 4
sized_width (large_lists item) = if may_vary_in item then None else Some 8
sized_width k = contents_width k

abbrev pub unit_weight : Kind → ℕ
unit_weight (lists item) = weight item null
unit_weight (large_lists item) = weight item null
unit_weight k = 1

-- what some slots have by their offsets, of those whose bits are set, the first of which is that of a slot
abbrev pub chosen_sizes : (width bits first : ℕ) → Array → (start n : ℕ) → ℕ
chosen_sizes width bits first a start n = sum_from (λ (size : ℕ). size) (λ i. if bit_at bits (i - first) == 1 then span_size width a i else 0) start n

-- the same of those that are valid and are so in another array too
abbrev pub masked_sizes : (width : ℕ) → (mask a : Array) → (start n : ℕ) → ℕ
masked_sizes width mask a start n = sum_from (λ (size : ℕ). size) (λ i. if is_valid mask i && is_valid a i then span_size width a i else 0) start n

-- the weights of the first entries of a dictionary, where what is no entry is a null
abbrev pub AreEntryWeights : Kind → (dictionary : Arrays) → (weights : List ℕ) → Type 0
AreEntryWeights kind dictionary weights = (n : ℕ) → n < length weights → get_or weights n 0 ≡ capped_weight (kind_weight kind (get_or (entries_of_kind kind dictionary) n null))

-- what slots with a dictionary weigh, from one on
abbrev pub coded_weight : DictSpec → ArrayView → Kind → (start n : ℕ) → ℕ
coded_weight spec view kind start n = sum_from (kind_weight kind) (unless_null (indexed_cell (index_of spec) kind) (view_array view)) start n

-- what one weighs, or all of a span together, if that is known: by the weights of some first entries and of a null, of whatever type
abbrev pub IsKnownWeight : DictSpec → ArrayView → (known : List ℕ) → (of_null i : ℕ) → Option ℕ → Type 0
IsKnownWeight spec view known of_null i told = (kind : Kind) → AreEntryWeights kind (dictionary_in (view_array view)) known → of_null ≡ capped_weight (kind_weight kind null)
    → IfSome told (λ w. w ≡ capped_weight (kind_weight kind (unless_null (indexed_cell (index_of spec) kind) (view_array view) i)))

abbrev pub IsKnownTotal : DictSpec → ArrayView → (known : List ℕ) → (of_null start n : ℕ) → Option ℕ → Type 0
IsKnownTotal spec view known of_null start n told = (kind : Kind) → AreEntryWeights kind (dictionary_in (view_array view)) known → of_null ≡ capped_weight (kind_weight kind null)
    → IfSome told (λ w. w ≡ capped_weight (coded_weight spec view kind start n))

-- n rows, from one on: one each, and their cells
abbrev pub rows_weight : Columns → Arrays → (start n : ℕ) → ℕ
rows_weight columns arrays start n = n + parts_span_weight columns arrays start n

-- what rows weigh after those before them, unless that is too much
abbrev pub weight_within : PlainSchema → (before : ℕ) → List (List Cell) → Option ℕ
weight_within s before rows = if are_too_heavy s before rows then None else Some (table_weight s rows)
