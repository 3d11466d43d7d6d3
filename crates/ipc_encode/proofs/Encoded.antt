-- Columns with one encoding give the same cells of the same arrays.
use Rattle.std.specs.Prelude.{Bool, ◌/◌, ◌&&◌, not, nat_le, Some, None}
use Rattle.std.specs.List.{flat_map, list_all, range_with_len}
use Rattle.std.proofs.Common.{◌≡◌, ℕ, ◌*◌, List, map, refl, sym, ap, ◌∙◌}
use Rattle.arrow_schema.specs.Column.{Kind, Column, Columns, columns_of, PlainSchema, lists, large_lists, fixed_lists, structs, column, no_column, and_column}
use Rattle.cells.specs.Cell.{PlainTable, items, parts, and_cell, cells_of, cell_list}
use Rattle.columns.specs.Array.{Array, slots_in, items_in, children_in, indices_in, dictionary_in, array_list, first_array, other_arrays}
use Rattle.columns.specs.CellAt.{cell_at, kind_cell, part_cells, cells_from, span_cells, unless_null, entries_by, entry_at, index_at}
use Rattle.columns.specs.Sound.{is_sound, has_sound_children, are_sound, is_sound_by}
use Rattle.columns.specs.Tests.{are_few, has_short_validity}
use Rattle.values.specs.declared.table_part.Batch.{Batch}
use Rattle.values.specs.declared.table_part.TablePart.{TablePart}
use Rattle.values.specs.Parts.{arrays_with, parts_rows, parts_table, are_parts_sound}
use Rattle.ipc_encode.specs.inner.Encoding.{encoding, encodings, kind_encoding}

-- ---- cells

mutual
  unfolding cell_at kind_cell part_cells encoding kind_encoding encodings

  same_cell : (c : Column) → cell_at (encoding c) ≡ cell_at c
  same_cell (column name nullable kind None pairs) = ap unless_null (same_kind kind)
  same_cell (column name nullable kind (Some index) pairs) =
      λ j. unless_null (λ a i. entry_at (entries_by (unless_null (same_kind kind j)) (dictionary_in a)) (index_at index a i))

  same_kind : (k : Kind) → kind_cell (kind_encoding k) ≡ kind_cell k
  same_kind (lists item) = λ j a i. items (cells_of (span_cells 4 (same_cell item j (items_in a)) a i))
  same_kind (large_lists item) = λ j a i. items (cells_of (span_cells 8 (same_cell item j (items_in a)) a i))
  same_kind (fixed_lists size item) = λ j a i. items (cells_of (cells_from (same_cell item j (items_in a)) (i * size) size))
  same_kind (structs columns) = λ j a i. parts (same_parts columns j (children_in a) i)
  same_kind _ = refl

  same_parts : (cs : Columns) → part_cells (encodings cs) ≡ part_cells cs
  same_parts no_column = refl
  same_parts (and_column c cs) = λ j arrays i. and_cell (same_cell c j (first_array arrays) i) (same_parts cs j (other_arrays arrays) i)

-- ---- soundness

own_tests : (k : Kind) (children : Array → Bool) → is_sound_by (kind_encoding k) children ≡ is_sound_by k children
unfolding kind_encoding
own_tests (lists item) children = refl
own_tests (large_lists item) children = refl
own_tests (fixed_lists size item) children = refl
own_tests (structs columns) children = refl
own_tests _ children = refl

mutual
  unfolding is_sound has_sound_children are_sound encoding kind_encoding encodings

  same_soundness : (c : Column) → is_sound (encoding c) ≡ is_sound c
  same_soundness (column name nullable kind None pairs) = own_tests kind (has_sound_children (kind_encoding kind)) ∙ ap (is_sound_by kind) (same_children kind)
  same_soundness (column name nullable kind (Some index) pairs) =
      let both : is_sound_by (kind_encoding kind) (has_sound_children (kind_encoding kind)) ≡ is_sound_by kind (has_sound_children kind)
      = own_tests kind (has_sound_children (kind_encoding kind)) ∙ ap (is_sound_by kind) (same_children kind) in
      λ j a. not (has_short_validity a) && (not (are_few (index.bits / 8) a (indices_in a)) && list_all (both j) (array_list (dictionary_in a)))

  same_children : (k : Kind) → has_sound_children (kind_encoding k) ≡ has_sound_children k
  same_children (lists item) = λ j a. same_soundness item j (items_in a)
  same_children (large_lists item) = λ j a. same_soundness item j (items_in a)
  same_children (fixed_lists size item) = λ j a. nat_le (slots_in a * size) (slots_in (items_in a)) && same_soundness item j (items_in a)
  same_children (structs columns) = λ j a. all_same columns j (slots_in a) (children_in a)
  same_children _ = refl

  all_same : (cs : Columns) → are_sound (encodings cs) ≡ are_sound cs
  all_same no_column = refl
  all_same (and_column c cs) = λ j slots arrays. nat_le slots (slots_in (first_array arrays)) && (same_soundness c j (first_array arrays) && all_same cs j slots (other_arrays arrays))

-- ---- rows

cells_of_encoding : (cs ds : Columns) → encodings cs ≡ encodings ds → part_cells cs ≡ part_cells ds
cells_of_encoding cs ds same = sym (same_parts cs) ∙ ap part_cells same ∙ same_parts ds

tests_of_encoding : (cs ds : Columns) → encodings cs ≡ encodings ds → are_sound cs ≡ are_sound ds
tests_of_encoding cs ds same = sym (all_same cs) ∙ ap are_sound same ∙ all_same ds

pub rows_alike : (cs ds : Columns) (all : List TablePart) → encodings cs ≡ encodings ds → parts_rows cs all ≡ parts_rows ds all
rows_alike cs ds all same =
    λ j. flat_map (λ (p : TablePart). flat_map (λ (b : Batch). map (λ (i : ℕ). cell_list (cells_of_encoding cs ds same j (arrays_with p b) i)) (range_with_len 0 b.rows)) p.batches.items) all

pub sound_alike : (cs ds : Columns) (all : List TablePart) → encodings cs ≡ encodings ds → are_parts_sound cs all ≡ are_parts_sound ds all
sound_alike cs ds all same =
    λ j. list_all (λ (p : TablePart). list_all (λ (b : Batch). tests_of_encoding cs ds same j b.rows (arrays_with p b)) p.batches.items) all

-- the rows of a table that is kept in these parts, by the columns of another schema
pub rows_under_encoding : (s : PlainSchema) (t : PlainTable) (all : List TablePart) → encodings (columns_of s.columns) ≡ encodings (columns_of t.schema.columns) → t ≡ parts_table t.schema all
    → t.rows ≡ parts_rows (columns_of s.columns) all
rows_under_encoding s t all same is = ap (λ (x : PlainTable). x.rows) is ∙ sym (rows_alike (columns_of s.columns) (columns_of t.schema.columns) all same)
