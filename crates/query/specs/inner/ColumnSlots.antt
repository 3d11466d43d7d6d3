-- The columns of a batch for printing.
use Rattle.std.specs.Prelude.{◌≡◌, ◌<◌, ℕ, ◌/◌, suc, true, false, List, [], ◌∷◌, map, drop, Some, None}
use Rattle.std.specs.List.{AllByRecursion}
use Rattle.json.specs.Print.{escape}
use Rattle.arrow_schema.specs.Column.{Kind, Column, columns_of}
use Rattle.arrow_schema.specs.Parts.{kind_of_column}
use Rattle.arrow_schema.specs.View.{column_of, bits_of}
use Rattle.arrow_schema.specs.declared.types.Field.{Field}
use Rattle.cells.specs.Cell.{Cell, Cells, text, cell_list}
use Rattle.columns.specs.Array.{Array, Arrays, validity_in, values_in, offsets_in, contents_in, first_array, arrays_of}
use Rattle.columns.specs.CellAt.{cell_at, kind_cell, contents_at, unless_null, part_cells}
use Rattle.columns.specs.Sound.{is_sound, are_sound}
use Rattle.columns.specs.Tests.{has_short_validity, has_short_buffer, are_few_offsets}
use Rattle.columns.specs.Texts.{have_utf8_texts}
use Rattle.columns.specs.View.{view_array, placed_arrays}
use Rattle.civil_days.specs.declared.date_form.DateForm.{DateForm}
use Rattle.query.specs.Shown.{dated}
use Rattle.query.specs.declared.batch_arrays.BatchArrays.{BatchArrays}
use Rattle.query.specs.declared.column_slots.ColumnSlots.{ColumnSlots}
use Rattle.query.specs.declared.column_slots.Buffers.{Buffers}
use Rattle.query.specs.declared.column_slots.Buffers.TheVariants.{Integers, Dates, Texts, Others}
use Rattle.query.specs.declared.column_slots.IntegerBuffers.{IntegerBuffers}
use Rattle.query.specs.declared.column_slots.TextBuffers.{TextBuffers}
use Rattle.query.specs.inner.Contents.{span_in}
use Rattle.query.specs.inner.Slots.{IsIntegerColumn, is_valid_in}

-- the values of a type are strings, with offsets of this width
pub record IsTextKind (kind : Kind) (width : ℕ) : Type 0 where
  pub cells : (a : Array) (i : ℕ) → kind_cell kind a i ≡ text (contents_at width a i)
  pub buffer : (a : Array) → has_short_buffer kind a ≡ are_few_offsets width a

-- the cells of a column are strings or nulls, in the bytes of its arrays
pub record IsTextColumn (c : Column) (width : ℕ) : Type 0 where
  pub cells : (a : Array) (i : ℕ) → cell_at c a i ≡ unless_null (λ b j. text (contents_at width b j)) a i
  pub validity : (a : Array) → is_sound c a ≡ true → has_short_validity a ≡ false
  pub offsets : (a : Array) → is_sound c a ≡ true → are_few_offsets width a ≡ false

-- these are the buffers of integers of an array
abbrev pub AreIntegers : Column → Array → IntegerBuffers → Type 0
AreIntegers c a b = IsIntegerColumn c b.integer × (b.validity.now ≡ validity_in a) × (b.values.now ≡ values_in a)

-- these are the buffers of an array of a column, for printing dates in this form
abbrev pub AreBuffers : DateForm → Column → Array → Buffers → Type 0
AreBuffers form c a (Integers b) = AreIntegers c a b × (dated form (kind_of_column c) ≡ None)
AreBuffers form c a (Dates column b) = AreIntegers c a b × (dated form (kind_of_column c) ≡ Some column)
AreBuffers form c a (Texts b) =
    IsTextColumn c (bits_of b.width / 8) × (b.validity.now ≡ validity_in a) × (b.offsets.now ≡ offsets_in a) × (b.contents.now ≡ contents_in a)
AreBuffers form c a Others = Unit {0}

-- this is the column of a field with this array
pub record IsColumn (form : DateForm) (f : Field) (a : Array) (s : ColumnSlots) : Type 0 where
  pub column : column_of s.field.now ≡ column_of f
  pub array : view_array s.view ≡ a
  pub buffers : AreBuffers form (column_of s.field.now) (view_array s.view) s.buffers

-- the array of a column in a batch
abbrev pub array_at : ℕ → BatchArrays → Array
array_at place b = first_array (placed_arrays b.bytes.now b.dictionaries.now (drop place b.arrays.now))

-- these are the columns of fields, whose arrays begin at a place
abbrev pub AreColumns : DateForm → BatchArrays → (place : ℕ) → List Field → List ColumnSlots → Type 0
AreColumns form b place [] [] = Unit {0}
AreColumns form b place [] (s ∷ ss) = ⊥
AreColumns form b place (f ∷ fs) [] = ⊥
AreColumns form b place (f ∷ fs) (s ∷ ss) = IsColumn form f (array_at place b) s × AreColumns form b (suc place) fs ss

-- ---- their slots

abbrev pub slot_columns : List ColumnSlots → List Column
slot_columns ss = map (λ s. column_of s.field.now) ss

abbrev pub slot_arrays : List ColumnSlots → Arrays
slot_arrays ss = arrays_of (map (λ s. view_array s.view) ss)

-- the cells of a slot
abbrev pub slot_cells : List ColumnSlots → ℕ → Cells
slot_cells ss slot = part_cells (columns_of (slot_columns ss)) (slot_arrays ss) slot

abbrev pub slot_row : List ColumnSlots → ℕ → List Cell
slot_row ss slot = cell_list (slot_cells ss slot)

abbrev pub HasBuffers : DateForm → ColumnSlots → Type 0
HasBuffers form s = AreBuffers form (column_of s.field.now) (view_array s.view) s.buffers

-- the first slots can be looked up, and their texts are UTF-8
pub record AreReadable (form : DateForm) (ss : List ColumnSlots) (slots : ℕ) : Type 0 where
  pub buffers : AllByRecursion (HasBuffers form) ss
  pub sound : are_sound (columns_of (slot_columns ss)) slots (slot_arrays ss) ≡ true
  pub texts : (slot : ℕ) → slot < slots → have_utf8_texts (slot_cells ss slot) ≡ true

-- the string of a slot, which is the same in a JSON string
pub record IsPlainText (b : TextBuffers) (slot : ℕ) (t : List ℕ) : Type 0 where
  pub valid : is_valid_in b.validity.now slot ≡ true
  pub contents : t ≡ span_in (bits_of b.width / 8) b.offsets.now b.contents.now slot
  pub plain : escape t ≡ t
