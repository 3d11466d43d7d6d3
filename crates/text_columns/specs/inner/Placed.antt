-- The arrays that the buffers of columns are, and where they are placed.
use Rattle.std.specs.Prelude.{◌≡◌, ◌++◌, ℕ, Bool, true, false, List, [], ◌∷◌, Option, Some, None, length, slice_get, if◌then◌else◌, map}
use Rattle.std.specs.List.{list_all}
use Rattle.bitmap.specs.Bits.{packed}
use Rattle.arrow_schema.specs.Column.{Column, columns_of}
use Rattle.cells.specs.Cell.{Cell}
use Rattle.columns.specs.Array.{Array, Layout, array, no_array, and_array, null_layout, bit_layout, fixed_layout, binary_layout, dictionary_layout}
use Rattle.columns.specs.Places.{within}
use Rattle.columns.specs.Built.{built, built_parts}
use Rattle.columns.specs.View.{array_in, array_step, arrays_in, layout_step, placed_arrays}
use Rattle.columns.specs.Within.{array_within, ends_within, is_placed_within, layout_within, stands_within}
use Rattle.columns.specs.declared.array.Dictionary.{Dictionary}
use Rattle.columns.specs.declared.array.DictionaryPart.{DictionaryPart}
use Rattle.columns.specs.declared.array.PlacedArray.{PlacedArray}
use Rattle.columns.specs.declared.array.PlacedLayout.{PlacedLayout}
use Rattle.columns.specs.declared.array.PlacedLayout.TheFolds.{fold-PlacedLayout}
use Rattle.columns.specs.declared.span.Span.{Span}
use Rattle.text_columns.specs.declared.coding.Coding.{Coding}
use Rattle.text_columns.specs.declared.column_values.ColumnValues.{ColumnValues}
use Rattle.text_columns.specs.declared.column_values.ColumnValues.TheVariants.{Nulls, Booleans, Integers, Texts, Binaries, FixedBinaries}
use Rattle.text_columns.specs.declared.builder.ColumnBuilder.{ColumnBuilder}
use Rattle.text_columns.specs.declared.flat.FlatBuilder.{FlatBuilder}
use Rattle.text_columns.specs.inner.Kept.{KeepAll, Keeps}

-- the validity bitmap of slots, which is empty if each is valid
abbrev pub validity_of_bits : List Bool → List ℕ
validity_of_bits valid = if list_all (λ b. b) valid then [] else packed valid

-- slots of the type of nulls have none
abbrev pub has_bitmap : ColumnValues → Bool
has_bitmap Nulls = false
has_bitmap _ = true

abbrev pub has_validity : Option Coding → ColumnValues → Bool
has_validity None values = has_bitmap values
has_validity (Some d) values = true

abbrev pub validity_in : Bool → List Bool → List ℕ
validity_in has valid = if has then validity_of_bits valid else []

abbrev pub layout_of : ColumnValues → Layout
layout_of Nulls = null_layout
layout_of (Booleans bits) = bit_layout (packed bits.items)
layout_of (Integers integer counted bytes) = fixed_layout bytes.items
layout_of (Texts width offsets contents) = binary_layout offsets.items contents.items
layout_of (Binaries width offsets contents) = binary_layout offsets.items contents.items
layout_of (FixedBinaries width bytes) = fixed_layout bytes.items

-- the array of a dictionary's entries, none of which is a null
abbrev pub entries_array : ColumnValues → ℕ → Array
entries_array values count = array count [] (layout_of values)

abbrev pub column_layout : Option Coding → ColumnValues → Layout
column_layout None values = layout_of values
column_layout (Some d) values = dictionary_layout d.indices.items (and_array (entries_array values (length d.keys.keys)) no_array)

abbrev pub array_of : FlatBuilder → Array
array_of b = array (length b.valid.items) (validity_in (has_validity b.coding b.values) b.valid.items) (column_layout b.coding b.values)

-- a buffer comes after other bytes, and stays there whatever comes after it
pub record IsAppended (old buffer new : List ℕ) (span : Span) : Type 0 where
  pub whole : new ≡ old ++ buffer
  pub stands : (more : List ℕ) → within (new ++ more) span ≡ buffer
  pub ends : (more : List ℕ) → ends_within (length (new ++ more)) span ≡ true

-- places as a layout; `known` is what is known of dictionaries
abbrev pub layout_by : (bytes : List ℕ) → (DictionaryPart → List Array) → PlacedLayout → Layout
layout_by bytes known = fold-PlacedLayout Layout Array (layout_step bytes known) (array_step bytes)

abbrev pub is_layout_within : (size : ℕ) → (DictionaryPart → Bool) → PlacedLayout → Bool
is_layout_within size stands = fold-PlacedLayout Bool Bool (layout_within size stands) (array_within size)

-- the buffers of values come after other bytes: they name no dictionary
pub record IsLaid (values : ColumnValues) (old new : List ℕ) (layout : PlacedLayout) : Type 0 where
  pub more : List ℕ
  pub whole : new ≡ old ++ more
  pub laid : (known : DictionaryPart → List Array) → layout_by new known layout ≡ layout_of values
  pub ends : (stands : DictionaryPart → Bool) → is_layout_within (length new) stands layout ≡ true

-- the array of entries is a dictionary that comes after others
pub record AreEntriesPlaced (values : ColumnValues) (count : ℕ) (old new : List ℕ) (before behind : List Dictionary) (part : DictionaryPart) : Type 0 where
  pub more : List ℕ
  pub whole : new ≡ old ++ more
  pub own : List Dictionary
  pub longer : behind ≡ before ++ own
  pub known : arrays_in new behind part ≡ entries_array values count ∷ []
  pub stands : stands_within (length new) behind part ≡ true

-- a layout that is placed after other bytes, with what it names after other dictionaries
pub record IsPlacedAs (stated : Layout) (old new : List ℕ) (before behind : List Dictionary) (layout : PlacedLayout) : Type 0 where
  pub more : List ℕ
  pub whole : new ≡ old ++ more
  pub own : List Dictionary
  pub longer : behind ≡ before ++ own
  pub laid : layout_by new (arrays_in new behind) layout ≡ stated
  pub ends : is_layout_within (length new) (stands_within (length new) behind) layout ≡ true

abbrev pub IsCodedLaid : ColumnValues → Coding → List ℕ → List ℕ → List Dictionary → List Dictionary → PlacedLayout → Type 0
IsCodedLaid values d = IsPlacedAs (column_layout (Some d) values)

abbrev pub IsLayoutPlaced : FlatBuilder → List ℕ → List ℕ → List Dictionary → List Dictionary → PlacedLayout → Type 0
IsLayoutPlaced b = IsPlacedAs (column_layout b.coding b.values)

-- an array is what the cells of a column are written as
abbrev pub IsBuilt : ColumnBuilder → Array → Type 0
IsBuilt b a = (c : Column) (cells : List Cell) → Keeps c cells b → a ≡ built c cells

-- the buffers of a column
pub record IsPlaced (b : ColumnBuilder) (old new : List ℕ) (before behind : List Dictionary) (a : PlacedArray) : Type 0 where
  pub more : List ℕ
  pub whole : new ≡ old ++ more
  pub own : List Dictionary
  pub longer : behind ≡ before ++ own
  pub placed : IsBuilt b (array_in new (arrays_in new behind) a)
  pub ends : is_placed_within (length new) behind a ≡ true

-- arrays that columns are, in this order
pub record AreBuilt (bs : List ColumnBuilder) (arrays : List Array) : Type 0 where
  pub count : length arrays ≡ length bs
  pub each : (j : ℕ) (b : ColumnBuilder) (a : Array) → slice_get bs j ≡ Some b → slice_get arrays j ≡ Some a → IsBuilt b a

-- those of all come after other bytes
pub record ArePlacedBehind (bs : List ColumnBuilder) (old new : List ℕ) (before behind : List Dictionary) (arrays : List PlacedArray) : Type 0 where
  pub more : List ℕ
  pub whole : new ≡ old ++ more
  pub own : List Dictionary
  pub longer : behind ≡ before ++ own
  pub placed : AreBuilt bs (map (array_in new (arrays_in new behind)) arrays)
  pub ends : list_all (is_placed_within (length new) behind) arrays ≡ true

-- and those of all
abbrev pub ArePlaced : List ColumnBuilder → List ℕ → List Dictionary → List PlacedArray → Type 0
ArePlaced bs bytes dictionaries arrays =
    (cs : List Column) (rows : List (List Cell)) → KeepAll cs rows bs → placed_arrays bytes dictionaries arrays ≡ built_parts (columns_of cs) rows
