-- The plain array that a placed array stands for, given its bytes.
use Rattle.std.specs.Prelude.{◌≡◌, ℕ, List, [], ◌∷◌, map, take, get_or, Option, Some, None}
use Rattle.columns.specs.declared.array.PlacedArray.{PlacedArray}
use Rattle.columns.specs.declared.array.PlacedLayout.TheOpen.{PlacedArray-F, PlacedLayout-F}
use Rattle.columns.specs.declared.array.PlacedLayout.TheOpen as placed
use Rattle.columns.specs.declared.array.PlacedLayout.TheFolds.{fold-PlacedArray}
use Rattle.columns.specs.declared.array.Dictionary.{Dictionary}
use Rattle.columns.specs.declared.array.DictionaryPart.{DictionaryPart}
use Rattle.columns.specs.declared.view.ArrayView.{ArrayView}
use Rattle.arrow_schema.specs.declared.types.Field.{Field}
use Rattle.arrow_schema.specs.Column.{Columns, columns_of}
use Rattle.arrow_schema.specs.View.{column_of}
use Rattle.columns.specs.Places.{within}
use Rattle.columns.specs.Array.{Array, Arrays, Layout, array, arrays_of, empty_array, null_layout, bit_layout, fixed_layout, binary_layout, list_layout, fixed_list_layout, struct_layout, dictionary_layout}

-- the dictionary arrays come from `arrays_known`, for the part that the array knows
abbrev pub layout_step : List ℕ → (DictionaryPart → List Array) → PlacedLayout-F Layout Array → Layout
layout_step bytes arrays_known placed.Null = null_layout
layout_step bytes arrays_known (placed.Bits bits) = bit_layout (within bytes bits)
layout_step bytes arrays_known (placed.Fixed values) = fixed_layout (within bytes values)
layout_step bytes arrays_known (placed.Binary offsets contents) = binary_layout (within bytes offsets) (within bytes contents)
layout_step bytes arrays_known (placed.List offsets items) = list_layout (within bytes offsets) items.value
layout_step bytes arrays_known (placed.FixedList items) = fixed_list_layout items.value
layout_step bytes arrays_known (placed.Struct children) = struct_layout (arrays_of children.items)
layout_step bytes arrays_known (placed.Dictionary indices part) = dictionary_layout (within bytes indices) (arrays_of (arrays_known part))

abbrev pub array_step : List ℕ → PlacedArray-F Layout Array → Array
array_step bytes a = array a.slots (within bytes a.validity) a.layout

abbrev pub array_in : List ℕ → (DictionaryPart → List Array) → PlacedArray → Array
array_in bytes arrays_known = fold-PlacedArray Layout Array (layout_step bytes arrays_known) (array_step bytes)

-- the arrays of a dictionary have no dictionaries themselves
abbrev pub no_dictionary : DictionaryPart → List Array
no_dictionary part = []

abbrev pub arrays_numbered : List Dictionary → ℕ → List PlacedArray
arrays_numbered dictionaries n = get_or (map (λ d. d.arrays.items) dictionaries) n []

-- the arrays of a dictionary that existed when an array was read
abbrev pub arrays_in : List ℕ → List Dictionary → DictionaryPart → List Array
arrays_in bytes [] part = []
arrays_in bytes (d ∷ dictionaries) part = map (array_in bytes no_dictionary) (take part.count (arrays_numbered (d ∷ dictionaries) part.number))

-- the arrays of a batch or a struct, and those of a dictionary
abbrev pub placed_arrays : List ℕ → List Dictionary → List PlacedArray → Arrays
placed_arrays bytes dictionaries arrays = arrays_of (map (array_in bytes (arrays_in bytes dictionaries)) arrays)

abbrev pub placed_dictionary : List ℕ → List PlacedArray → Arrays
placed_dictionary bytes arrays = arrays_of (map (array_in bytes no_dictionary) arrays)

abbrev pub view_array : ArrayView → Array
view_array v = array_in v.bytes.now (arrays_in v.bytes.now v.dictionaries.now) v.array.now

-- the columns that these fields stand for
abbrev pub fields_of : List Field → Columns
fields_of fields = columns_of (map column_of fields)

-- the array of an optional view
abbrev pub option_array : Option ArrayView → Array
option_array None = empty_array
option_array (Some v) = view_array v

-- an array without slots or buffers, whatever the bytes
abbrev pub IsNoArray : PlacedArray → Type 0
IsNoArray a = (bytes : List ℕ) (dictionaries : List Dictionary) → array_in bytes (arrays_in bytes dictionaries) a ≡ empty_array
