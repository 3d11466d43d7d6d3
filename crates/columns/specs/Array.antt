-- Arrays as plain trees whose buffers are lists of bytes (Arrow columnar format, "Physical Memory Layout"). An array does not know its type: its
-- column gives its values a meaning. An array whose layout is not that of its column reads as one with empty buffers.
use Rattle.std.specs.Prelude.{ℕ, List, [], ◌∷◌}

mutual
  -- an array: its number of slots, its validity bitmap (empty if every slot is valid), and the rest of its layout
  pub data Array : Type 0 where
    array : (slots : ℕ) → (validity : List ℕ) → Layout → Array

  pub data Layout : Type 0 where
    -- "Null Layout": no buffers
    null_layout : Layout
    -- "Fixed-size Primitive Layout" of booleans: one bit for each slot
    bit_layout : (bits : List ℕ) → Layout
    -- "Fixed-size Primitive Layout" of other types: values of one width, one after another
    fixed_layout : (values : List ℕ) → Layout
    -- "Variable-size Binary Layout": one more offset than slots, and the bytes of all values
    binary_layout : (offsets contents : List ℕ) → Layout
    -- "Variable-size List Layout": one more offset than slots, and the items of all lists
    list_layout : (offsets : List ℕ) → (items : Array) → Layout
    -- "Fixed-Size List Layout": the items of all lists
    fixed_list_layout : (items : Array) → Layout
    -- "Struct Layout": one array for each field
    struct_layout : (children : Arrays) → Layout
    -- "Dictionary-encoded Layout": the index of each slot, and the arrays of the dictionary's batches, one after another
    dictionary_layout : (indices : List ℕ) → (dictionary : Arrays) → Layout

  pub data Arrays : Type 0 where
    no_array : Arrays
    and_array : Array → Arrays → Arrays

abbrev pub arrays_of : List Array → Arrays
arrays_of [] = no_array
arrays_of (a ∷ others) = and_array a (arrays_of others)

abbrev pub array_list : Arrays → List Array
array_list no_array = []
array_list (and_array a others) = a ∷ array_list others

-- ---- what an array has, or nothing if its layout is another one

abbrev pub slots_in : Array → ℕ
slots_in (array slots validity layout) = slots

abbrev pub validity_in : Array → List ℕ
validity_in (array slots validity layout) = validity

abbrev pub layout_in : Array → Layout
layout_in (array slots validity layout) = layout

abbrev pub bits_of_layout : Layout → List ℕ
bits_of_layout (bit_layout bits) = bits
bits_of_layout _ = []

abbrev pub values_of_layout : Layout → List ℕ
values_of_layout (fixed_layout values) = values
values_of_layout _ = []

abbrev pub offsets_of_layout : Layout → List ℕ
offsets_of_layout (binary_layout offsets contents) = offsets
offsets_of_layout (list_layout offsets items) = offsets
offsets_of_layout _ = []

abbrev pub contents_of_layout : Layout → List ℕ
contents_of_layout (binary_layout offsets contents) = contents
contents_of_layout _ = []

abbrev pub empty_array : Array
empty_array = array 0 [] null_layout

abbrev pub items_of_layout : Layout → Array
items_of_layout (list_layout offsets items) = items
items_of_layout (fixed_list_layout items) = items
items_of_layout _ = empty_array

abbrev pub children_of_layout : Layout → Arrays
children_of_layout (struct_layout children) = children
children_of_layout _ = no_array

abbrev pub indices_of_layout : Layout → List ℕ
indices_of_layout (dictionary_layout indices dictionary) = indices
indices_of_layout _ = []

abbrev pub dictionary_of_layout : Layout → Arrays
dictionary_of_layout (dictionary_layout indices dictionary) = dictionary
dictionary_of_layout _ = no_array

abbrev pub bits_in : Array → List ℕ
bits_in a = bits_of_layout (layout_in a)

abbrev pub values_in : Array → List ℕ
values_in a = values_of_layout (layout_in a)

abbrev pub offsets_in : Array → List ℕ
offsets_in a = offsets_of_layout (layout_in a)

abbrev pub contents_in : Array → List ℕ
contents_in a = contents_of_layout (layout_in a)

abbrev pub items_in : Array → Array
items_in a = items_of_layout (layout_in a)

abbrev pub children_in : Array → Arrays
children_in a = children_of_layout (layout_in a)

abbrev pub indices_in : Array → List ℕ
indices_in a = indices_of_layout (layout_in a)

abbrev pub dictionary_in : Array → Arrays
dictionary_in a = dictionary_of_layout (layout_in a)

-- the first array of a list, and the others
abbrev pub first_array : Arrays → Array
first_array no_array = empty_array
first_array (and_array a others) = a

abbrev pub other_arrays : Arrays → Arrays
other_arrays no_array = no_array
other_arrays (and_array a others) = others
