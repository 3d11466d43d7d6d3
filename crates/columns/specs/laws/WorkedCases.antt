-- Worked examples of the definitions: arrays as another writer may lay them out, and their cells.
use Rattle.std.specs.Prelude.{◌≡◌, ℕ, ◌++◌, Bool, true, false, pos, negsuc, List, [], ◌∷◌, codes, replicate, map, Some, None}
use Rattle.std.specs.List.{list_any}
use Rattle.arrow_schema.specs.Column.{Kind, Column, seconds, days, booleans, integers, dates, timestamps, texts, large_texts, fixed_binaries, lists, fixed_lists, structs, column, columns_of}
use Rattle.cells.specs.Cell.{Cell, null, boolean, number, text, bytes, items, parts, cells_of}
use Rattle.columns.specs.Array.{Array, Arrays, array, arrays_of, no_array, null_layout, bit_layout, fixed_layout, binary_layout, list_layout, fixed_list_layout, struct_layout, dictionary_layout}
use Rattle.columns.specs.CellAt.{cells_in}
use Rattle.columns.specs.Visible.{visible_in, is_forbidden, names_no_entry}
use Rattle.columns.specs.Tests.{counts_wrong}
use Rattle.columns.specs.Sound.{is_sound}
use Rattle.columns.specs.Buffers.{nodes_of, buffers_of, dictionaries_of}
use Rattle.columns.specs.Built.{built, built_parts}
use Rattle.columns.specs.FromBuffers.{arrays_from}

-- a column of this type without a dictionary, and one with indices of 8 signed bits
abbrev pub plain : Bool → Kind → Column
plain nullable kind = column [] nullable kind None []

abbrev pub encoded : Kind → Column
encoded kind = column [] true kind (Some (record { bits = 8; signed = true })) []

abbrev pub int : ℕ → Cell
int n = number (pos n)

-- ---- flat types

-- [1, null] of int32
abbrev pub int32s : Array
int32s = array 2 (1 ∷ []) (fixed_layout (1 ∷ 0 ∷ 0 ∷ 0 ∷ 0 ∷ 0 ∷ 0 ∷ 0 ∷ []))

abbrev pub Integers : Type 0
Integers = cells_in (plain true (integers 32 true)) int32s ≡ int 1 ∷ null ∷ []

-- [1, 2] with a validity bitmap of 64 bytes: the bits past the slots are ignored
abbrev pub padded : ℕ → Array
padded first = array 2 (first ∷ replicate 63 0) (fixed_layout (1 ∷ 0 ∷ 0 ∷ 0 ∷ 2 ∷ 0 ∷ 0 ∷ 0 ∷ replicate 56 0))

abbrev pub PaddedBuffers : Type 0
PaddedBuffers = cells_in (plain true (integers 32 true)) (padded 3) ≡ int 1 ∷ int 2 ∷ []

abbrev pub RightCount : Type 0
RightCount = counts_wrong 0 (plain true (integers 32 true)) (padded 3) ≡ false

abbrev pub WrongCount : Type 0
WrongCount = counts_wrong 0 (plain true (integers 32 true)) (padded 1) ≡ true

-- ["", null, "héllo"]
abbrev pub Texts : Type 0
Texts =
    cells_in (plain true texts) (array 3 (5 ∷ []) (binary_layout (replicate 12 0 ++ (6 ∷ 0 ∷ 0 ∷ 0 ∷ [])) (104 ∷ 195 ∷ 169 ∷ 108 ∷ 108 ∷ 111 ∷ [])))
    ≡ text [] ∷ null ∷ text (104 ∷ 195 ∷ 169 ∷ 108 ∷ 108 ∷ 111 ∷ []) ∷ []

-- [true, null, false, true]
abbrev pub Booleans : Type 0
Booleans = cells_in (plain true booleans) (array 4 (13 ∷ []) (bit_layout (9 ∷ []))) ≡ boolean true ∷ null ∷ boolean false ∷ boolean true ∷ []

-- [null, 0aff]
abbrev pub FixedBinaries : Type 0
FixedBinaries = cells_in (plain true (fixed_binaries 2)) (array 2 (2 ∷ []) (fixed_layout (0 ∷ 0 ∷ 10 ∷ 255 ∷ []))) ≡ null ∷ bytes (10 ∷ 255 ∷ []) ∷ []

-- ["a", null], with offsets of 64 bits
abbrev pub LargeTexts : Type 0
LargeTexts =
    cells_in (plain true large_texts) (array 2 (1 ∷ []) (binary_layout (replicate 8 0 ++ ((1 ∷ replicate 7 0) ++ (1 ∷ replicate 7 0))) (codes "a")))
    ≡ text (codes "a") ∷ null ∷ []

-- day 0 and the day before it
abbrev pub Dates : Type 0
Dates = cells_in (plain false (dates days)) (array 2 [] (fixed_layout (0 ∷ 0 ∷ 0 ∷ 0 ∷ 255 ∷ 255 ∷ 255 ∷ 255 ∷ []))) ≡ int 0 ∷ number (negsuc 0) ∷ []

abbrev pub Timestamps : Type 0
Timestamps = cells_in (plain false (timestamps seconds [])) (array 1 [] (fixed_layout (254 ∷ replicate 7 255))) ≡ number (negsuc 1) ∷ []

-- ---- nested types

-- [[1, null], null, []] of lists of int32
abbrev pub list_array : Array
list_array = array 3 (5 ∷ []) (list_layout (replicate 4 0 ++ ((2 ∷ 0 ∷ 0 ∷ 0 ∷ []) ++ ((2 ∷ 0 ∷ 0 ∷ 0 ∷ []) ++ (2 ∷ 0 ∷ 0 ∷ 0 ∷ [])))) int32s)

abbrev pub Lists : Type 0
Lists = cells_in (plain true (lists (plain true (integers 32 true)))) list_array ≡ items (cells_of (int 1 ∷ null ∷ [])) ∷ null ∷ items (cells_of []) ∷ []

abbrev pub SoundLists : Type 0
SoundLists = is_sound (plain true (lists (plain true (integers 32 true)))) list_array ≡ true

-- [[1, 2], null] of fixed lists of two int8
abbrev pub FixedLists : Type 0
FixedLists =
    cells_in (plain true (fixed_lists 2 (plain true (integers 8 true)))) (array 2 (1 ∷ []) (fixed_list_layout (array 4 (3 ∷ []) (fixed_layout (1 ∷ 2 ∷ 0 ∷ 0 ∷ [])))))
    ≡ items (cells_of (int 1 ∷ int 2 ∷ [])) ∷ null ∷ []

-- [null, [5]] of structs of one int16 that is not nullable: the null below the null struct is hidden; below a struct that is valid it is forbidden
abbrev pub struct_column : Column
struct_column = plain true (structs (columns_of (plain false (integers 16 true) ∷ [])))

abbrev pub struct_array : ℕ → Array
struct_array validity = array 2 (validity ∷ []) (struct_layout (arrays_of (array 2 (2 ∷ []) (fixed_layout (7 ∷ 0 ∷ 5 ∷ 0 ∷ [])) ∷ [])))

abbrev pub Structs : Type 0
Structs = cells_in struct_column (struct_array 2) ≡ null ∷ parts (cells_of (int 5 ∷ [])) ∷ []

abbrev pub forbids : Column → Array → ℕ → Bool
forbids c a rows = list_any is_forbidden (visible_in (columns_of (c ∷ [])) (arrays_of (a ∷ [])) rows)

abbrev pub HiddenNull : Type 0
HiddenNull = forbids struct_column (struct_array 2) 2 ≡ false

abbrev pub VisibleNull : Type 0
VisibleNull = forbids struct_column (struct_array 3) 2 ≡ true

-- ---- dictionaries

-- an array of one text of one byte, and an array of two such texts
abbrev pub one_text : ℕ → Array
one_text byte = array 1 [] (binary_layout (0 ∷ 0 ∷ 0 ∷ 0 ∷ 1 ∷ 0 ∷ 0 ∷ 0 ∷ []) (byte ∷ []))

abbrev pub two_texts : Array
two_texts = array 2 [] (binary_layout (0 ∷ 0 ∷ 0 ∷ 0 ∷ 1 ∷ 0 ∷ 0 ∷ 0 ∷ 2 ∷ 0 ∷ 0 ∷ 0 ∷ []) (codes "ba"))

-- ["b", "a", "b", null]
abbrev pub Dictionaries : Type 0
Dictionaries =
    cells_in (encoded texts) (array 4 (7 ∷ []) (dictionary_layout (0 ∷ 1 ∷ 0 ∷ 0 ∷ []) (arrays_of (two_texts ∷ []))))
    ≡ text (codes "b") ∷ text (codes "a") ∷ text (codes "b") ∷ null ∷ []

-- one slot with this index, and a dictionary with these arrays
abbrev pub indexed : ℕ → List Array → Array
indexed index dictionary = array 1 [] (dictionary_layout (index ∷ []) (arrays_of dictionary))

-- "x", and then "y" in a batch of its own: if it replaces "x", index 0 is "y"; if it is appended, index 0 is "x" and index 1 is "y"
abbrev pub Replaced : Type 0
Replaced = cells_in (encoded texts) (indexed 0 (one_text 121 ∷ [])) ≡ text (codes "y") ∷ []

abbrev pub Appended : Type 0
Appended = cells_in (encoded texts) (indexed 0 (one_text 120 ∷ one_text 121 ∷ [])) ++ cells_in (encoded texts) (indexed 1 (one_text 120 ∷ one_text 121 ∷ [])) ≡ text (codes "x") ∷ text (codes "y") ∷ []

abbrev pub misses : Array → Bool
misses a = list_any names_no_entry (visible_in (columns_of (encoded texts ∷ [])) (arrays_of (a ∷ [])) 1)

-- before the first dictionary a null is fine, but an index names a missing entry; a negative index always does
abbrev pub NullBeforeDictionary : Type 0
NullBeforeDictionary = misses (array 1 (0 ∷ []) (dictionary_layout (0 ∷ []) no_array)) ≡ false

abbrev pub IndexBeforeDictionary : Type 0
IndexBeforeDictionary = misses (indexed 0 []) ≡ true

abbrev pub NegativeIndex : Type 0
NegativeIndex = misses (indexed 255 (array 256 [] null_layout ∷ [])) ≡ true

-- a slot whose index names a null entry is a null
abbrev pub NullEntry : Type 0
NullEntry = cells_in (encoded texts) (indexed 0 (array 1 (0 ∷ []) (binary_layout (replicate 8 0) []) ∷ [])) ≡ null ∷ []

-- ---- the array that cells are written as

-- the buffers of one column with these cells
abbrev pub written : Column → List Cell → List (List ℕ)
written c cells = buffers_of (columns_of (c ∷ [])) (arrays_of (built c cells ∷ []))

-- [[1, null], null, []]
abbrev pub WrittenLists : Type 0
WrittenLists =
    written (plain true (lists (plain true (integers 32 true)))) (items (cells_of (int 1 ∷ null ∷ [])) ∷ null ∷ items (cells_of []) ∷ [])
    ≡ (5 ∷ []) ∷ (replicate 4 0 ++ ((2 ∷ 0 ∷ 0 ∷ 0 ∷ []) ++ ((2 ∷ 0 ∷ 0 ∷ 0 ∷ []) ++ (2 ∷ 0 ∷ 0 ∷ 0 ∷ [])))) ∷ (1 ∷ []) ∷ (1 ∷ 0 ∷ 0 ∷ 0 ∷ 0 ∷ 0 ∷ 0 ∷ 0 ∷ []) ∷ []

-- [[1, 2], null]: the items of a null list are nulls
abbrev pub WrittenFixedLists : Type 0
WrittenFixedLists =
    written (plain true (fixed_lists 2 (plain true (integers 8 true)))) (items (cells_of (int 1 ∷ int 2 ∷ [])) ∷ null ∷ [])
    ≡ (1 ∷ []) ∷ (3 ∷ []) ∷ (1 ∷ 2 ∷ 0 ∷ 0 ∷ []) ∷ []

-- [null, [5]]
abbrev pub WrittenStructs : Type 0
WrittenStructs = written struct_column (null ∷ parts (cells_of (int 5 ∷ [])) ∷ []) ≡ (2 ∷ []) ∷ (2 ∷ []) ∷ (0 ∷ 0 ∷ 5 ∷ 0 ∷ []) ∷ []

-- ["b", "a", "b", null]: the indices, and the entries in order of first occurrence
abbrev pub WrittenDictionaries : Type 0
WrittenDictionaries = built (encoded texts) (text (codes "b") ∷ text (codes "a") ∷ text (codes "b") ∷ null ∷ []) ≡ array 4 (7 ∷ []) (dictionary_layout (0 ∷ 1 ∷ 0 ∷ 0 ∷ []) (arrays_of (two_texts ∷ [])))

-- a dictionary without entries still has one offset
abbrev pub WrittenWithoutEntries : Type 0
WrittenWithoutEntries =
    built (encoded texts) (null ∷ []) ≡ array 1 (0 ∷ []) (dictionary_layout (0 ∷ []) (arrays_of (array 0 [] (binary_layout (0 ∷ 0 ∷ 0 ∷ 0 ∷ []) []) ∷ [])))

-- the arrays that rows are written as read back, each dictionary by itself
abbrev pub IsReadAgain : List Column → List (List Cell) → Type 0
IsReadAgain columns rows =
    let arrays : Arrays = built_parts (columns_of columns) rows in
    let dictionaries : List (List Array) = map (λ t. t.array ∷ []) (dictionaries_of (columns_of columns) arrays) in
    arrays_from (columns_of columns) (nodes_of (columns_of columns) arrays) (buffers_of (columns_of columns) arrays) dictionaries ≡ arrays

-- [null, "b", [1, null]] and [[5], null, null]
abbrev pub ReadAgain : Type 0
ReadAgain =
    IsReadAgain (struct_column ∷ encoded texts ∷ plain true (lists (plain true (integers 32 true))) ∷ [])
    ((null ∷ text (codes "b") ∷ items (cells_of (int 1 ∷ null ∷ [])) ∷ []) ∷ (parts (cells_of (int 5 ∷ [])) ∷ null ∷ null ∷ []) ∷ [])
