-- What the buffers of columns hold once some rows were read.
use Rattle.std.specs.Prelude.{zero, suc, sum_by, ◌≡◌, ◌⊎◌, ◌+◌, ◌*◌, ◌/◌, ◌++◌, ℕ, ℤ, true, false, Bool, bytes_eq, List, [], ◌∷◌, length, map, get_or, Option, Some, None, position, replicate, Result, Ok, IfOk, IfSome, slice_get}
use Rattle.std.specs.Global.{Vec}
use Rattle.byteorder.specs.Endian.{little_bytes}
use Rattle.hex.specs.Hex.{decode_of}
use Rattle.std.specs.List.{flat_map, list_all}
use Rattle.arrow_schema.specs.Column.{Index, Kind, Column, booleans, integers, dates, timestamps, nulls, texts, large_texts, binaries, large_binaries, fixed_binaries, lists, large_lists, fixed_lists, structs, Columns, no_column, and_column, column, columns_of, list_of}
use Rattle.arrow_schema.specs.Parts.{index_of_column}
use Rattle.arrow_schema.specs.View.{bits_of}
use Rattle.arrow_schema.specs.declared.types.IntegerType.{IntegerType}
use Rattle.cells.specs.Cell.{Cell, null, number, cells_of}
use Rattle.cells.specs.Dictionary.{entries_of, entry_limit, has_limit, is_within, item_list, part_list}
use Rattle.cells.specs.Fit.{date_bits, fits_kind, in_range}
use Rattle.cells.specs.Nulls.{is_there}
use Rattle.cells.specs.Typed.{typed_boolean, typed_integer}
use Rattle.cells.specs.Weight.{kind_weight, parts_weight, weight as cell_weight}
use Rattle.columns.specs.Built.{contents_of, fixed_bytes, fixed_items, index_bytes, integer_bytes, is_set, list_offsets, offsets_of}
use Rattle.columns.specs.Offsets.{width_of}
use Rattle.columns.specs.declared.numbers.OffsetWidth.{OffsetWidth}
use Rattle.columns.specs.declared.numbers.OffsetWidth.TheVariants.{Four, Eight}
use Rattle.text_import.specs.Objects.{names_of, repeats}
use Rattle.text_import.specs.Flat.{cell_of_text, field_cell, number_cell}
use Rattle.text_import.specs.Records.{field_cells}
use Rattle.text_import.specs.declared.refusal.Refusal.{Refusal}
use Rattle.text_columns.specs.declared.coding.Coding.{Coding}
use Rattle.text_columns.specs.declared.column_values.ColumnValues.{ColumnValues}
use Rattle.text_columns.specs.declared.column_values.ColumnValues.TheVariants.{Nulls, Booleans, Integers, Texts, Binaries, FixedBinaries}
use Rattle.text_columns.specs.declared.builder.ColumnBuilder.{ColumnBuilder, ColumnBuilder-F, Flat, List', FixedList', Struct, Struct', out-ColumnBuilder}
use Rattle.text_columns.specs.declared.builder.ColumnBuilder.TheOpen as builders
use Rattle.text_columns.specs.declared.builder.Names.{Names}
use Rattle.text_columns.specs.declared.builder.ListOffsets.{ListOffsets}
use Rattle.text_columns.specs.declared.builder.Slots.{Slots}
use Rattle.civil_days.specs.Typed.{date_column, spelled_in}
use Rattle.civil_days.specs.declared.date_column.DateColumn.{DateColumn}
use Rattle.civil_days.specs.declared.date_form.DateForm.{DateForm}
use Rattle.civil_days.specs.declared.date_form.DateForm.TheVariants.{Numbers, Iso}
use Rattle.text_import.specs.FieldForm.{PlainFieldForm}

-- the bytes of an integer that fits the type come after others
abbrev pub AppendsInteger : (bits : ℕ) → (signed : Bool) → ℤ → List ℕ → List ℕ → Type 0
AppendsInteger bits signed n old new = (in_range bits signed n ≡ true) × (new ≡ old ++ integer_bytes (bits / 8) (number n))

-- the integer that a text spells, of a type
pub record AppendsSpelled (bits : ℕ) (signed : Bool) (text old new : List ℕ) : Type 0 where
  pub spelled : ℤ
  pub read : number_cell (integers bits signed) (typed_integer text) ≡ Ok (number spelled)
  pub bytes : new ≡ old ++ integer_bytes (bits / 8) (number spelled)

-- the number that the text of a date or a time states, of a type
pub record AppendsStated (dated : DateColumn) (bits : ℕ) (signed : Bool) (text old new : List ℕ) : Type 0 where
  pub stated : ℤ
  pub read : spelled_in dated text ≡ Ok stated
  pub appended : AppendsInteger bits signed stated old new

-- the integer that a text is in a column: a number, or a date or a time
abbrev pub AppendsRead : Option DateColumn → (bits : ℕ) → (signed : Bool) → (text old new : List ℕ) → Type 0
AppendsRead None bits signed text old new = AppendsSpelled bits signed text old new
AppendsRead (Some dated) bits signed text old new = AppendsStated dated bits signed text old new

-- the dates that texts are in this form, of integers that count them
abbrev pub dates_in : DateForm → Option DateColumn → Option DateColumn
dates_in Numbers counted = None
dates_in Iso counted = counted

-- the boolean that a text spells
pub record AppendsBoolean (text : List ℕ) (old new : List Bool) : Type 0 where
  pub spelled : Bool
  pub read : typed_boolean text ≡ Some spelled
  pub bits : new ≡ old ++ spelled ∷ []

-- the bytes that digits spell
pub record AppendsDigits (digits : List ℕ) (count : ℕ) (old new : List ℕ) : Type 0 where
  pub spelled : List ℕ
  pub read : decode_of digits ≡ Ok spelled
  pub size : length spelled ≡ count
  pub more : new ≡ old ++ spelled

-- the bytes that digits spell, and where they end
pub record AppendsBytes (width : OffsetWidth) (digits : List ℕ) (weight : ℕ) (offsets contents newer longer : List ℕ) : Type 0 where
  pub spelled : List ℕ
  pub read : decode_of digits ≡ Ok spelled
  pub weighs : weight ≡ 1 + length spelled
  pub more : longer ≡ contents ++ spelled
  pub end : newer ≡ offsets ++ little_bytes (width_of width) (length contents + length spelled)

-- the bytes that digits spell, `width` of them
pub record AppendsFixed (width : ℕ) (digits : List ℕ) (weight : ℕ) (old new : List ℕ) : Type 0 where
  pub spelled : List ℕ
  pub read : decode_of digits ≡ Ok spelled
  pub size : length spelled ≡ width
  pub weighs : weight ≡ 1 + width
  pub more : new ≡ old ++ spelled

-- values of this type
abbrev pub IsOf : Kind → ColumnValues → Type 0
IsOf nulls Nulls = Unit {0}
IsOf booleans (Booleans bits) = Unit {0}
IsOf (integers bits signed) (Integers integer counted bytes) = (bits_of integer.width ≡ bits) × (integer.signed ≡ signed) × (counted ≡ None)
IsOf (dates unit) (Integers integer counted bytes) = (bits_of integer.width ≡ date_bits unit) × (integer.signed ≡ true) × (counted ≡ date_column (dates unit))
IsOf (timestamps unit timezone) (Integers integer counted bytes) =
    (bits_of integer.width ≡ 64) × (integer.signed ≡ true) × (counted ≡ date_column (timestamps unit timezone))
IsOf texts (Texts width offsets contents) = width ≡ Four
IsOf large_texts (Texts width offsets contents) = width ≡ Eight
IsOf binaries (Binaries width offsets contents) = width ≡ Four
IsOf large_binaries (Binaries width offsets contents) = width ≡ Eight
IsOf (fixed_binaries size) (FixedBinaries width bytes) = width ≡ size
IsOf _ _ = ⊥

-- what a null of these values weighs
abbrev pub null_weight : ColumnValues → ℕ
null_weight (FixedBinaries width bytes) = 1 + width
null_weight _ = 1

-- values that are strings
abbrev pub has_texts : ColumnValues → Bool
has_texts (Texts width offsets contents) = true
has_texts _ = false

-- where the strings or binaries of cells end, and their bytes
abbrev pub HoldContents : OffsetWidth → List Cell → (offsets contents : List ℕ) → Type 0
HoldContents width cells offsets contents = (offsets ≡ offsets_of (width_of width) (map (λ c. length (contents_of c)) cells)) × (contents ≡ flat_map contents_of cells)

-- what these cells are written as
abbrev pub Holds : ColumnValues → List Cell → Type 0
Holds Nulls cells = Unit {0}
Holds (Booleans bits) cells = bits.items ≡ map is_set cells
Holds (Integers integer counted bytes) cells = bytes.items ≡ flat_map (integer_bytes (bits_of integer.width / 8)) cells
Holds (Texts width offsets contents) cells = HoldContents width cells offsets.items contents.items
Holds (Binaries width offsets contents) cells = HoldContents width cells offsets.items contents.items
Holds (FixedBinaries width bytes) cells = bytes.items ≡ flat_map (fixed_bytes width) cells

-- values of this type that hold these cells
pub record Takes (kind : Kind) (cells : List Cell) (values : ColumnValues) : Type 0 where
  pub kind_is : IsOf kind values
  pub holds : Holds values cells

-- a null comes after the cells
abbrev pub TakesNull : ColumnValues → ColumnValues → Type 0
TakesNull old new = (kind : Kind) (cells : List Cell) → Takes kind cells old → Takes kind (cells ++ null ∷ []) new

-- the cell of a text comes after the cells of a type
pub record HasTaken (date_form : DateForm) (kind : Kind) (text : List ℕ) (weight : ℕ) (cells : List Cell) (new : ColumnValues) : Type 0 where
  pub taken : Cell
  pub read : cell_of_text date_form kind text ≡ Ok taken
  pub there : is_there taken ≡ true
  pub weighs : kind_weight kind taken ≡ weight
  pub takes : Takes kind (cells ++ taken ∷ []) new

abbrev pub TakesText : DateForm → List ℕ → ℕ → ColumnValues → ColumnValues → Type 0
TakesText date_form text weight old new = (kind : Kind) (cells : List Cell) → Takes kind cells old → HasTaken date_form kind text weight cells new

-- the cell of each text that spells the number, if a call returns a weight
abbrev pub TakesSpelled : {E : Type 0} → DateForm → ℤ → Result (Option ℕ) E → ColumnValues → ColumnValues → Type 0
TakesSpelled date_form n result old new = (text : List ℕ) → typed_integer text ≡ Some n → IfOk result (λ taken. IfSome taken (λ weight. TakesText date_form text weight old new))

-- ---- columns with a dictionary: entries are looked up by their bytes

-- the byte of a boolean
abbrev pub bit_key : Bool → List ℕ
bit_key true = 1 ∷ []
bit_key false = 0 ∷ []

abbrev pub first_key : List Bool → List ℕ
first_key [] = bit_key false
first_key (b ∷ bits) = bit_key b

-- the bytes of the one cell that these values are
abbrev pub value_bytes : ColumnValues → List ℕ
value_bytes Nulls = []
value_bytes (Booleans bits) = first_key bits.items
value_bytes (Integers integer counted bytes) = bytes.items
value_bytes (Texts width offsets contents) = contents.items
value_bytes (Binaries width offsets contents) = contents.items
value_bytes (FixedBinaries width bytes) = bytes.items

-- the bytes of a cell of a type
abbrev pub key_of : Kind → Cell → List ℕ
key_of booleans c = bit_key (is_set c)
key_of (integers bits signed) c = integer_bytes (bits / 8) c
key_of (dates unit) c = integer_bytes (date_bits unit / 8) c
key_of (timestamps unit timezone) c = integer_bytes 8 c
key_of (fixed_binaries size) c = fixed_bytes size c
key_of _ c = contents_of c

abbrev pub key_list : List (Vec ℕ) → List (List ℕ)
key_list keys = map (λ k. k.items) keys

-- the same type, without cells
abbrev pub Clears : ColumnValues → ColumnValues → Type 0
Clears old new = (kind : Kind) → IsOf kind old → Takes kind [] new

-- the cell with the bytes `key` comes after the cells
abbrev pub TakesKey : List ℕ → ColumnValues → ColumnValues → Type 0
TakesKey key old new = (kind : Kind) (cells : List Cell) (c : Cell) → Takes kind cells old → key ≡ key_of kind c → Takes kind (cells ++ c ∷ []) new

-- the cells of a column with a dictionary: its entries, the bytes of each, and their indices
pub record IsCoded (index : Index) (kind : Kind) (cells : List Cell) (values : ColumnValues) (d : Coding) : Type 0 where
  pub bits : bits_of d.index.width ≡ index.bits
  pub signed : d.index.signed ≡ index.signed
  pub indices : d.indices.items ≡ flat_map (index_bytes index (entries_of cells)) cells
  pub entries : Takes kind (entries_of cells) values
  pub fit : list_all (fits_kind kind) (entries_of cells) ≡ true
  pub keys : key_list d.keys.keys ≡ map (key_of kind) (entries_of cells)
  pub few : is_within (entry_limit index) (length (entries_of cells)) ≡ true
  pub one : IsOf kind d.one

-- the entry with the bytes `key` was at the place
pub record StoodAt (key : List ℕ) (place : ℕ) (keys keys2 : List (Vec ℕ)) (old new : ColumnValues) : Type 0 where
  pub found : position (bytes_eq key) (key_list keys) ≡ Some place
  pub same : keys2 ≡ keys
  pub still : new ≡ old

abbrev pub index_type : IntegerType → Index
index_type integer = record { bits = bits_of integer.width; signed = integer.signed }

-- or it comes after all entries, and an index can name it
pub record ComesLast (integer : IntegerType) (key : List ℕ) (place : ℕ) (keys keys2 : List (Vec ℕ)) (old new : ColumnValues) : Type 0 where
  pub missing : position (bytes_eq key) (key_list keys) ≡ None
  pub last : place ≡ length keys
  pub room : is_within (entry_limit (index_type integer)) (place + 1) ≡ true
  pub more : key_list keys2 ≡ key_list keys ++ key ∷ []
  pub takes : TakesKey key old new

abbrev pub Places : IntegerType → List ℕ → ℕ → List (Vec ℕ) → List (Vec ℕ) → ColumnValues → ColumnValues → Type 0
Places integer key place keys keys2 old new = StoodAt key place keys keys2 old new ⊎ ComesLast integer key place keys keys2 old new

-- the index of the entry comes after others
pub record PushesPlace (integer : IntegerType) (key indices indices2 : List ℕ) (keys keys2 : List (Vec ℕ)) (old new : ColumnValues) : Type 0 where
  pub place : ℕ
  pub placed : Places integer key place keys keys2 old new
  pub more : indices2 ≡ indices ++ little_bytes (bits_of integer.width / 8) place

-- the one value comes after the cells
abbrev pub Codes : Coding → ColumnValues → Coding → ColumnValues → Type 0
Codes old values new values2 =
    (index : Index) (kind : Kind) (cells : List Cell) (c : Cell) → IsCoded index kind cells values old → Takes kind (c ∷ []) old.one → fits_kind kind c ≡ true
    → IsCoded index kind (cells ++ c ∷ []) values2 new

-- ---- with a dictionary or without

abbrev pub HoldsCells : Option Index → Kind → List Cell → ColumnValues → Option Coding → Type 0
HoldsCells None kind cells values None = Takes kind cells values
HoldsCells (Some index) kind cells values (Some d) = IsCoded index kind cells values d
HoldsCells None kind cells values (Some d) = ⊥
HoldsCells (Some index) kind cells values None = ⊥

-- the cell that is stated comes after the cells
pub record HasCell (dictionary : Option Index) (kind : Kind) (stated : Result Cell Refusal) (weight : ℕ) (cells : List Cell) (values : ColumnValues) (coding : Option Coding) : Type 0 where
  pub taken : Cell
  pub read : stated ≡ Ok taken
  pub there : is_there taken ≡ true
  pub weighs : kind_weight kind taken ≡ weight
  pub holds : HoldsCells dictionary kind (cells ++ taken ∷ []) values coding

abbrev pub TakesNullCell : ColumnValues → Option Coding → ColumnValues → Option Coding → Type 0
TakesNullCell old o new o2 =
    (dictionary : Option Index) (kind : Kind) (cells : List Cell) → HoldsCells dictionary kind cells old o → HoldsCells dictionary kind (cells ++ null ∷ []) new o2

abbrev pub TakesCodedText : DateForm → List ℕ → ℕ → Coding → ColumnValues → Coding → ColumnValues → Type 0
TakesCodedText date_form text weight old values new values2 =
    (index : Index) (kind : Kind) (cells : List Cell) → IsCoded index kind cells values old → HasCell (Some index) kind (cell_of_text date_form kind text) weight cells values2 (Some new)

abbrev pub TakesField : DateForm → List ℕ → ℕ → ColumnValues → Option Coding → ColumnValues → Option Coding → Type 0
TakesField date_form text weight old o new o2 =
    (dictionary : Option Index) (kind : Kind) (cells : List Cell) → HoldsCells dictionary kind cells old o → HasCell dictionary kind (cell_of_text date_form kind text) weight cells new o2

-- ---- columns with parts: their slots, and the cells below them

-- which of these cells are there, and what a null weighs
pub record KeepsSlots (nullable : Bool) (dictionary : Option Index) (kind : Kind) (cells : List Cell) (s : Slots) : Type 0 where
  pub same : s.nullable ≡ nullable
  pub valid : s.valid.items ≡ map is_there cells
  pub null_weighs : kind_weight kind null ≡ s.null_weight
  pub plain : dictionary ≡ None

-- no row fills the dictionary of a column below another
abbrev pub IsUnlimited : Column → Type 0
IsUnlimited c = has_limit (index_of_column c) ≡ false

-- where lists end among the items of all
pub record KeepsOffsets (width : OffsetWidth) (cells : List Cell) (o : ListOffsets) : Type 0 where
  pub width_is : o.width ≡ width
  pub ends : o.offsets.items ≡ list_offsets (width_of width) cells
  pub count : o.count ≡ length (flat_map item_list cells)

pub record HoldsLists (width : OffsetWidth) (item : Column) (keeps : List Cell → ColumnBuilder → Type 0) (cells : List Cell) (offsets : ListOffsets) (items : ColumnBuilder) : Type 0 where
  pub ends : KeepsOffsets width cells offsets
  pub unlimited : IsUnlimited item
  pub below : keeps (flat_map item_list cells) items

abbrev pub KeepsLists : OffsetWidth → Column → (List Cell → ColumnBuilder → Type 0) → List Cell → ColumnBuilder → Type 0
KeepsLists width item keeps cells (List' slots offsets p items) = HoldsLists width item keeps cells offsets items
KeepsLists width item keeps cells _ = ⊥

pub record HoldsFixedLists (size : ℕ) (item : Column) (keeps : List Cell → ColumnBuilder → Type 0) (cells : List Cell) (own : ℕ) (items : ColumnBuilder) : Type 0 where
  pub size_is : own ≡ size
  pub unlimited : IsUnlimited item
  pub below : keeps (flat_map (fixed_items size) cells) items

abbrev pub KeepsFixedLists : ℕ → Column → (List Cell → ColumnBuilder → Type 0) → List Cell → ColumnBuilder → Type 0
KeepsFixedLists size item keeps cells (FixedList' slots own p items) = HoldsFixedLists size item keeps cells own items
KeepsFixedLists size item keeps cells _ = ⊥

-- ---- the cells at a place of rows

-- an absent one is null
abbrev pub column_at : ℕ → List (List Cell) → List Cell
column_at j rows = map (λ row. get_or row j null) rows

abbrev pub AreUnlimited : List Column → Type 0
AreUnlimited cs = (j : ℕ) (c : Column) → slice_get cs j ≡ Some c → IsUnlimited c

-- the fields of structs: each holds the parts at its place
pub record HoldsStructs (columns : Columns) (keeps : ℕ → List Cell → ColumnBuilder → Type 0) (cells : List Cell) (names : List (List ℕ)) (fields : List ColumnBuilder) : Type 0 where
  pub names_are : names ≡ names_of columns
  pub distinct : repeats (names_of columns) ≡ false
  pub unlimited : AreUnlimited (list_of columns)
  pub count : length fields ≡ length (list_of columns)
  pub each : (j : ℕ) (b : ColumnBuilder) → slice_get fields j ≡ Some b → keeps j (column_at j (map part_list cells)) b

abbrev pub HoldsFields : Columns → (ℕ → List Cell → ColumnBuilder → Type 0) → List Cell → ColumnBuilder-F ColumnBuilder → Type 0
HoldsFields columns keeps cells (builders.Struct slots names fields) = HoldsStructs columns keeps cells (key_list names.names.keys) fields.items
HoldsFields columns keeps cells _ = ⊥

abbrev pub KeepsStructs : Columns → (ℕ → List Cell → ColumnBuilder → Type 0) → List Cell → ColumnBuilder → Type 0
KeepsStructs columns keeps cells b = HoldsFields columns keeps cells (out-ColumnBuilder b)

abbrev pub at_place : ℕ → Type 0 → (ℕ → Type 0) → Type 0
at_place zero first others = first
at_place (suc j) first others = others j

pub record HoldsSlots (nullable : Bool) (dictionary : Option Index) (kind : Kind) (keeps : List Cell → ColumnBuilder → Type 0) (cells : List Cell) (s : Slots) (b : ColumnBuilder) : Type 0 where
  pub slots : KeepsSlots nullable dictionary kind cells s
  pub parts : keeps cells b

-- the slots and values of cells; `keeps` is about what is below those of a type with parts
abbrev pub KeepsAs : Bool → Option Index → Kind → (List Cell → ColumnBuilder → Type 0) → List Cell → ColumnBuilder → Type 0
KeepsAs nullable dictionary kind keeps cells (Flat b) = (b.nullable ≡ nullable) × (b.valid.items ≡ map is_there cells) × HoldsCells dictionary kind cells b.values b.coding
KeepsAs nullable dictionary kind keeps cells (List' slots offsets p items) = HoldsSlots nullable dictionary kind keeps cells slots (List' slots offsets p items)
KeepsAs nullable dictionary kind keeps cells (FixedList' slots size p items) = HoldsSlots nullable dictionary kind keeps cells slots (FixedList' slots size p items)
KeepsAs nullable dictionary kind keeps cells (Struct' slots names v row) = HoldsSlots nullable dictionary kind keeps cells slots (Struct' slots names v row)

-- the buffers of a column that hold these cells
abbrev mutual
  pub Keeps : Column → List Cell → ColumnBuilder → Type 0
  Keeps (column name nullable kind dictionary pairs) = KeepsAs nullable dictionary kind (KeepsBelow kind)

  pub KeepsBelow : Kind → List Cell → ColumnBuilder → Type 0
  KeepsBelow (lists item) = KeepsLists Four item (Keeps item)
  KeepsBelow (large_lists item) = KeepsLists Eight item (Keeps item)
  KeepsBelow (fixed_lists size item) = KeepsFixedLists size item (Keeps item)
  KeepsBelow (structs columns) = KeepsStructs columns (KeepsAt columns)
  KeepsBelow _ = λ cells b. ⊥

  -- the column at a place
  pub KeepsAt : Columns → ℕ → List Cell → ColumnBuilder → Type 0
  KeepsAt no_column = λ j cells b. ⊥
  KeepsAt (and_column c cs) = λ j cells b. at_place j (Keeps c cells b) (λ i. KeepsAt cs i cells b)

-- the buffers of columns that hold these rows
pub record KeepAll (cs : List Column) (rows : List (List Cell)) (bs : List ColumnBuilder) : Type 0 where
  pub count : length bs ≡ length cs
  pub each : (j : ℕ) (c : Column) (b : ColumnBuilder) → slice_get cs j ≡ Some c → slice_get bs j ≡ Some b → Keeps c (column_at j rows) b

-- `count` nulls come after the cells
abbrev pub AppendsNulls : ℕ → ColumnBuilder → ColumnBuilder → Type 0
AppendsNulls count old new = (c : Column) (cells : List Cell) → Keeps c cells old → Keeps c (cells ++ replicate count null) new

abbrev pub is_nullable : ColumnBuilder → Bool
is_nullable (Flat b) = b.nullable
is_nullable (List' slots offsets p items) = slots.nullable
is_nullable (FixedList' slots size p items) = slots.nullable
is_nullable (Struct' slots names v row) = slots.nullable

-- what a null of a column weighs
abbrev pub null_weight_of : ColumnBuilder → ℕ
null_weight_of (Flat b) = null_weight b.values
null_weight_of (List' slots offsets p items) = slots.null_weight
null_weight_of (FixedList' slots size p items) = slots.null_weight
null_weight_of (Struct' slots names v row) = slots.null_weight

-- `count` nulls come after the cells of each column
pub record AllAppendNulls (count : ℕ) (old new : List ColumnBuilder) : Type 0 where
  pub same : length new ≡ length old
  pub each : (j : ℕ) (b b2 : ColumnBuilder) → slice_get old j ≡ Some b → slice_get new j ≡ Some b2 → AppendsNulls count b b2

-- a cell that is not null comes after the others
pub record PushesThere (old new : Slots) : Type 0 where
  pub nullable : new.nullable ≡ old.nullable
  pub null_weight : new.null_weight ≡ old.null_weight
  pub valid : new.valid.items ≡ old.valid.items ++ true ∷ []

-- a list of `items` items ends after the others
pub record PushesEnd (items : ℕ) (old new : ListOffsets) : Type 0 where
  pub width : new.width ≡ old.width
  pub count : new.count ≡ old.count + items
  pub offsets : new.offsets.items ≡ old.offsets.items ++ little_bytes (width_of old.width) (old.count + items)

-- `many` lists without items end after the others
abbrev pub PushesEmpty : ℕ → ListOffsets → ListOffsets → Type 0
PushesEmpty many old new = (width : OffsetWidth) (cells : List Cell) → KeepsOffsets width cells old → KeepsOffsets width (cells ++ replicate many null) new

-- no list yet, and no item
pub record StartsLists (nullable : Bool) (width : OffsetWidth) (item : Column) (b : ColumnBuilder) : Type 0 where
  pub slots : Slots
  pub offsets : ListOffsets
  pub place : _
  pub items : ColumnBuilder
  pub is : b ≡ List' slots offsets place items
  pub same : slots.nullable ≡ nullable
  pub none : slots.valid.items ≡ []
  pub null_weighs : slots.null_weight ≡ 1
  pub ends : KeepsOffsets width [] offsets
  pub unlimited : IsUnlimited item
  pub below : Keeps item [] items

pub record StartsFixedLists (nullable : Bool) (size : ℕ) (item : Column) (b : ColumnBuilder) : Type 0 where
  pub slots : Slots
  pub place : _
  pub items : ColumnBuilder
  pub is : b ≡ FixedList' slots size place items
  pub same : slots.nullable ≡ nullable
  pub none : slots.valid.items ≡ []
  pub null_weighs : slots.null_weight ≡ 1 + size * cell_weight item null
  pub unlimited : IsUnlimited item
  pub below : Keeps item [] items

pub record StartsStructs (nullable : Bool) (columns : List Column) (b : ColumnBuilder) : Type 0 where
  pub slots : Slots
  pub names : Names
  pub fields : Vec ColumnBuilder
  pub is : b ≡ Struct slots names fields
  pub same : slots.nullable ≡ nullable
  pub none : slots.valid.items ≡ []
  pub null_weighs : slots.null_weight ≡ 1 + sum_by null_weight_of fields.items
  pub names_are : key_list names.names.keys ≡ names_of (columns_of columns)
  pub distinct : repeats (names_of (columns_of columns)) ≡ false
  pub unlimited : AreUnlimited columns
  pub keeps : KeepAll columns [] fields.items

-- no text yet, of offsets of this width
abbrev pub StartsTexts : OffsetWidth → ColumnValues → Type 0
StartsTexts width values = (offsets : Vec ℕ) × (contents : Vec ℕ) × (values ≡ Texts width offsets contents) × HoldContents width [] offsets.items contents.items

-- and no binary
abbrev pub StartsBinaries : OffsetWidth → ColumnValues → Type 0
StartsBinaries width values = (offsets : Vec ℕ) × (contents : Vec ℕ) × (values ≡ Binaries width offsets contents) × HoldContents width [] offsets.items contents.items

-- the cell of a field comes after the cells of a column
pub record HasKept (c : Column) (form : PlainFieldForm) (text : List ℕ) (weight : ℕ) (cells : List Cell) (new : ColumnBuilder) : Type 0 where
  pub kept : Cell
  pub read : field_cell form c text ≡ Ok kept
  pub weighs : cell_weight c kept ≡ weight
  pub keeps : Keeps c (cells ++ kept ∷ []) new

abbrev pub KeepsField : (form : PlainFieldForm) (text : List ℕ) → ℕ → ColumnBuilder → ColumnBuilder → Type 0
KeepsField form text weight old new = (c : Column) (cells : List Cell) → Keeps c cells old → HasKept c form text weight cells new

-- ---- rows

-- the cells of fields come after the rows
pub record HasRow (cs : List Column) (form : PlainFieldForm) (ts : List (List ℕ)) (weight : ℕ) (rows : List (List Cell)) (new : List ColumnBuilder) : Type 0 where
  pub row : List Cell
  pub read : field_cells form cs ts ≡ Ok row
  pub weighs : 1 + parts_weight (columns_of cs) (cells_of row) ≡ weight
  pub keeps : KeepAll cs (rows ++ row ∷ []) new

abbrev pub KeepsFields : (form : PlainFieldForm) → List (List ℕ) → ℕ → List ColumnBuilder → List ColumnBuilder → Type 0
KeepsFields form ts weight old new = (cs : List Column) (rows : List (List Cell)) → KeepAll cs rows old → HasRow cs form ts weight rows new

-- there are as many fields as columns
abbrev pub KeepsRecord : (form : PlainFieldForm) → List (List ℕ) → ℕ → List ColumnBuilder → List ColumnBuilder → Type 0
KeepsRecord form ts weight old new = (length ts ≡ length old) × KeepsFields form ts weight old new
