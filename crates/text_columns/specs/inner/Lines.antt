-- What the tokens and lines of JSON leave in the buffers of columns.
use Rattle.std.specs.Prelude.{◌≡◌, ◌+◌, ◌/◌, ◌++◌, ℕ, ℤ, Bool, true, false, List, [], ◌∷◌, length, set, slice_get, Option, Some, None, option_map, option_and_then, Ok}
use Rattle.std.specs.Str.{is_utf8}
use Rattle.byteorder.specs.Endian.{little_bytes}
use Rattle.fast_float.specs.Text.{Parts}
use Rattle.json.specs.Token.{Token}
use Rattle.json.specs.Token as tokens
use Rattle.json.specs.Json.{items, members, value}
use Rattle.serde_json.specs.Data.{Data, null, boolean, number, string, array, object, Items, Members, no_members}
use Rattle.serde_json.specs.Find.{as_integer, get_member}
use Rattle.serde_json.specs.Read.{converted, number_from, number_of, of_items, of_json, of_members}
use Rattle.arrow_schema.specs.Column.{Index, Kind, Column, columns_of, integers}
use Rattle.arrow_schema.specs.Parts.{is_nullable_column, name_of_column}
use Rattle.arrow_schema.specs.View.{bits_of}
use Rattle.arrow_schema.specs.declared.types.IntegerType.{IntegerType}
use Rattle.cells.specs.Cell as cells
use Rattle.cells.specs.Cell.{Cell, cells_of}
use Rattle.cells.specs.Nulls.{is_there}
use Rattle.cells.specs.Weight.{kind_weight, parts_weight, sum_of, weight as cell_weight}
use Rattle.columns.specs.Built.{integer_bytes}
use Rattle.columns.specs.Offsets.{width_of}
use Rattle.columns.specs.declared.numbers.OffsetWidth.{OffsetWidth}
use Rattle.text_import.specs.Flat.{number_cell}
use Rattle.text_import.specs.Objects.{cell_in, cells_by_name, cells_by_place, cells_in, each_item, item_count, has_unknown, keys_of, kind_in, line_value, member_in, names_of, repeats}
use Rattle.text_columns.specs.declared.coding.Coding.{Coding}
use Rattle.text_columns.specs.declared.column_values.ColumnValues.{ColumnValues}
use Rattle.text_columns.specs.declared.builder.ColumnBuilder.{ColumnBuilder}
use Rattle.text_columns.specs.declared.builder.ListOffsets.{ListOffsets}
use Rattle.text_columns.specs.declared.builder.Slots.{Slots}
use Rattle.text_columns.specs.declared.next.ItemsTaken.{ItemsTaken}
use Rattle.text_columns.specs.inner.Kept.{AppendsBytes, AppendsFixed, AppendsStated, HasCell, HoldsCells, IsCoded, KeepAll, Keeps, PushesEnd, PushesThere, Takes, column_at}
use Rattle.civil_days.specs.declared.date_column.DateColumn.{DateColumn}
use Rattle.civil_days.specs.declared.date_form.DateForm.{DateForm}

-- ---- one value

-- the integer that digits are, after a sign or not
abbrev pub integer_after : Bool → Parts → Option ℤ
integer_after sign p = option_and_then as_integer (number_from sign p)

-- the integer that a number is
abbrev pub integer_in : List ℕ → Option ℤ
integer_in t = option_and_then as_integer (number_of t)

-- the value that a token is by itself
abbrev pub token_data : Token → Option Data
token_data tokens.begin_object = None
token_data tokens.end_object = None
token_data tokens.begin_array = None
token_data tokens.end_array = None
token_data (tokens.key s) = None
token_data (tokens.string s) = Some (string s)
token_data (tokens.number s) = option_map number (number_of s)
token_data (tokens.boolean b) = Some (boolean b)
token_data tokens.null = Some null
token_data tokens.bad = None

-- a token is a boolean, which comes after others
pub record AppendsBit (t : Token) (old new : List Bool) : Type 0 where
  pub bit : Bool
  pub is : t ≡ tokens.boolean bit
  pub bits : new ≡ old ++ bit ∷ []

-- the integer that a number is comes after others, of a type
pub record TakesNumber (integer : IntegerType) (text : List ℕ) (old new : List ℕ) : Type 0 where
  pub spelled : ℤ
  pub read : integer_in text ≡ Some spelled
  pub fits : number_cell (integers (bits_of integer.width) integer.signed) (Some spelled) ≡ Ok (cells.number spelled)
  pub bytes : new ≡ old ++ integer_bytes (bits_of integer.width / 8) (cells.number spelled)

-- a token is such a number
pub record AppendsNumber (integer : IntegerType) (t : Token) (old new : List ℕ) : Type 0 where
  pub text : List ℕ
  pub is : t ≡ tokens.number text
  pub takes : TakesNumber integer text old new

-- a token is the text of a date or a time
pub record AppendsDate (dated : DateColumn) (integer : IntegerType) (t : Token) (old new : List ℕ) : Type 0 where
  pub text : List ℕ
  pub is : t ≡ tokens.string text
  pub takes : AppendsStated dated (bits_of integer.width) integer.signed text old new

-- the integer that a token is in a column: a number, or a date or a time
abbrev pub AppendsCounted : Option DateColumn → IntegerType → Token → (old new : List ℕ) → Type 0
AppendsCounted None integer t old new = AppendsNumber integer t old new
AppendsCounted (Some dated) integer t old new = AppendsDate dated integer t old new

-- a token is a text, which comes after others
pub record AppendsString (width : OffsetWidth) (t : Token) (weight : ℕ) (offsets contents newer longer : List ℕ) : Type 0 where
  pub text : List ℕ
  pub is : t ≡ tokens.string text
  pub weighs : weight ≡ 1 + length text
  pub utf8 : is_utf8 text ≡ true
  pub more : longer ≡ contents ++ text
  pub end : newer ≡ offsets ++ little_bytes (width_of width) (length contents + length text)

-- a token is digits, whose bytes come after others
pub record AppendsBinary (width : OffsetWidth) (t : Token) (weight : ℕ) (offsets contents newer longer : List ℕ) : Type 0 where
  pub digits : List ℕ
  pub is : t ≡ tokens.string digits
  pub takes : AppendsBytes width digits weight offsets contents newer longer

pub record AppendsFixedBinary (width : ℕ) (t : Token) (weight : ℕ) (old new : List ℕ) : Type 0 where
  pub digits : List ℕ
  pub is : t ≡ tokens.string digits
  pub takes : AppendsFixed width digits weight old new

-- the cell of a value comes after the cells of a type
pub record HasTakenValue (date_form : DateForm) (kind : Kind) (d : Data) (weight : ℕ) (so : List Cell) (new : ColumnValues) : Type 0 where
  pub taken : Cell
  pub read : kind_in date_form kind d ≡ Ok taken
  pub there : is_there taken ≡ true
  pub weighs : kind_weight kind taken ≡ weight
  pub takes : Takes kind (so ++ taken ∷ []) new

abbrev pub TakesValue : DateForm → Data → ℕ → ColumnValues → ColumnValues → Type 0
TakesValue date_form d weight old new = (kind : Kind) (so : List Cell) → Takes kind so old → HasTakenValue date_form kind d weight so new

-- a token that is a value, and no null
pub record TakesToken (date_form : DateForm) (t : Token) (weight : ℕ) (old new : ColumnValues) : Type 0 where
  pub data_is : Data
  pub read : token_data t ≡ Some data_is
  pub there : data_is ≡ null → ⊥
  pub takes : TakesValue date_form data_is weight old new

-- the cell of a token that is no null comes after those of a column, with a dictionary or without
pub record TakesCellToken (date_form : DateForm) (t : Token) (weight : ℕ) (old : ColumnValues) (o : Option Coding) (new : ColumnValues) (o2 : Option Coding) : Type 0 where
  pub data_is : Data
  pub read : token_data t ≡ Some data_is
  pub there : data_is ≡ null → ⊥
  pub takes : (dictionary : Option Index) (kind : Kind) (so : List Cell) → HoldsCells dictionary kind so old o → HasCell dictionary kind (kind_in date_form kind data_is) weight so new o2

pub record TakesCodedToken (date_form : DateForm) (t : Token) (weight : ℕ) (old : Coding) (values : ColumnValues) (new : Coding) (values2 : ColumnValues) : Type 0 where
  pub data_is : Data
  pub read : token_data t ≡ Some data_is
  pub there : data_is ≡ null → ⊥
  pub takes : (index : Index) (kind : Kind) (so : List Cell) → IsCoded index kind so values old → HasCell (Some index) kind (kind_in date_form kind data_is) weight so values2 (Some new)

-- the cell of a value comes after the cells of a column
pub record HasKeptValue (date_form : DateForm) (c : Column) (d : Data) (weight : ℕ) (so : List Cell) (new : ColumnBuilder) : Type 0 where
  pub kept : Cell
  pub read : cell_in date_form c d ≡ Ok kept
  pub weighs : cell_weight c kept ≡ weight
  pub keeps : Keeps c (so ++ kept ∷ []) new

abbrev pub KeepsValue : DateForm → Data → ℕ → ColumnBuilder → ColumnBuilder → Type 0
KeepsValue date_form d weight old new = (c : Column) (so : List Cell) → Keeps c so old → HasKeptValue date_form c d weight so new

pub record KeepsToken (date_form : DateForm) (t : Token) (weight : ℕ) (old new : ColumnBuilder) : Type 0 where
  pub data_is : Data
  pub read : token_data t ≡ Some data_is
  pub keeps : KeepsValue date_form data_is weight old new

-- the value that a reader is at, which nests no deeper than `depth`, comes after the cells of a column
pub record KeepsNext (date_form : DateForm) (depth : ℕ) (old new : List Token) (weight : ℕ) (b b2 : ColumnBuilder) : Type 0 where
  pub data_is : Data
  pub read : converted of_json (value depth old) ≡ Some (data_is, new)
  pub keeps : KeepsValue date_form data_is weight b b2

-- a null comes after the cells of a column that has nulls
abbrev pub KeepsNull : ℕ → ColumnBuilder → ColumnBuilder → Type 0
KeepsNull weight old new = (c : Column) (so : List Cell) → Keeps c so old → (is_nullable_column c ≡ true) × (cell_weight c cells.null ≡ weight) × Keeps c (so ++ cells.null ∷ []) new

-- ---- the items of a list

-- the cells of items come after those of a column; the weight is that of their list
pub record HasItems (date_form : DateForm) (c : Column) (found : Items) (weight : ℕ) (so : List Cell) (new : ColumnBuilder) : Type 0 where
  pub kept : List Cell
  pub many : length kept ≡ item_count found
  pub read : each_item (cell_in date_form c) found ≡ Ok (cells_of kept)
  pub weighs : 1 + sum_of (cell_weight c) (cells_of kept) ≡ weight
  pub keeps : Keeps c (so ++ kept) new

-- all items of an array, which end with its bracket
pub record KeepsListItems (date_form : DateForm) (depth : ℕ) (old new : List Token) (taken : ItemsTaken) (b b2 : ColumnBuilder) : Type 0 where
  pub found : Items
  pub read : converted of_items (items (value depth) (length old) old) ≡ Some (found, new)
  pub count : item_count found ≡ taken.count
  pub keeps : (c : Column) (so : List Cell) → Keeps c so b → HasItems date_form c found taken.weight so b2

-- the slot of a list comes after the others, once its items were taken
pub record EndsList (taken : Option ItemsTaken) (weight : ℕ) (slots slots2 : Slots) (offsets offsets2 : ListOffsets) : Type 0 where
  pub own : ItemsTaken
  pub is : taken ≡ Some own
  pub weighs : own.weight ≡ weight
  pub slot : PushesThere slots slots2
  pub ends : PushesEnd own.count offsets offsets2

pub record EndsFixedList (taken : Option ItemsTaken) (size weight : ℕ) (slots slots2 : Slots) : Type 0 where
  pub own : ItemsTaken
  pub is : taken ≡ Some own
  pub weighs : own.weight ≡ weight
  pub many : own.count ≡ size
  pub slot : PushesThere slots slots2

-- the array that a reader is in comes after the cells of a column
pub record KeepsArray (date_form : DateForm) (depth : ℕ) (old new : List Token) (weight : ℕ) (b b2 : ColumnBuilder) : Type 0 where
  pub found : Items
  pub read : converted of_items (items (value depth) (length old) old) ≡ Some (found, new)
  pub keeps : KeepsValue date_form (array found) weight b b2

-- the object that a reader is in comes after the cells of a column
pub record KeepsObject (date_form : DateForm) (depth : ℕ) (old new : List Token) (weight : ℕ) (b b2 : ColumnBuilder) : Type 0 where
  pub found : Members
  pub read : converted (λ ms. of_members ms no_members) (members (value depth) (length old) old) ≡ Some (found, new)
  pub keeps : KeepsValue date_form (object found) weight b b2

-- the slot of a struct comes after the others, once its cells were taken
pub record EndsStruct (taken : Option ℕ) (weight : ℕ) (slots slots2 : Slots) : Type 0 where
  pub is : taken ≡ Some weight
  pub slot : PushesThere slots slots2

-- ---- the members of an object

-- the value that a reader is at comes after the cells of the column at a place
pub record PushesMember (date_form : DateForm) (depth place : ℕ) (old new : List Token) (weights weights2 : List (Option ℕ)) (bs bs2 : List ColumnBuilder) : Type 0 where
  pub weight : ℕ
  pub before : ColumnBuilder
  pub behind : ColumnBuilder
  pub free : slice_get weights place ≡ Some None
  pub here : slice_get bs place ≡ Some before
  pub keeps : KeepsNext date_form depth old new weight before behind
  pub kept : weights2 ≡ set weights place (Some weight)
  pub pushed : bs2 ≡ set bs place behind

-- what a column holds once some members of an object were read: also the cell of its member, if there was one
abbrev pub HoldsMember : DateForm → Column → List Cell → Option Data → Option ℕ → ColumnBuilder → Type 0
HoldsMember date_form c so None None b = Keeps c so b
HoldsMember date_form c so (Some d) (Some weight) b = HasKeptValue date_form c d weight so b
HoldsMember date_form c so None (Some weight) b = ⊥
HoldsMember date_form c so (Some d) None b = ⊥

pub record HoldMembers (date_form : DateForm) (cs : List Column) (rows : List (List Cell)) (found : Members) (weights : List (Option ℕ)) (bs : List ColumnBuilder) : Type 0 where
  pub count : length bs ≡ length cs
  pub counted : length weights ≡ length cs
  pub each : (j : ℕ) (c : Column) (b : ColumnBuilder) (w : Option ℕ) → slice_get cs j ≡ Some c → slice_get bs j ≡ Some b → slice_get weights j ≡ Some w
      → HoldsMember date_form c (column_at j rows) (get_member (name_of_column c) found) w b

-- all members of an object, which end with its brace, with values that nest no deeper than `depth`
pub record PushesMembers (date_form : DateForm) (depth : ℕ) (names : List (List ℕ)) (old new : List Token) (weights weights2 : List (Option ℕ)) (bs bs2 : List ColumnBuilder) : Type 0 where
  pub found : Members
  pub read : converted (λ ms. of_members ms no_members) (members (value depth) (length old) old) ≡ Some (found, new)
  pub known : has_unknown names (keys_of found) ≡ false
  pub each : (cs : List Column) (rows : List (List Cell)) → names_of (columns_of cs) ≡ names → repeats names ≡ false → HoldMembers date_form cs rows no_members weights bs
      → HoldMembers date_form cs rows found weights2 bs2

-- ---- rows

-- the cell of a member comes after the cells of a column, or a null if there is none
pub record HasMember (date_form : DateForm) (c : Column) (o : Option Data) (weight : ℕ) (so : List Cell) (new : ColumnBuilder) : Type 0 where
  pub kept : Cell
  pub read : member_in (is_nullable_column c) (cell_in date_form c) o ≡ Ok kept
  pub weighs : cell_weight c kept ≡ weight
  pub keeps : Keeps c (so ++ kept ∷ []) new

abbrev pub Completes : DateForm → Option ℕ → ℕ → ColumnBuilder → ColumnBuilder → Type 0
Completes date_form w weight old new = (c : Column) (so : List Cell) (o : Option Data) → HoldsMember date_form c so o w old → HasMember date_form c o weight so new

-- the cells of members come after the rows
pub record HasNamedRow (date_form : DateForm) (cs : List Column) (found : Members) (weight : ℕ) (rows : List (List Cell)) (new : List ColumnBuilder) : Type 0 where
  pub row : List Cell
  pub read : cells_by_name date_form (columns_of cs) found ≡ Ok (cells_of row)
  pub weighs : 1 + parts_weight (columns_of cs) (cells_of row) ≡ weight
  pub keeps : KeepAll cs (rows ++ row ∷ []) new

abbrev pub CompletesRow : DateForm → List (Option ℕ) → ℕ → List ColumnBuilder → List ColumnBuilder → Type 0
CompletesRow date_form weights weight old new =
    (cs : List Column) (rows : List (List Cell)) (found : Members) → HoldMembers date_form cs rows found weights old → HasNamedRow date_form cs found weight rows new

-- the cells of a value come after the rows
pub record HasValueRow (date_form : DateForm) (cs : List Column) (d : Data) (weight : ℕ) (rows : List (List Cell)) (new : List ColumnBuilder) : Type 0 where
  pub row : List Cell
  pub read : cells_in date_form (columns_of cs) d ≡ Ok (cells_of row)
  pub weighs : 1 + parts_weight (columns_of cs) (cells_of row) ≡ weight
  pub keeps : KeepAll cs (rows ++ row ∷ []) new

-- the cells of a value come after the rows, if no two columns have one name
abbrev pub KeepsRow : DateForm → List (List ℕ) → Data → ℕ → List ColumnBuilder → List ColumnBuilder → Type 0
KeepsRow date_form names d weight old new =
    (cs : List Column) (rows : List (List Cell)) → names_of (columns_of cs) ≡ names → repeats names ≡ false → KeepAll cs rows old → HasValueRow date_form cs d weight rows new

-- all members of an object, which end with its brace, and nulls for columns without a member
pub record KeepsFields (date_form : DateForm) (depth : ℕ) (names : List (List ℕ)) (old new : List Token) (weight : ℕ) (bs bs2 : List ColumnBuilder) : Type 0 where
  pub found : Members
  pub read : converted (λ ms. of_members ms no_members) (members (value depth) (length old) old) ≡ Some (found, new)
  pub keeps : KeepsRow date_form names (object found) weight bs bs2

-- the cells of items come after the rows
pub record HasItemRow (date_form : DateForm) (cs : List Column) (found : Items) (weight : ℕ) (rows : List (List Cell)) (new : List ColumnBuilder) : Type 0 where
  pub row : List Cell
  pub read : cells_by_place date_form (columns_of cs) found ≡ Ok (cells_of row)
  pub weighs : 1 + parts_weight (columns_of cs) (cells_of row) ≡ weight
  pub keeps : KeepAll cs (rows ++ row ∷ []) new

-- all items of an array, as many as columns, which end with its bracket
pub record KeepsItems (date_form : DateForm) (depth : ℕ) (old new : List Token) (weight : ℕ) (bs bs2 : List ColumnBuilder) : Type 0 where
  pub found : Items
  pub read : converted of_items (items (value depth) (length old) old) ≡ Some (found, new)
  pub count : item_count found ≡ length bs
  pub keeps : (cs : List Column) (rows : List (List Cell)) → KeepAll cs rows bs → HasItemRow date_form cs found weight rows bs2

-- all tokens are one value, whose cells come after the rows
pub record KeepsTokens (date_form : DateForm) (names : List (List ℕ)) (old : List Token) (weight : ℕ) (bs bs2 : List ColumnBuilder) : Type 0 where
  pub data_is : Data
  pub read : converted of_json (value 127 old) ≡ Some (data_is, [])
  pub keeps : KeepsRow date_form names data_is weight bs bs2

-- a line is one value, whose cells come after the rows
pub record KeepsLine (date_form : DateForm) (names : List (List ℕ)) (line : List ℕ) (weight : ℕ) (bs bs2 : List ColumnBuilder) : Type 0 where
  pub data_is : Data
  pub read : line_value line ≡ Ok data_is
  pub keeps : KeepsRow date_form names data_is weight bs bs2
