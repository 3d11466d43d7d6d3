-- The type that a field's code, its table and its children decode to, if they decode to one (Schema.fbs, the union Type).
use Rattle.std.specs.Prelude.{ℕ, ◌^◌, Bool, false, ◌==◌, nat_lt, if◌then◌else◌, List, [], ◌∷◌, Option, Some, None, option_map}
use Rattle.ipc_message.specs.declared.type_codes.TheConstants.{NULL, INT, FLOATING_POINT, BINARY, UTF8, BOOL, DECIMAL, DATE, TIME, TIMESTAMP, INTERVAL, LIST, STRUCT, UNION, FIXED_SIZE_BINARY, FIXED_SIZE_LIST, MAP, DURATION, LARGE_BINARY, LARGE_UTF8, LARGE_LIST, RUN_END_ENCODED, BINARY_VIEW, UTF8_VIEW, LIST_VIEW, LARGE_LIST_VIEW}
use Rattle.ipc_message.specs.declared.fault.TypeName.{TypeName}
use Rattle.ipc_message.specs.declared.fault.TypeName.TheVariants as types
use Rattle.arrow_schema.specs.Column.{Kind, Column, DateKind, days, date_milliseconds, TimeKind, seconds, milliseconds, microseconds, nanoseconds, nulls, booleans, integers, dates, timestamps, texts, large_texts, binaries, large_binaries, fixed_binaries, lists, large_lists, fixed_lists, structs, columns_of, is_bit_width}
use Rattle.ipc_message.specs.Raw.{RawParameters, integer_parameters, byte_width, list_size, date_unit, timestamp_parameters}

-- the name of a type code
unfoldable pub type_name : ℕ → TypeName
type_name code =
    if code == NULL then types.Null
    else if code == INT then types.Int
    else if code == FLOATING_POINT then types.FloatingPoint
    else if code == BINARY then types.Binary
    else if code == UTF8 then types.Utf8
    else if code == BOOL then types.Bool
    else if code == DECIMAL then types.Decimal
    else if code == DATE then types.Date
    else if code == TIME then types.Time
    else if code == TIMESTAMP then types.Timestamp
    else if code == INTERVAL then types.Interval
    else if code == LIST then types.List
    else if code == STRUCT then types.Struct
    else if code == UNION then types.Union
    else if code == FIXED_SIZE_BINARY then types.FixedSizeBinary
    else if code == FIXED_SIZE_LIST then types.FixedSizeList
    else if code == MAP then types.Map
    else if code == DURATION then types.Duration
    else if code == LARGE_BINARY then types.LargeBinary
    else if code == LARGE_UTF8 then types.LargeUtf8
    else if code == LARGE_LIST then types.LargeList
    else if code == RUN_END_ENCODED then types.RunEndEncoded
    else if code == BINARY_VIEW then types.BinaryView
    else if code == UTF8_VIEW then types.Utf8View
    else if code == LIST_VIEW then types.ListView
    else if code == LARGE_LIST_VIEW then types.LargeListView
    else types.Unknown

-- a signed size of 32 bits that is not negative
abbrev pub is_size : ℕ → Bool
is_size n = nat_lt n (2 ^ 31)

abbrev pub date_kind : ℕ → Option DateKind
date_kind n = if n == 0 then Some days else if n == 1 then Some date_milliseconds else None

abbrev pub time_kind : ℕ → Option TimeKind
time_kind n = if n == 0 then Some seconds else if n == 1 then Some milliseconds else if n == 2 then Some microseconds else if n == 3 then Some nanoseconds else None

-- types that have slots in their table
abbrev pub integer : RawParameters → Option Kind
integer (integer_parameters width signed) = if is_bit_width width then Some (integers width signed) else None
integer _ = None

abbrev pub date : RawParameters → Option Kind
date (date_unit n) = option_map dates (date_kind n)
date _ = None

abbrev pub timestamp : RawParameters → Option Kind
timestamp (timestamp_parameters n timezone) = option_map (λ unit. timestamps unit timezone) (time_kind n)
timestamp _ = None

abbrev pub fixed_binary : RawParameters → Option Kind
fixed_binary (byte_width n) = if is_size n then Some (fixed_binaries n) else None
fixed_binary _ = None

abbrev pub has_list_size : RawParameters → Bool
has_list_size (list_size n) = is_size n
has_list_size _ = false

abbrev pub fixed_list : RawParameters → Column → Option Kind
fixed_list (list_size n) item = if is_size n then Some (fixed_lists n item) else None
fixed_list _ item = None

-- a type without children
abbrev pub without_children : Option Kind → List Column → Option Kind
without_children kind [] = kind
without_children kind (c ∷ cs) = None

-- a type with one child
abbrev pub with_item : (Column → Option Kind) → List Column → Option Kind
with_item kind [] = None
with_item kind (item ∷ []) = kind item
with_item kind (item ∷ c ∷ cs) = None

-- what the name of a type code, its table and its children decode to
unfoldable pub decoded_type : TypeName → RawParameters → List Column → Option Kind
decoded_type types.Null p children = without_children (Some nulls) children
decoded_type types.Int p children = without_children (integer p) children
decoded_type types.Binary p children = without_children (Some binaries) children
decoded_type types.Utf8 p children = without_children (Some texts) children
decoded_type types.Bool p children = without_children (Some booleans) children
decoded_type types.Date p children = without_children (date p) children
decoded_type types.Timestamp p children = without_children (timestamp p) children
decoded_type types.List p children = with_item (λ item. Some (lists item)) children
decoded_type types.Struct p children = Some (structs (columns_of children))
decoded_type types.FixedSizeBinary p children = without_children (fixed_binary p) children
decoded_type types.FixedSizeList p children = with_item (fixed_list p) children
decoded_type types.LargeBinary p children = without_children (Some large_binaries) children
decoded_type types.LargeUtf8 p children = without_children (Some large_texts) children
decoded_type types.LargeList p children = with_item (λ item. Some (large_lists item)) children
decoded_type _ p children = None
