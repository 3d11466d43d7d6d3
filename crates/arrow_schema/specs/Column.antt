-- Types, fields and schemas as plain trees, without their memory (Arrow columnar format, "Logical types"; Schema.fbs).
use Rattle.std.specs.Prelude.{ℕ, Bool, ◌==◌, ◌||◌, List, [], ◌∷◌, Option}

-- the widths that an integer may have, in bits
abbrev pub is_bit_width : ℕ → Bool
is_bit_width bits = bits == 8 || bits == 16 || bits == 32 || bits == 64

-- the index type of a dictionary: an integer of this many bits
pub record Index : Type 0 where
  pub bits : ℕ
  pub signed : Bool

-- a key and its value
abbrev pub Pair : Type 0
Pair = List ℕ × List ℕ

-- the unit of a date
pub data DateKind : Type 0 where
  days : DateKind
  date_milliseconds : DateKind

-- its number (Schema.fbs, `DateUnit`)
abbrev pub date_unit_of : DateKind → ℕ
date_unit_of days = 0
date_unit_of date_milliseconds = 1

-- the unit of a timestamp
pub data TimeKind : Type 0 where
  seconds : TimeKind
  milliseconds : TimeKind
  microseconds : TimeKind
  nanoseconds : TimeKind

-- its number (Schema.fbs, `TimeUnit`)
abbrev pub time_unit_of : TimeKind → ℕ
time_unit_of seconds = 0
time_unit_of milliseconds = 1
time_unit_of microseconds = 2
time_unit_of nanoseconds = 3

mutual
  -- a logical type
  pub data Kind : Type 0 where
    nulls : Kind
    booleans : Kind
    integers : (bits : ℕ) → (signed : Bool) → Kind
    dates : DateKind → Kind
    timestamps : TimeKind → (timezone : List ℕ) → Kind
    texts : Kind
    large_texts : Kind
    binaries : Kind
    large_binaries : Kind
    fixed_binaries : (width : ℕ) → Kind
    lists : Column → Kind
    large_lists : Column → Kind
    fixed_lists : (size : ℕ) → Column → Kind
    structs : Columns → Kind

  -- a field
  pub data Column : Type 0 where
    column : (name : List ℕ) → (nullable : Bool) → Kind → (dictionary : Option Index) → (pairs : List Pair) → Column

  pub data Columns : Type 0 where
    no_column : Columns
    and_column : Column → Columns → Columns

abbrev pub columns_of : List Column → Columns
columns_of [] = no_column
columns_of (c ∷ cs) = and_column c (columns_of cs)

abbrev pub list_of : Columns → List Column
list_of no_column = []
list_of (and_column c cs) = c ∷ list_of cs

-- a schema: its fields and its own pairs, in order
pub record PlainSchema : Type 0 where
  pub columns : List Column
  pub pairs : List Pair
