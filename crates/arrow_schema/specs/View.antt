-- The plain column that a field of the code stands for.
use Rattle.std.specs.Prelude.{ℕ, map, string_bytes, String, option_map}
use Rattle.std.specs.Global.{Global}
use Rattle.arrow_schema.specs.declared.types.BitWidth.{BitWidth}
use Rattle.arrow_schema.specs.declared.types.BitWidth.TheVariants.{Eight, Sixteen, ThirtyTwo, SixtyFour}
use Rattle.arrow_schema.specs.declared.types.DictSpec.{DictSpec}
use Rattle.arrow_schema.specs.declared.types.DateUnit.{DateUnit}
use Rattle.arrow_schema.specs.declared.types.DateUnit.TheVariants as dates
use Rattle.arrow_schema.specs.declared.types.TimeUnit.{TimeUnit}
use Rattle.arrow_schema.specs.declared.types.TimeUnit.TheVariants as times
use Rattle.arrow_schema.specs.declared.types.DataType.{DataType}
use Rattle.arrow_schema.specs.declared.types.Field.{Field}
use Rattle.arrow_schema.specs.declared.types.Schema.{Schema}
use Rattle.arrow_schema.specs.declared.types.DataType.TheOpen.{DataType-F, Field-F}
use Rattle.arrow_schema.specs.declared.types.DataType.TheOpen as types
use Rattle.arrow_schema.specs.declared.types.DataType.TheFolds.{fold-DataType, fold-Field}
use Rattle.arrow_schema.specs.Column.{Index, Pair, DateKind, days, date_milliseconds, TimeKind, seconds, milliseconds, microseconds, nanoseconds, Kind, Column, nulls, booleans, integers, texts, large_texts, binaries, large_binaries, fixed_binaries, lists, large_lists, fixed_lists, structs, column, columns_of, PlainSchema}
use Rattle.arrow_schema.specs.Column as kinds

-- the number of bits
abbrev pub bits_of : BitWidth → ℕ
bits_of Eight = 8
bits_of Sixteen = 16
bits_of ThirtyTwo = 32
bits_of SixtyFour = 64

abbrev pub index_of : DictSpec → Index
index_of d = record { bits = bits_of d.index.width; signed = d.index.signed }

abbrev pub date_kind : DateUnit → DateKind
date_kind dates.Day = days
date_kind dates.Millisecond = date_milliseconds

abbrev pub time_kind : TimeUnit → TimeKind
time_kind times.Second = seconds
time_kind times.Millisecond = milliseconds
time_kind times.Microsecond = microseconds
time_kind times.Nanosecond = nanoseconds

abbrev pub pair_of : String Global × String Global → Pair
pair_of p = (string_bytes p.0, string_bytes p.1)

abbrev pub kind_step : DataType-F Kind Column → Kind
kind_step types.Null = nulls
kind_step types.Bool = booleans
kind_step (types.Int i) = integers (bits_of i.width) i.signed
kind_step (types.Date u) = kinds.dates (date_kind u)
kind_step (types.Timestamp u timezone) = kinds.timestamps (time_kind u) (string_bytes timezone)
kind_step types.Utf8 = texts
kind_step types.LargeUtf8 = large_texts
kind_step types.Binary = binaries
kind_step types.LargeBinary = large_binaries
kind_step (types.FixedSizeBinary w) = fixed_binaries w
kind_step (types.List f) = lists f.value
kind_step (types.LargeList f) = large_lists f.value
kind_step (types.FixedSizeList n f) = fixed_lists n f.value
kind_step (types.Struct fs) = structs (columns_of fs.items)

abbrev pub column_step : Field-F Kind Column → Column
column_step f = column (string_bytes f.name) f.nullable f.data_type (option_map index_of f.dictionary) (map pair_of f.pairs.items)

abbrev pub kind_of : DataType → Kind
kind_of = fold-DataType Kind Column kind_step column_step

abbrev pub column_of : Field → Column
column_of = fold-Field Kind Column kind_step column_step

abbrev pub schema_of : Schema → PlainSchema
schema_of s = record { columns = map column_of s.fields.items; pairs = map pair_of s.pairs.items }
