-- The plain values of the code's openings of types.
use Rattle.std.specs.Prelude.{option_map}
use Rattle.field_texts.specs.declared.scan.Flat.{Flat}
use Rattle.field_texts.specs.declared.scan.Flat.TheVariants as flats
use Rattle.field_texts.specs.declared.scan.Opening.{Opening}
use Rattle.field_texts.specs.declared.scan.Opening.TheVariants as openings
use Rattle.arrow_schema.specs.Column.{Kind, nulls, booleans, integers, dates, timestamps, texts, large_texts, binaries, large_binaries, fixed_binaries}
use Rattle.arrow_schema.specs.View.{bits_of, date_kind, time_kind, index_of}
use Rattle.field_texts.specs.inner.Scan as scan

abbrev pub flat_kind : Flat → Kind
flat_kind flats.Null = nulls
flat_kind flats.Bool = booleans
flat_kind (flats.Int i) = integers (bits_of i.width) i.signed
flat_kind (flats.Date unit) = dates (date_kind unit)
flat_kind (flats.Timestamp unit timezone) = timestamps (time_kind unit) timezone.now
flat_kind flats.Utf8 = texts
flat_kind flats.LargeUtf8 = large_texts
flat_kind flats.Binary = binaries
flat_kind flats.LargeBinary = large_binaries
flat_kind (flats.FixedBinary width) = fixed_binaries width

abbrev pub opening_view : Opening → scan.Opening
opening_view (openings.Flat f index) = scan.flat (flat_kind f) (option_map index_of index)
opening_view openings.List = scan.list
opening_view openings.LargeList = scan.large_list
opening_view (openings.FixedList size) = scan.fixed_list size
opening_view openings.Struct = scan.struct
