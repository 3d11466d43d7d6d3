use Rattle.std.specs.Prelude.{string_bytes}
use Rattle.std.proofs.Common.{◌≡◌, map, refl, rules}
use Rattle.arrow_schema.specs.declared.types.Field.{the_lemmas as field_lemmas}
use Rattle.arrow_schema.specs.Column.{nulls, booleans, integers, dates, timestamps, binaries, large_binaries, fixed_binaries, lists, large_lists, fixed_lists, structs, columns_of}
use Rattle.arrow_schema.specs.View.{kind_of, column_of, bits_of, date_kind, time_kind}
use Rattle.query.proofs.literal.literal_of.Goals as goal

pub returns-in-Null : goal.returns-in-Null
returns-in-Null c =
    let kind : kind_of c.args.data_type.now ≡ nulls = rw c.in-Null.is (search (rules, field_lemmas)) in
    rw kind refl

pub returns-in-Bool : goal.returns-in-Bool
returns-in-Bool c =
    let kind : kind_of c.args.data_type.now ≡ booleans = rw c.in-Bool.is (search (rules, field_lemmas)) in
    rw kind c.boolean_in.ensures

pub returns-in-Int : goal.returns-in-Int
returns-in-Int c =
    let kind : kind_of c.args.data_type.now ≡ integers (bits_of c.in-Int.field-0.width) c.in-Int.field-0.signed = rw c.in-Int.is (search (rules, field_lemmas)) in
    rw kind c.number_literal.ensures

pub returns-in-Date : goal.returns-in-Date
returns-in-Date c =
    let kind : kind_of c.args.data_type.now ≡ dates (date_kind c.in-Date.field-0) = rw c.in-Date.is (search (rules, field_lemmas)) in
    rw kind (rw kind at c.number_or_date.ensures)

pub returns-in-Timestamp : goal.returns-in-Timestamp
returns-in-Timestamp c =
    let kind : kind_of c.args.data_type.now ≡ timestamps (time_kind c.in-Timestamp.field-0) (string_bytes c.in-Timestamp.field-1) = rw c.in-Timestamp.is (search (rules, field_lemmas)) in
    rw kind (rw kind at c.number_or_date-in-Timestamp.ensures)

pub returns-in-Binary : goal.returns-in-Binary
returns-in-Binary c =
    let kind : kind_of c.args.data_type.now ≡ binaries = rw c.in-Binary.is (search (rules, field_lemmas)) in
    rw kind c.bytes_in.ensures

pub returns-in-LargeBinary : goal.returns-in-LargeBinary
returns-in-LargeBinary c =
    let kind : kind_of c.args.data_type.now ≡ large_binaries = rw c.in-LargeBinary.is (search (rules, field_lemmas)) in
    rw kind c.bytes_in-in-LargeBinary.ensures

pub returns-in-FixedSizeBinary : goal.returns-in-FixedSizeBinary
returns-in-FixedSizeBinary c =
    let kind : kind_of c.args.data_type.now ≡ fixed_binaries c.in-FixedSizeBinary.field-0 = rw c.in-FixedSizeBinary.is (search (rules, field_lemmas)) in
    rw kind c.bytes_in-in-FixedSizeBinary.ensures

pub returns-in-List : goal.returns-in-List
returns-in-List c =
    let kind : kind_of c.args.data_type.now ≡ lists (column_of c.in-List.field-0.value) = rw c.in-List.is (search (rules, field_lemmas)) in
    rw kind refl

pub returns-in-LargeList : goal.returns-in-LargeList
returns-in-LargeList c =
    let kind : kind_of c.args.data_type.now ≡ large_lists (column_of c.in-LargeList.field-0.value) = rw c.in-LargeList.is (search (rules, field_lemmas)) in
    rw kind refl

pub returns-in-FixedSizeList : goal.returns-in-FixedSizeList
returns-in-FixedSizeList c =
    let kind : kind_of c.args.data_type.now ≡ fixed_lists c.in-FixedSizeList.field-0 (column_of c.in-FixedSizeList.field-1.value) = rw c.in-FixedSizeList.is (search (rules, field_lemmas)) in
    rw kind refl

pub returns-in-Struct : goal.returns-in-Struct
returns-in-Struct c =
    let kind : kind_of c.args.data_type.now ≡ structs (columns_of (map column_of c.in-Struct.field-0.items)) = rw c.in-Struct.is (search (rules, field_lemmas)) in
    rw kind refl
