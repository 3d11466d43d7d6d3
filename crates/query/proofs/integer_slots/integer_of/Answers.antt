use Rattle.std.specs.Prelude.{string_bytes}
use Rattle.std.proofs.Common.{◌≡◌, sym, rules}
use Rattle.arrow_schema.specs.Column.{integers, dates, timestamps}
use Rattle.arrow_schema.specs.View.{kind_of, bits_of, date_kind, time_kind}
use Rattle.arrow_schema.specs.declared.types.Field.{the_lemmas as field_lemmas}
use Rattle.query.proofs.IntegerKinds.{integer_kind, date_kind_is, time_kind_is}
use Rattle.query.proofs.integer_slots.integer_of.Goals as goal

pub returns-in-Int : goal.returns-in-Int
returns-in-Int c =
    let kind : kind_of c.args.data_type.now ≡ integers (bits_of c.in-Int.integer.width) c.in-Int.integer.signed = rw c.in-Int.is (search (rules, field_lemmas)) in
    rw kind (integer_kind c.in-Int.integer)

pub returns-in-Date : goal.returns-in-Date
returns-in-Date c =
    let kind : kind_of c.args.data_type.now ≡ dates (date_kind c.in-Date.unit) = rw c.in-Date.is (search (rules, field_lemmas)) in
    rw kind (date_kind_is (date_kind c.in-Date.unit) c.date_integer.result (sym c.date_integer.ensures.bits) c.date_integer.ensures.signed)

pub returns-in-Timestamp : goal.returns-in-Timestamp
returns-in-Timestamp c =
    let kind : kind_of c.args.data_type.now ≡ timestamps (time_kind c.in-Timestamp.field-0) (string_bytes c.in-Timestamp.field-1) = rw c.in-Timestamp.is (search (rules, field_lemmas)) in
    rw kind (time_kind_is _ _ c.timestamp_integer.result (sym c.timestamp_integer.ensures.bits) c.timestamp_integer.ensures.signed)
