use Rattle.std.specs.Prelude.{OnOk}
use Rattle.std.proofs.Common.{◌≡◌, ◌++◌, ℕ, List, subst}
use Rattle.arrow_schema.specs.View.{column_of}
use Rattle.cells.specs.Cell.{Cell}
use Rattle.columns.specs.View.{view_array}
use Rattle.query.specs.Line.{json_of}
use Rattle.query.proofs.SlotTexts.{plain_printed, integer_printed, date_printed, integer_bit, integer_bytes, text_bit, text_bytes}
use Rattle.query.proofs.slot_value.push_slot.Goals as goal

pub number-requires-clause-valid : goal.number-requires-clause-valid
number-requires-clause-valid c =
    let are = rw c.in-Integers.is at c.requires.buffers in
    integer_bit (column_of c.args.column.now.field.now) (view_array c.args.column.now.view) c.in-Integers.buffers c.args.slot are.0 c.requires.sound c.requires.within

pub number-requires-clause-long : goal.number-requires-clause-long
number-requires-clause-long c =
    let are = rw c.in-Integers.is at c.requires.buffers in
    integer_bytes (column_of c.args.column.now.field.now) (view_array c.args.column.now.view) c.in-Integers.buffers c.args.slot are.0 c.requires.sound c.requires.within

pub number-in-Dates-requires-clause-valid : goal.number-in-Dates-requires-clause-valid
number-in-Dates-requires-clause-valid c =
    let are = rw c.in-Dates.is at c.requires.buffers in
    integer_bit (column_of c.args.column.now.field.now) (view_array c.args.column.now.view) c.in-Dates.buffers c.args.slot are.0 c.requires.sound c.requires.within

pub number-in-Dates-requires-clause-long : goal.number-in-Dates-requires-clause-long
number-in-Dates-requires-clause-long c =
    let are = rw c.in-Dates.is at c.requires.buffers in
    integer_bytes (column_of c.args.column.now.field.now) (view_array c.args.column.now.view) c.in-Dates.buffers c.args.slot are.0 c.requires.sound c.requires.within

pub plain_text-requires-clause-valid : goal.plain_text-requires-clause-valid
plain_text-requires-clause-valid c =
    text_bit c.args.dates (column_of c.args.column.now.field.now) (view_array c.args.column.now.view) c.in-Texts.buffers c.args.slot (rw c.in-Texts.is at c.requires.buffers) c.requires.sound c.requires.within

pub plain_text-requires-clause-long : goal.plain_text-requires-clause-long
plain_text-requires-clause-long c =
    text_bytes c.args.dates (column_of c.args.column.now.field.now) (view_array c.args.column.now.view) c.in-Texts.buffers c.args.slot (rw c.in-Texts.is at c.requires.buffers) c.requires.sound c.requires.within

pub returns-in-Integers : goal.returns-in-Integers
returns-in-Integers c =
    let are = rw c.in-Integers.is at c.requires.buffers in
    let P : Cell → Type 0 = λ x. OnOk c.push_integer.result (c.push_integer.new.out.items ≡ c.args.out.now.items ++ json_of x) in
    subst P
    (integer_printed c.args.dates (column_of c.args.column.now.field.now) (view_array c.args.column.now.view) c.in-Integers.buffers c.args.slot c.number.result are.0 are.1 c.number.ensures)
    c.push_integer.ensures

pub returns-in-Dates : goal.returns-in-Dates
returns-in-Dates c =
    let are = rw c.in-Dates.is at c.requires.buffers in
    let P : Cell → Type 0 = λ x. OnOk c.push_date_or_null.result (c.push_date_or_null.new.out.items ≡ c.args.out.now.items ++ json_of x) in
    subst P
    (date_printed c.args.dates (column_of c.args.column.now.field.now) (view_array c.args.column.now.view) c.in-Dates.buffers c.in-Dates.date c.args.slot c.number-in-Dates.result are.0 are.1
    c.number-in-Dates.ensures)
    c.push_date_or_null.ensures

pub returns-in-Some : goal.returns-in-Some
returns-in-Some c =
    let P : List ℕ → Type 0 = λ t. OnOk c.push_first_bytes.result (c.push_first_bytes.new.out.items ≡ c.args.out.now.items ++ t) in
    subst P (plain_printed c.args.dates (column_of c.args.column.now.field.now) (view_array c.args.column.now.view) c.in-Texts.buffers c.args.slot _ (rw c.in-Texts.is at c.requires.buffers) c.in-Some.ensures.text) c.push_first_bytes.ensures
