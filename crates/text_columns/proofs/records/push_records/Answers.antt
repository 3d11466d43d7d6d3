use Rattle.std.proofs.Common.{◌+◌, arith}
use Rattle.csv.specs.Records.{fields_of}
use Rattle.arrow_schema.specs.View.{schema_of}
use Rattle.text_import.specs.Records.{record_row}
use Rattle.text_import.specs.Refusals.{numbered}
use Rattle.text_import.specs.Rows.{rows_from}
use Rattle.text_import.specs.laws.Behind.{taken_none, taken_some}
use Rattle.text_columns.proofs.Rows.{ByReader, left_behind, none_left, read_more, read_none, read_refused, read_rows, read_same, refused_step}
use Rattle.text_import.specs.FieldForm.{field_form}
use Rattle.text_columns.proofs.records.push_records.Goals as goal

pub loop-index-init : goal.loop-index-init
loop-index-init c = record {
  few = omega arith;
  read = λ records has few holds. read_none (ByReader c.args.reader.now 0 c.args.most) (schema_of c.args.schema.now) (field_form c.args.form.now) records c.args.batches.now (has, omega (arith, few)) holds;
}

pub returns-then-not-branch : goal.returns-then-not-branch
returns-then-not-branch c =
    λ records has few holds.
    let h = c.loop-index.invariant.read records has few holds in
    let i = c.loop-index.index in
    let none = taken_none h.left c.in_ok-read_next.field-0 (fields_of c.read_next.new.row) c.read_next.new.reader (c.in_ok-read_next.ensures h.left h.stands.0) c.if-not-branch.true in
    read_rows (ByReader c.loop-index.reader i c.args.most) (schema_of c.args.schema.now) (field_form c.args.form.now) records i c.loop-index.weight c.loop-index.batches
    h none c.loop-index.invariant.few

pub returns-in_default : goal.returns-in_default
returns-in_default c =
    λ records has few holds.
    let h = c.loop-index.invariant.read records has few holds in
    let s = schema_of c.args.schema.now in
    let i = c.loop-index.index in
    let fields = fields_of c.read_next.new.row in
    let read = record_row s (field_form c.args.form.now) in
    let (others, whole, left) = taken_some h.left c.in_ok-read_next.field-0 fields c.read_next.new.reader (c.in_ok-read_next.ensures h.left h.stands.0) c.if-not-branch.false in
    refused_step s (numbered (i + 1) (read fields)) (rows_from read 1 records) c.refuse.result c.push_row.new.batches c.refuse.ensures
    (λ o own. read_refused (ByReader c.loop-index.reader i c.args.most) s (field_form c.args.form.now) records others i c.loop-index.weight c.loop-index.batches fields o h whole own)

pub loop-index-preserved : goal.loop-index-preserved
loop-index-preserved c =
    let taken = rw c.in-Some.is at c.in_ok-row_weight.ensures.kept in
    let light = rw c.in-Some.is at c.in_ok-row_weight.ensures.few in
    let adds = rw c.in-Some.is at c.in_ok-row_weight.ensures.adds in
    let same = c.in_ok-make_room.ensures c.if-not-branch-2.false in
    let roomy = c.make_room.new.self in
    let s = schema_of c.args.schema.now in
    let i = c.loop-index.index in
    let fields = fields_of c.read_next.new.row in
    record {
      few = omega (arith, c.loop-index.invariant.few, c.if-row_weight-weight.false);
      read = λ records has few holds.
          let h = read_same (ByReader c.loop-index.reader i c.args.most) s (field_form c.args.form.now) records i c.loop-index.weight c.loop-index.batches roomy same (c.loop-index.invariant.read records has few holds) in
          let (others, whole, left) = taken_some h.left c.in_ok-read_next.field-0 fields c.read_next.new.reader (c.in_ok-read_next.ensures h.left h.stands.0) c.if-not-branch.false in
          read_more (ByReader c.loop-index.reader i c.args.most) (ByReader c.read_next.new.reader (i + 1) c.args.most) s (field_form c.args.form.now) records others i c.loop-index.weight
          c.in-Some.row_weight roomy c.push_row.new.batches fields h whole (left, left_behind h.left others fields i c.args.most whole h.stands.1) light taken adds;
    }

pub returns : goal.returns
returns c =
    λ records has few holds.
    let h = c.loop-index.invariant.read records has few holds in
    let room = h.stands.1 in
    let none = none_left h.left (omega (arith, room, c.loop-index-test.false)) in
    read_rows (ByReader c.loop-index.reader c.loop-index.index c.args.most) (schema_of c.args.schema.now) (field_form c.args.form.now) records c.loop-index.index c.loop-index.weight c.loop-index.batches h none c.loop-index.invariant.few
