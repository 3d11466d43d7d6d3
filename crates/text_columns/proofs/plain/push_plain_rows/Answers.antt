use Rattle.std.proofs.Common.{◌<◌, length, arith}
use Rattle.arrow_schema.specs.View.{schema_of}
use Rattle.text_columns.proofs.PlainRows.{InText, ends_passed, next_stands, text_ended}
use Rattle.text_columns.proofs.Rows.{read_more, read_none, read_rows, read_same}
use Rattle.text_import.specs.FieldForm.{field_form}
use Rattle.text_columns.proofs.plain.push_plain_rows.Goals as goal

pub loop-rows-init : goal.loop-rows-init
loop-rows-init c = record {
  few = omega arith;
  within = c.requires;
  read = λ records stands holds. read_none (InText c.args.text.now c.args.from) (schema_of c.args.schema.now) (field_form c.args.form.now) records c.args.batches.now stands holds;
}

pub loop-rows-preserved : goal.loop-rows-preserved
loop-rows-preserved c =
    let s = schema_of c.args.schema.now in
    let text = c.args.text.now in
    let start = c.skip_ends-start.result in
    let row = c.in-Some.row in
    let pushed = rw c.in-Some.is at c.in_ok-row.ensures.pushed in
    let light = rw c.in-Some.is at c.in_ok-row.ensures.few in
    let adds = rw c.in-Some.is at c.in_ok-row.ensures.adds in
    let same = c.in_ok-make_room.ensures c.if-not-branch.false in
    let roomy = c.make_room.new.self in
    let new = c.push_plain_row.new.batches in
    let inside : start < length text = omega (arith, c.skip_ends-start.ensures.high, c.if-start-text.false) in
    record {
      few = omega (arith, c.loop-rows.invariant.few, c.if-row-weight.false);
      within = pushed.within;
      read = λ records stands holds.
          let h = read_same (InText text c.loop-rows.at) s (field_form c.args.form.now) records c.loop-rows.rows c.loop-rows.weight c.loop-rows.batches roomy same (c.loop-rows.invariant.read records stands holds) in
          let left = ends_passed text c.loop-rows.at start h.left c.skip_ends-start.ensures h.stands in
          let (others, whole, more) = next_stands text (field_form c.args.form.now) start row roomy.builders.items new.builders.items h.left pushed inside (c.skip_ends-start.ensures.stops inside) left in
          read_more (InText text c.loop-rows.at) (InText text row.next) s (field_form c.args.form.now) records others c.loop-rows.rows c.loop-rows.weight row.weight roomy new pushed.fields h whole more light pushed.keeps adds;
    }

pub returns-then-start-text : goal.returns-then-start-text
returns-then-start-text c =
    λ records stands holds.
    let text = c.args.text.now in
    let start = c.skip_ends-start.result in
    let h = c.loop-rows.invariant.read records stands holds in
    let none = text_ended text start h.left c.if-start-text.true (ends_passed text c.loop-rows.at start h.left c.skip_ends-start.ensures h.stands) in
    read_rows (InText text c.loop-rows.at) (schema_of c.args.schema.now) (field_form c.args.form.now) records c.loop-rows.rows c.loop-rows.weight c.loop-rows.batches h none c.loop-rows.invariant.few
