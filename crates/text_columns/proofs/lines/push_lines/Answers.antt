use Rattle.std.proofs.Common.{◌∙◌, ap, sym, arith, Some}
use Rattle.arrow_schema.specs.View.{schema_of}
use Rattle.text_import.specs.Objects.{is_blank}
use Rattle.text_columns.specs.inner.Kept.{key_list}
use Rattle.text_import.specs.inner.Lines.{lines_left}
use Rattle.text_columns.proofs.LineRows.{lines_all, lines_more, lines_none, lines_same, lines_skipped}
use Rattle.text_columns.proofs.lines.push_lines.Goals as goal

pub loop-left-init : goal.loop-left-init
loop-left-init c = record { few = omega arith; read = λ named holds. lines_none c.args.date_form (schema_of c.args.schema.now) (lines_left (Some c.args.text)) c.args.batches.now holds }

pub loop-left-preserved-then-is_blank : goal.loop-left-preserved-then-is_blank
loop-left-preserved-then-is_blank c =
    let s = schema_of c.args.schema.now in
    record {
      few = c.loop-left.invariant.few;
      read = λ named holds.
          lines_skipped c.args.date_form s (lines_left (Some c.args.text)) (lines_left c.loop-left.left) (lines_left c.first_line.result.behind) c.loop-left.weight c.first_line.result.line.now c.loop-left.batches
          (ap lines_left c.in-Some.is ∙ c.first_line.ensures.line) (ap is_blank (sym c.as_bytes.ensures.value) ∙ sym c.is_blank.ensures ∙ c.if-is_blank.true)
          (c.loop-left.invariant.read named holds);
    }

pub loop-left-preserved : goal.loop-left-preserved
loop-left-preserved c =
    let s = schema_of c.args.schema.now in
    let taken = rw c.in-Some-2.is at c.in_ok-row_weight.ensures.kept in
    let light = rw c.in-Some-2.is at c.in_ok-row_weight.ensures.few in
    let adds = rw c.in-Some-2.is at c.in_ok-row_weight.ensures.adds in
    let same = c.in_ok-make_room.ensures c.if-not-branch.false in
    record {
      few = omega (arith, c.loop-left.invariant.few, c.if-row_weight-weight.false);
      read = λ named holds.
          lines_more c.args.date_form s (key_list c.args.names.now.keys) (lines_left (Some c.args.text)) (lines_left c.loop-left.left) (lines_left c.first_line.result.behind) c.loop-left.weight c.in-Some-2.row_weight
          c.first_line.result.line.now c.make_room.new.self c.push_row.new.batches (ap lines_left c.in-Some.is ∙ c.first_line.ensures.line)
          (ap is_blank (sym c.as_bytes.ensures.value) ∙ sym c.is_blank.ensures ∙ c.if-is_blank.false) named c.requires light taken adds
          (lines_same c.args.date_form s (lines_left (Some c.args.text)) (lines_left c.loop-left.left) c.loop-left.weight c.loop-left.batches c.make_room.new.self same (c.loop-left.invariant.read named holds));
    }

pub returns : goal.returns
returns c = λ named holds.
    lines_all c.args.date_form (schema_of c.args.schema.now) (lines_left (Some c.args.text)) (lines_left c.loop-left.left) c.loop-left.weight c.loop-left.batches (ap lines_left c.in_default.is) c.loop-left.invariant.few
    (c.loop-left.invariant.read named holds)
