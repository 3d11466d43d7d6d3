use Rattle.std.proofs.Common.{◌∙◌, ◌+◌, ◌∷◌, ℕ, List, ap, sym, subst, arith}
use Rattle.arrow_schema.specs.View.{schema_of}
use Rattle.cells.specs.Row.{row_of}
use Rattle.text_import.specs.Objects.{jsonl_rows_of, line_row, lines_of}
use Rattle.text_import.specs.Refusals.{refused_by}
use Rattle.text_import.specs.inner.Lines.{lines_left, size_left}
use Rattle.text_import.proofs.WeightLemmas.{RowsWeighed, all_weighed, none_weighed, one_refused, one_weighed}
use Rattle.text_import.specs.laws.Lines.{blank_first, filled_first, filled_lines}
use Rattle.text_import.proofs.weight.jsonl_weight.Goals as goal

pub loop-left-init : goal.loop-left-init
loop-left-init c =
    let s = schema_of c.args.schema.now in
    record { few = omega arith; weighed = none_weighed s (line_row c.args.date_form s) (lines_of c.args.text.now) }

pub loop-left-preserved-then-is_blank : goal.loop-left-preserved-then-is_blank
loop-left-preserved-then-is_blank c =
    let s = schema_of c.args.schema.now in
    let here = ap lines_left c.in-Some.is ∙ c.first_line.ensures.line in
    let skipped = blank_first (lines_left c.loop-left.left) (lines_left c.first_line.result.behind) c.first_line.result.line.now here (sym c.is_blank.ensures ∙ c.if-is_blank.true) in
    let less = c.first_line.ensures.less in
    let size = ap size_left c.in-Some.is in
    let few = c.loop-left.invariant.few in
    record {
      few = omega (arith, few, less, size);
      weighed = subst (λ (left : List (List ℕ)). RowsWeighed s (line_row c.args.date_form s) (jsonl_rows_of c.args.date_form s c.args.text.now) (c.loop-left.count + 1) left c.loop-left.weight) skipped c.loop-left.invariant.weighed;
    }

pub loop-left-preserved : goal.loop-left-preserved
loop-left-preserved c =
    let s = schema_of c.args.schema.now in
    let all = jsonl_rows_of c.args.date_form s c.args.text.now in
    let line = c.first_line.result.line.now in
    let others = filled_lines (lines_left c.first_line.result.behind) in
    let here = ap lines_left c.in-Some.is ∙ c.first_line.ensures.line in
    let first = filled_first (lines_left c.loop-left.left) (lines_left c.first_line.result.behind) line here (sym c.is_blank.ensures ∙ c.if-is_blank.false) in
    let less = c.first_line.ensures.less in
    let size = ap size_left c.in-Some.is in
    let few = c.loop-left.invariant.few in
    let n = c.loop-left.count + 1 in
    record {
      few = omega (arith, few, less, size);
      weighed = one_weighed s (line_row c.args.date_form s) all n line others (row_of c.in-Ok.row) c.loop-left.weight c.weight_with-weight.result (c.in-Ok.ensures _ c.line_row.ensures) c.weight_with-weight.ensures
          (subst (λ (left : List (List ℕ)). RowsWeighed s (line_row c.args.date_form s) all n left c.loop-left.weight) first c.loop-left.invariant.weighed);
    }

pub returns-in-Err : goal.returns-in-Err
returns-in-Err c =
    let s = schema_of c.args.schema.now in
    let all = jsonl_rows_of c.args.date_form s c.args.text.now in
    let line = c.first_line.result.line.now in
    let others = filled_lines (lines_left c.first_line.result.behind) in
    let here = ap lines_left c.in-Some.is ∙ c.first_line.ensures.line in
    let first = filled_first (lines_left c.loop-left.left) (lines_left c.first_line.result.behind) line here (sym c.is_blank.ensures ∙ c.if-is_blank.false) in
    let n = c.loop-left.count + 1 in
    one_refused s (line_row c.args.date_form s) all n line others c.loop-left.weight (refused_by c.in-Err.error) (c.in-Err.ensures _ c.line_row.ensures)
    (subst (λ (left : List (List ℕ)). RowsWeighed s (line_row c.args.date_form s) all n left c.loop-left.weight) first c.loop-left.invariant.weighed)

pub returns : goal.returns
returns c =
    let s = schema_of c.args.schema.now in
    let all = jsonl_rows_of c.args.date_form s c.args.text.now in
    let n = c.loop-left.count + 1 in
    all_weighed s (line_row c.args.date_form s) all n c.loop-left.weight
    (subst (λ (left : List (List ℕ)). RowsWeighed s (line_row c.args.date_form s) all n left c.loop-left.weight) (ap (λ o. filled_lines (lines_left o)) c.in_default.is) c.loop-left.invariant.weighed)
