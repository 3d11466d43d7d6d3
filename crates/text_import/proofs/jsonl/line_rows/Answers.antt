use Rattle.std.proofs.Common.{◌≡◌, ◌∙◌, ◌+◌, sym, ap, [], ◌∷◌, map, drop, arith}
use Rattle.std.specs.Vec.{vec_len}
use Rattle.std.proofs.lemmas.List.{drop_all, map-append}
use Rattle.arrow_schema.specs.View.{schema_of}
use Rattle.cells.specs.Row.{row_of}
use Rattle.text_import.specs.Refusals.{refused_by}
use Rattle.text_import.proofs.ObjectLemmas.{line_skipped, line_more, line_refused, lines_end}
use Rattle.text_import.specs.laws.Behind.{behind}
use Rattle.text_import.proofs.jsonl.line_rows.Goals as goal

pub loop-line-preserved-then-is_blank : goal.loop-line-preserved-then-is_blank
loop-line-preserved-then-is_blank c =
    let skipped =
    line_skipped c.args.date_form (schema_of c.args.schema.now) c.args.lines.now c.loop-line.line-index _ (vec_len c.loop-line.rows + 1) c.loop-line-test.true (sym c.is_blank.ensures ∙ c.if-is_blank.true) in
    ap (behind (map row_of c.loop-line.rows.items)) (sym skipped) ∙ c.loop-line.invariant

pub loop-line-preserved : goal.loop-line-preserved
loop-line-preserved c =
    let number = ap (λ k. k + 1) c.len.ensures in
    let more =
    line_more c.args.date_form
    (schema_of c.args.schema.now)
    c.args.lines.now
    c.loop-line.line-index
    _
    (c.len.result + 1)
    (vec_len c.loop-line.rows + 1)
    (map row_of c.loop-line.rows.items)
    (row_of c.in-Ok.row)
    c.line_row.result
    c.loop-line-test.true
    (sym c.is_blank.ensures ∙ c.if-is_blank.false)
    c.line_row.ensures
    c.in-Ok.ensures
    number in
    rw (c.in_ok-push.ensures.items, map-append row_of c.loop-line.rows.items (c.in-Ok.row ∷ []), c.in_ok-push.ensures.len) (sym more ∙ c.loop-line.invariant)

pub returns-in-Err : goal.returns-in-Err
returns-in-Err c =
    let number = ap (λ k. k + 1) c.len.ensures in
    let reported =
    line_refused c.args.date_form
    (schema_of c.args.schema.now)
    c.args.lines.now
    c.loop-line.line-index
    _
    (c.len.result + 1)
    (vec_len c.loop-line.rows + 1)
    (map row_of c.loop-line.rows.items)
    (refused_by c.in-Err.error)
    c.line_row.result
    c.loop-line-test.true
    (sym c.is_blank.ensures ∙ c.if-is_blank.false)
    c.line_row.ensures
    c.in-Err.ensures
    number in
    rw c.loop-line.invariant at reported

pub returns : goal.returns
returns c =
    let none : drop c.loop-line.line-index c.args.lines.now ≡ [] = drop_all c.loop-line.line-index c.args.lines.now (omega arith) in
    sym (rw none at c.loop-line.invariant) ∙ lines_end c.args.date_form (schema_of c.args.schema.now) (vec_len c.loop-line.rows + 1) (map row_of c.loop-line.rows.items)
