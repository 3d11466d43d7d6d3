use Rattle.std.specs.Prelude.{Option}
use Rattle.std.proofs.Common.{◌≡◌, ◌++◌, ℕ, List, [], map, sym, ap, ◌∙◌, rules}
use Rattle.arrow_schema.specs.View.{column_of}
use Rattle.query.specs.BoundQuery.{bound_query_in, rows_selected, limit_after}
use Rattle.query.specs.ObjectLine.{lines_text}
use Rattle.query.specs.laws.Limits.{limit_counted}
use Rattle.values.specs.TableView.{table_of}
use Rattle.selection.specs.LinePrinter.{PlainPrinter, printer_in}
use Rattle.selection.proofs.line_printer.LinePrinter.push_lines.Goals as goal

pub push_part-requires : goal.push_part-requires
push_part-requires c = record { columns = c.requires.columns ∙ ap (map column_of) (sym c.deref.ensures.value) }

pub returns-clause-lines : goal.returns-clause-lines
returns-clause-lines c =
    let q = bound_query_in c.args.self.now.query in
    let rows = (table_of c.args.part.now).rows in
    let none : c.new-lines.result.items ≡ [] = search rules in
    c.in_ok-append.ensures.ok
    ∙ ap (λ (lines : List ℕ). c.args.text.now.items ++ lines)
    (c.in_ok-count.ensures.lines ∙ (λ k. none k ++ lines_text c.args.self.now.form (map column_of (c.deref.ensures.value k)) (rows_selected q rows)))

pub returns-clause-after : goal.returns-clause-after
returns-clause-after c =
    let q = bound_query_in c.args.self.now.query in
    let p = printer_in c.args.self.now in
    let whole : Option ℕ → PlainPrinter = λ limit. record { form = p.form; columns = p.columns; query = record { places = q.places; bounds = q.bounds; limit = limit } } in
    ap whole (c.limit_after-self.ensures ∙ ap (limit_after q.limit) c.in_ok-count.ensures.count ∙ limit_counted q (table_of c.args.part.now).rows)
