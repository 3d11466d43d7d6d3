use Rattle.std.proofs.Common.{List, ℕ, ◌++◌, sym, ap, ◌∙◌}
use Rattle.std.proofs.lemmas.Result.{err_from_is_err_and}
use Rattle.arrow_schema.specs.Column.{PlainSchema}
use Rattle.query.specs.Selection.{pick}
use Rattle.values.specs.TableView.{table_of}
use Rattle.selection.specs.LinePrinter.{printer_in}
use Rattle.selection.proofs.line_printer.push_selected_lines.Goals as goal

pub push_lines-requires : goal.push_lines-requires
push_lines-requires c =
    let p = printer_in c.in_ok-printer.printer in
    record { columns = ap (λ (s : PlainSchema). pick p.query.places s.columns) (sym c.schema.ensures.schema) ∙ c.in_ok-printer.ensures.columns }

pub returns-clause-lines : goal.returns-clause-lines
returns-clause-lines c =
    let made = c.in_ok-printer.ensures.lines (table_of c.args.table.now) c.schema.ensures.schema in
    (made.0, made.1, c.in_ok-push_lines.ensures.lines ∙ ap (λ (lines : List ℕ). c.args.text.now.items ++ lines) made.2)

pub returns-in_err-printer-clause-refused : goal.returns-in_err-printer-clause-refused
returns-in_err-printer-clause-refused c =
    let p = err_from_is_err_and c.from_residual.result c.from_residual.ensures.1 in
    rw (p.1, p.2) (c.in_err-printer.ensures.refused (table_of c.args.table.now) c.schema.ensures.schema)
