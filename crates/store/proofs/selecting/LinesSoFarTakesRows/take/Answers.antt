use Rattle.std.proofs.Common.{subst, sym}
use Rattle.selection.specs.LinePrinter.{PlainPrinter, PrintsOf, printer_in}
use Rattle.selection.specs.laws.Parts.{part_printed}
use Rattle.values.specs.TableView.{table_of}
use Rattle.store.proofs.selecting.LinesSoFarTakesRows.take.Goals as goal

pub push_lines-requires : goal.push_lines-requires
push_lines-requires c = record { columns = c.requires }

pub returns-clause-takes : goal.returns-clause-takes
returns-clause-takes c = subst (λ (p : PlainPrinter). PrintsOf p (table_of c.args.next.now).schema.columns) (sym c.in_ok-push_lines.ensures.after) c.requires

pub returns-clause-taken : goal.returns-clause-taken
returns-clause-taken c = λ start rows has.
    let own = (table_of c.args.next.now).rows in
    let printed = part_printed (printer_in start.printer) (printer_in c.args.self.printer) (printer_in c.push_lines.new.self) rows own start.text.items c.args.self.text.items c.push_lines.new.text.items has.text has.printer
    c.in_ok-push_lines.ensures.lines c.in_ok-push_lines.ensures.after in
    record { text = printed.0; printer = printed.1 }
