use Rattle.std.proofs.Common.{◌≡◌, ◌++◌, ℕ, [], List, sym, ap, ◌∙◌, rules}
use Rattle.arrow_schema.specs.Column.{PlainSchema}
use Rattle.query.specs.Selection.{pick}
use Rattle.selection.specs.LinePrinter.{printer_in, printed_lines}
use Rattle.catalogue.specs.Entries.{plain_entry}
use Rattle.store_changes.specs.laws.Sources.{on_device_readable}
use Rattle.store.proofs.selecting.answer_query.Goals as goal

pub take_entry-requires-clause-readable : goal.take_entry-requires-clause-readable
take_entry-requires-clause-readable g c = on_device_readable (g.D.SectorDevice.size c.args.device.now) (plain_entry c.args.entry.now).segments c.requires.placed

pub weigh_entry-requires-clause-readable : goal.weigh_entry-requires-clause-readable
weigh_entry-requires-clause-readable g c = on_device_readable (g.D.SectorDevice.size c.args.device.now) (plain_entry c.args.entry.now).segments c.requires.placed

pub take_entry-requires-clause-takes : goal.take_entry-requires-clause-takes
take_entry-requires-clause-takes g c =
    let p = printer_in c.in-Ok.printer in
    ap (λ (s : PlainSchema). pick p.query.places s.columns) (sym c.schema.ensures) ∙ c.in-Ok.ensures.columns

pub returns-in-Ok-take_entry-clause-answers : goal.returns-in-Ok-take_entry-clause-answers
returns-in-Ok-take_entry-clause-answers g c =
    let found = c.in-Ok-take_entry.ensures.taken in
    let made = c.in-Ok.ensures.lines found.0 (c.schema.ensures ∙ sym found.1.schema) in
    let none : c.new-text.result.items ≡ [] = search rules in
    (found.0, found.1, (made.0, made.1, found.2.text ∙ ap (λ (front : List ℕ). front ++ printed_lines (printer_in c.in-Ok.printer) found.0.rows) none ∙ made.2))

pub returns-in-Ok-weigh_entry-clause-answers : goal.returns-in-Ok-weigh_entry-clause-answers
returns-in-Ok-weigh_entry-clause-answers g c =
    let found = c.in-Ok-weigh_entry.ensures.weight in
    (found.0, found.1, c.in-Err.ensures.refused found.0 (c.schema.ensures ∙ sym found.1.schema))
