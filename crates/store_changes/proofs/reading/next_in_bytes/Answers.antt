use Rattle.std.proofs.Common.{◌≡◌, ◌++◌, ap, ◌∙◌, arith}
use Rattle.std.proofs.lemmas.List.Sums.{sum_by-append}
use Rattle.arrow_schema.specs.Column.{PlainSchema}
use Rattle.cells.specs.Weight.{row_weight, table_weight}
use Rattle.values.specs.TableView.{table_of}
use Rattle.store_changes.proofs.SegmentBytes.{lacks_next, heavy_next, lacks_unread, heavy_unread}
use Rattle.store_changes.proofs.reading.next_in_bytes.Goals as goal

-- ---- with any front

pub returns-then-weighed-before-clause-lacks : goal.returns-then-weighed-before-clause-lacks
returns-then-weighed-before-clause-lacks c = λ tells image copy.
    let weighed = c.in-Ok.weighed in
    heavy_next tells image c.args.front.now c.args.segment c.args.before c.args.place (table_of weighed.table)
    (omega (arith, weighed.weighs, c.requires.light, c.if-weighed-before.true))
    (record { bytes = c.args.bytes.items; copy = copy; means = c.in-Ok.ensures.means })

pub returns-in-Err-clause-lacks : goal.returns-in-Err-clause-lacks
returns-in-Err-clause-lacks c = λ tells image copy.
    lacks_next tells image c.args.front.now c.args.segment c.args.before c.args.place c.in-Err.refusal (c.in-Err.ensures.lacks tells image copy)

-- ---- with the message of a schema

pub returns-then-weighed-before-clause-unread : goal.returns-then-weighed-before-clause-unread
returns-then-weighed-before-clause-unread c = λ tells image s rows copy within message weighs.
    let weighed = c.in-Ok.weighed in
    let own = (table_of weighed.table).rows in
    let more : weighed.weight ≡ table_weight s own =
    weighed.weighs ∙ ap (λ (x : PlainSchema). table_weight x own) (c.in-Ok.ensures.schema s within message) in
    let split = sum_by-append (row_weight s) rows own in
    heavy_unread tells image s rows own c.args.segment c.args.place
    (omega (arith, split, more, weighs, c.requires.light, c.if-weighed-before.true))
    (record { bytes = c.args.bytes.items; copy = copy; means = c.in-Ok.ensures.rows s message })

pub returns-in-Err-clause-unread : goal.returns-in-Err-clause-unread
returns-in-Err-clause-unread c = λ tells image s rows copy within message weighs.
    lacks_unread tells image s rows c.args.segment c.args.place c.in-Err.refusal (c.in-Err.ensures.told tells image s copy message)
