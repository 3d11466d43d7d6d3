use Rattle.std.proofs.Common.{◌≡◌, ◌++◌, refl, ap, ◌∙◌, subst, arith}
use Rattle.std.proofs.lemmas.List.Sums.{sum_by-append}
use Rattle.arrow_schema.specs.Column.{PlainSchema}
use Rattle.cells.specs.Weight.{row_weight, table_weight}
use Rattle.values.specs.Table.{IsTable}
use Rattle.values.specs.TableView.{table_of}
use Rattle.store_runs.specs.Changes.{rows_under}
use Rattle.store_changes.proofs.weighing.weigh_next.Goals as goal

pub returns-in-Ok-clause-weight : goal.returns-in-Ok-clause-weight
returns-in-Ok-clause-weight g c = λ s rows message standing weighs.
    let next = c.in-Ok.next in
    let own = (table_of next.table).rows in
    let schema = c.in-Ok.ensures.schema s standing.schema message in
    let more : next.weight ≡ table_weight s own = next.weighs ∙ ap (λ (x : PlainSchema). table_weight x own) schema in
    let split = sum_by-append (row_weight s) rows own in
    let kept = subst (λ (x : PlainSchema). IsTable (rows_under x own)) schema c.schema.ensures.kept in (
      rows ++ own,
      record {
        own = own;
        read = c.in-Ok.ensures.rows s message;
        count = c.in-Ok.ensures.count;
        is = refl;
        kept = c.table_laws.ensures.joined s rows own standing kept (omega (arith, split, more, weighs, c.in-Ok.ensures.light));
      },
      omega (arith, split, more, weighs),
    )
