use Rattle.std.proofs.Common.{◌≡◌, ◌++◌, refl, sym, ap, ◌∙◌, subst, arith}
use Rattle.std.proofs.lemmas.List.Sums.{sum_by-append}
use Rattle.arrow_schema.specs.Column.{PlainSchema}
use Rattle.cells.specs.Weight.{row_weight, table_weight}
use Rattle.values.specs.Table.{IsTable}
use Rattle.values.specs.TableView.{table_of}
use Rattle.store_runs.specs.Changes.{rows_under}
use Rattle.store.proofs.taking.take_segment.Goals as goal

pub take-requires : goal.take-requires
take-requires g c =
    let p = c.requires.takes in
    subst (λ (s : PlainSchema). g.T.TakesRows.takes c.args.taker s) (sym (c.in-Ok.ensures.schema p.0 p.1 p.2)) p.3

pub returns-in-Ok-take-clause-takes : goal.returns-in-Ok-take-clause-takes
returns-in-Ok-take-clause-takes g c =
    let p = c.requires.takes in
    (p.0, p.1, p.2, subst (λ (s : PlainSchema). g.T.TakesRows.takes c.in-Ok-take.more s) (c.in-Ok.ensures.schema p.0 p.1 p.2) c.in-Ok-take.ensures.takes)

pub returns-in-Ok-take-clause-taken : goal.returns-in-Ok-take-clause-taken
returns-in-Ok-take-clause-taken g c = λ start s rows message standing weighs has.
    let next = c.in-Ok.next in
    let own = (table_of next.table).rows in
    let schema = c.in-Ok.ensures.schema s standing.schema message in
    let heavy : next.weight ≡ table_weight s own = c.in-Ok.ensures.weight ∙ ap (λ (x : PlainSchema). table_weight x own) schema in
    let split = sum_by-append (row_weight s) rows own in
    let kept = subst (λ (x : PlainSchema). IsTable (rows_under x own)) schema c.schema.ensures.kept in (
      rows ++ own,
      record {
        own = own;
        read = c.in-Ok.ensures.rows s message;
        count = c.in-Ok.ensures.count;
        is = refl;
        kept = c.table_laws.ensures.joined s rows own standing kept (omega (arith, split, heavy, weighs, c.in-Ok.ensures.light));
      },
      c.in-Ok-take.ensures.taken start rows has,
      omega (arith, split, heavy, weighs),
    )
