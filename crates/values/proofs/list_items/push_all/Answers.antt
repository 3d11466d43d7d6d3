use Rattle.std.specs.Prelude.{OnOk}
use Rattle.std.proofs.Common.{◌≡◌, ◌++◌, ◌∙◌, List, map, take, ap, subst, arith}
use Rattle.std.proofs.lemmas.Iterator.Adapters.{fact_from_extend}
use Rattle.std.proofs.lemmas.Iterator.Consumers.{YieldsList-from_first}
use Rattle.std.proofs.lemmas.List.{map-append, take_at}
use Rattle.cells.specs.Cell.{Cell}
use Rattle.columns.specs.Borrowed.{borrowed_cell, borrowed_cells, values_left}
use Rattle.values.proofs.list_items.push_all.Goals as goal

pub returns-in-Ok-clause-ok : goal.returns-in-Ok-clause-ok
returns-in-Ok-clause-ok c =
    let old = c.args.cells.now.items in
    subst (λ r. OnOk r (map borrowed_cell c.extend.new.self.items ≡ map borrowed_cell old ++ borrowed_cells c.args.values)) c.in-Ok.is
    (fact_from_extend borrowed_cell c.extend.result c.extend.ensures.ran
    (λ it b. YieldsList-from_first borrowed_cell values_left {s = it} _ (ap values_left b ∙ c.iter.ensures))
    (λ xs e h. ap (map borrowed_cell) h.0 ∙ map-append borrowed_cell old xs ∙ ap (λ (ys : List Cell). map borrowed_cell old ++ ys) e))

pub returns-in-Err-clause-err : goal.returns-in-Err-clause-err
returns-in-Err-clause-err c =
    let ran = c.extend.ensures.ran in
    c.truncate.ensures.items ∙ ap (take c.len-before.result) ran.3.0 ∙ take_at c.args.cells.now.items ran.1 c.len-before.result (omega (arith, c.len-before.ensures))
