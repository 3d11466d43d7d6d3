use Rattle.std.proofs.Common.{List, ◌++◌, ap, ◌∙◌}
use Rattle.facts.specs.laws.Lists.{flat_map-push}
use Rattle.cells.specs.Cell.{Cell}
use Rattle.table_cut.specs.Rows.{run_rows, runs_rows}
use Rattle.selection.proofs.kept.keep_front.Goals as goal

pub returns-clause-rows : goal.returns-clause-rows
returns-clause-rows c cs =
    let old = c.args.kept.now.runs.items in
    ap (runs_rows cs) c.in_ok-push.ensures.items
    ∙ flat_map-push (run_rows cs) old c.front.result
    ∙ ap (λ (rows : List (List Cell)). runs_rows cs old ++ rows) (c.front.ensures.rows cs)
