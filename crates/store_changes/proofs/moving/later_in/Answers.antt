use Rattle.std.proofs.Common.{◌+◌, List, Some, length, sym, subst}
use Rattle.catalogue.specs.Entries.{plain_entry}
use Rattle.catalogue.specs.declared.entry.Segment.{Segment}
use Rattle.store_changes.specs.declared.moving.Last.{Last}
use Rattle.store_changes.specs.Finding.{IsLastIn, IsLastOf}
use Rattle.store_changes.proofs.StepFound.{some_more}
use Rattle.store_changes.proofs.moving.later_in.Goals as goal

pub returns-in-Some : goal.returns-in-Some
returns-in-Some c = λ listed at so_far.
    let number = c.args.table in
    let e = plain_entry c.args.entry.now in
    subst (λ (l : Last). IsLastOf listed (number + 1) (Some l)) (sym c.later.ensures)
    (some_more listed number e c.args.last c.in-Some.other at (subst (λ (ss : List Segment). IsLastIn number ss (length ss) (Some c.in-Some.other)) c.segments.ensures c.in-Some.ensures) so_far)
