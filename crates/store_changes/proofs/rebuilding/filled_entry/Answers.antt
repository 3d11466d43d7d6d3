use Rattle.std.specs.Prelude.{IfOk}
use Rattle.std.proofs.Common.{◌≡◌, sym, subst, ◌∙◌, ap, List, length, arith}
use Rattle.catalogue.specs.declared.entry.Segment.{Segment}
use Rattle.catalogue.specs.Entries.{PlainEntry, plain_entry}
use Rattle.store_runs.specs.Filling.{new_in}
use Rattle.store_changes.proofs.Refilled.{filled_none}
use Rattle.store_changes.proofs.rebuilding.filled_entry.Goals as goal

pub returns-then-new_count-eq0 : goal.returns-then-new_count-eq0
returns-then-new_count-eq0 c =
    let e = plain_entry c.args.entry.now in
    let none : length (new_in c.args.from e.segments) ≡ 0 =
    let told = c.new_count.ensures in let same = ap (λ (ss : List Segment). length (new_in c.args.from ss)) c.segments.ensures in let test = c.if-new_count-eq0.true in omega (arith, told, same, test) in
    subst (λ (x : PlainEntry). IfOk c.copy.result (λ f. plain_entry f ≡ x)) (sym (filled_none c.args.from e c.args.others.now none)) c.copy.ensures
