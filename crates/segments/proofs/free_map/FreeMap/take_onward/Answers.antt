use Rattle.std.proofs.Common.{◌≤◌, ◌∙◌, Some, sym, subst, arith}
use Rattle.segments.specs.Runs.{IsLowest}
use Rattle.segments.specs.Usages.{Space, IsUsedIn, IsSearched}
use Rattle.segments.proofs.Lowest.{searched_on}
use Rattle.segments.proofs.free_map.FreeMap.take_onward.Goals as goal

pub returns-in_err-insert-clause-searched : goal.returns-in_err-insert-clause-searched
returns-in_err-insert-clause-searched c =
    subst (λ (s : Space). IsSearched s c.lowest.new.searched) (c.self.view_is ∙ sym c.in_err-insert.ensures.err) c.lowest.ensures.searched

pub returns-clause-lowest : goal.returns-clause-lowest
returns-clause-lowest c =
    subst (λ (s : Space). IsLowest s.size (IsUsedIn s.entries) c.args.count (Some c.in-Some.run')) c.self.view_is c.in-Some.ensures.lowest

pub returns-clause-searched : goal.returns-clause-searched
returns-clause-searched c =
    let some : 1 ≤ c.in-Some.run'.count = omega (arith, c.in-Some.ensures.lowest.0, c.requires.some) in
    searched_on c.args.self.now c.insert.new.self c.in-Some.run' c.lowest.new.searched c.end-searched.result
    (subst (λ (s : Space). IsSearched s c.lowest.new.searched) c.self.view_is c.lowest.ensures.searched)
    c.in-Some.ensures.start some c.end-searched.ensures c.in_ok-insert.ensures.changes
