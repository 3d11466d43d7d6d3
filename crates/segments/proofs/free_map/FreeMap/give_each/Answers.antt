use Rattle.std.proofs.Common.{refl, subst}
use Rattle.segments.specs.Usages.{Space, GivesAll}
use Rattle.segments.proofs.free_map.FreeMap.give_each.Goals as goal

pub invariant_of-self : goal.invariant_of-self
invariant_of-self c = record { ordered = c.let_go_each.ensures.ordered; within = c.let_go_each.ensures.within c.self.inside.size c.self.invariant.within }

pub returns : goal.returns
returns c =
    let after : Space = record { size = c.self.inside.size; entries = c.let_go_each.new.entries } in
    subst (λ (s : Space). GivesAll s after c.args.runs.now) c.self.view_is (record { size = refl; usages = c.let_go_each.ensures.usages })
