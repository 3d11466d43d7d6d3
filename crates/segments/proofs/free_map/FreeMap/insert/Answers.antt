use Rattle.std.proofs.Common.{◌∙◌, ap, sym, subst}
use Rattle.segments.specs.Runs.{IsFree}
use Rattle.segments.specs.Usages.{Space, IsUsedIn, with_run, Changes}
use Rattle.segments.proofs.Changed.{enters}
use Rattle.segments.proofs.Placed.{ascending}
use Rattle.segments.proofs.free_map.FreeMap.insert.Goals as goal

pub place_of_start-place-requires : goal.place_of_start-place-requires
place_of_start-place-requires c = ascending 2 c.self.inside.entries c.self.invariant.ordered

pub invariant_of-self : goal.invariant_of-self
invariant_of-self c = rw c.in_err-insert.ensures.err c.self.invariant

pub invariant_of-self-2 : goal.invariant_of-self-2
invariant_of-self-2 c =
    let free = subst (λ (s : Space). IsFree s.size (IsUsedIn s.entries) c.args.run) (sym c.self.view_is) c.requires.free in
    (enters c.self.inside.size c.self.inside.entries c.args.run c.args.usage c.self.invariant c.requires.used c.requires.some free c.place_of_start-place.result c.insert.new.self c.place_of_start-place.ensures.place c.in_ok-insert.ensures.ok).sound

pub returns : goal.returns
returns c =
    let free = subst (λ (s : Space). IsFree s.size (IsUsedIn s.entries) c.args.run) (sym c.self.view_is) c.requires.free in
    let in_use = enters c.self.inside.size c.self.inside.entries c.args.run c.args.usage c.self.invariant c.requires.used c.requires.some free c.place_of_start-place.result c.insert.new.self c.place_of_start-place.ensures.place c.in_ok-insert.ensures.ok in
    record {
      entered = (λ i. record { size = c.self.inside.size; entries = in_use.is i }) ∙ ap (λ (s : Space). with_run s c.args.run c.args.usage) c.self.view_is;
      changes = subst (λ (s : Space). Changes s (record { size = c.self.inside.size; entries = c.insert.new.self }) c.args.run c.args.usage) c.self.view_is in_use.changes;
      err = tt;
    }
