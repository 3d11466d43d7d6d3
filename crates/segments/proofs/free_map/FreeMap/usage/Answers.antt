use Rattle.std.proofs.Common.{◌∙◌, ap, subst}
use Rattle.segments.specs.declared.entries.UsageEntry.{UsageEntry}
use Rattle.segments.specs.Runs.{IsOnDevice}
use Rattle.segments.specs.Usages.{Space, UNUSED, usage_of}
use Rattle.segments.proofs.Changed.{on_device, used_has}
use Rattle.segments.proofs.Placed.{ascending}
use Rattle.segments.proofs.free_map.FreeMap.usage.Goals as goal

pub place_of_run-requires : goal.place_of_run-requires
place_of_run-requires c = ascending 2 c.self.inside.entries c.self.invariant.ordered

pub get-requires : goal.get-requires
get-requires c = c.in-Some.ensures.found.within

pub returns-in-Some : goal.returns-in-Some
returns-in-Some c =
    let es = c.self.inside.entries in
    let has = c.in-Some.ensures.found in
    let used = used_has es c.args.run c.in-Some.place c.self.invariant.ordered has in
    record {
      usage =
          ap (λ (e : UsageEntry). e.usage) (c.get.ensures (record { run = c.args.run; usage = UNUSED })) ∙ has.usage
          ∙ ap (λ (s : Space). usage_of s.entries c.args.run) c.self.view_is;
      on_device = λ _. subst (λ (s : Space). IsOnDevice s.size c.args.run) c.self.view_is (on_device c.self.inside.size es c.args.run c.self.invariant used);
    }
