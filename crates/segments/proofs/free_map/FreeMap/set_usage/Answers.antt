use Rattle.std.proofs.Common.{◌≡◌, ◌∙◌, ap, sym, refl, subst}
use Rattle.segments.specs.declared.entries.Usage.{Usage}
use Rattle.segments.specs.Usages.{Space, UNUSED, usage_of, with_run, Changes}
use Rattle.segments.proofs.Changed.{fits_used, sound_with, changes_with, changes_none, on_device, used_has}
use Rattle.segments.proofs.Placed.{ascending}
use Rattle.segments.proofs.free_map.FreeMap.set_usage.Goals as goal

pub place_of_run-requires : goal.place_of_run-requires
place_of_run-requires c = ascending 2 c.self.inside.entries c.self.invariant.ordered

pub invariant_of-self : goal.invariant_of-self
invariant_of-self c =
    let es = c.self.inside.entries in
    let size = c.self.inside.size in
    let has = c.in-Some.ensures.found in
    let used = used_has es c.args.run c.in-Some.place c.self.invariant.ordered has in
    rw c.change.ensures (sound_with size es c.args.run c.args.usage c.self.invariant (on_device size es c.args.run c.self.invariant used) (fits_used 2 es c.args.run c.self.invariant.ordered used))

pub returns-in-Some-clause-entries : goal.returns-in-Some-clause-entries
returns-in-Some-clause-entries c =
    (λ i. record { size = c.self.inside.size; entries = c.change.ensures i }) ∙ ap (λ (s : Space). with_run s c.args.run c.args.usage) c.self.view_is

pub returns-in-Some-clause-changes : goal.returns-in-Some-clause-changes
returns-in-Some-clause-changes c =
    let es = c.self.inside.entries in
    let size = c.self.inside.size in
    let has = c.in-Some.ensures.found in
    let used = used_has es c.args.run c.in-Some.place c.self.invariant.ordered has in
    let some = (on_device size es c.args.run c.self.invariant used).some in
    let after : Space = record { size = size; entries = c.change.new.entries } in
    let now : with_run (record { size = size; entries = es }) c.args.run c.args.usage ≡ after = λ i. record { size = size; entries = sym c.change.ensures i } in
    subst (λ (s : Space). Changes s after c.args.run c.args.usage) c.self.view_is
    (subst (λ (s : Space). Changes (record { size = size; entries = es }) s c.args.run c.args.usage) now
    (changes_with size es c.args.run c.args.usage c.self.invariant some (fits_used 2 es c.args.run c.self.invariant.ordered used)))

pub returns-in_default-clause-entries : goal.returns-in_default-clause-entries
returns-in_default-clause-entries c =
    let es = c.self.inside.entries in
    let size = c.self.inside.size in
    let none : usage_of es c.args.run ≡ UNUSED = c.in_default.ensures.none in
    let still : c.args.usage ≡ UNUSED = c.requires (subst (λ (s : Space). usage_of s.entries c.args.run ≡ UNUSED) c.self.view_is none) in
    subst (λ (s : Space). s ≡ with_run s c.args.run c.args.usage) c.self.view_is
    (sym (changes_none size es c.args.run c.self.invariant none) ∙ ap (λ (u : Usage). with_run (record { size = size; entries = es }) c.args.run u) (sym still))

pub returns-in_default-clause-changes : goal.returns-in_default-clause-changes
returns-in_default-clause-changes c =
    let es = c.self.inside.entries in
    let none : usage_of es c.args.run ≡ UNUSED = c.in_default.ensures.none in
    let here = subst (λ (s : Space). usage_of s.entries c.args.run ≡ UNUSED) c.self.view_is none in
    record { size = refl; this = here ∙ sym (c.requires here); others = λ other _. refl }
