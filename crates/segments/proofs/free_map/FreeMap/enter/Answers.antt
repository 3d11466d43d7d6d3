use Rattle.std.proofs.Common.{◌≡◌, ◌∙◌, sym, subst}
use Rattle.std.proofs.lemmas.Bool.{true≢false}
use Rattle.segments.specs.declared.run.Run.{Run}
use Rattle.segments.specs.Runs.{IsFree, IsOnDevice}
use Rattle.segments.specs.Usages.{Space, IsUsedIn}
use Rattle.segments.specs.inner.Places.{ApartEach}
use Rattle.segments.proofs.Changed.{free_apart, apart_free}
use Rattle.segments.proofs.free_map.FreeMap.enter.Goals as goal

pub returns-then-not-is_apart-clause-overlap : goal.returns-then-not-is_apart-clause-overlap
returns-then-not-is_apart-clause-overlap c = λ _ free.
    let here = subst (λ (s : Space). IsFree s.size (IsUsedIn s.entries) c.args.run) (sym c.self.view_is) free in
    let apart = free_apart c.self.inside.size c.self.inside.entries c.args.run c.self.invariant.ordered here in
    let is = c.is_apart.ensures.1 apart in
    true≢false (sym is ∙ c.if-not-is_apart.true)

-- a run on the device that meets no entry is free
fits : {inside view : Space} → inside ≡ view → (run : Run) → IsOnDevice inside.size run → ApartEach run inside.entries → IsOnDevice view.size run × IsFree view.size (IsUsedIn view.entries) run
fits {inside} {view} is run on apart = subst (λ (s : Space). IsOnDevice s.size run × IsFree s.size (IsUsedIn s.entries) run) is (on, apart_free inside.size inside.entries run on apart)

pub insert-requires-clause-free : goal.insert-requires-clause-free
insert-requires-clause-free c =
    (fits c.self.view_is c.args.run (c.is_on_device.ensures.0 c.if-not-is_on_device.false) (c.is_apart.ensures.0 c.if-not-is_apart.false)).1

pub returns-in_err-insert-clause-memory : goal.returns-in_err-insert-clause-memory
returns-in_err-insert-clause-memory c = λ _.
    fits c.self.view_is c.args.run (c.is_on_device.ensures.0 c.if-not-is_on_device.false) (c.is_apart.ensures.0 c.if-not-is_apart.false)

pub returns-clause-fits : goal.returns-clause-fits
returns-clause-fits c =
    fits c.self.view_is c.args.run (c.is_on_device.ensures.0 c.if-not-is_on_device.false) (c.is_apart.ensures.0 c.if-not-is_apart.false)
