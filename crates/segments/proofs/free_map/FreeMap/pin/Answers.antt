use Rattle.std.proofs.Common.{◌≡◌, ◌∙◌, true, false, inr, sym, ap, subst}
use Rattle.std.proofs.lemmas.Bool.{true≢false}
use Rattle.std.proofs.lemmas.Result.{on_ok_weaker}
use Rattle.segments.specs.declared.entries.Usage.{Usage}
use Rattle.segments.specs.Runs.{IsOnDevice, IsFree}
use Rattle.segments.specs.Usages.{UNUSED, pinned, is_used, usage_of, with_run, IsUsedIn, Changes}
use Rattle.segments.specs.laws.Usages.{unused}
use Rattle.segments.proofs.free_map.FreeMap.pin.Goals as goal

-- a run that is not used is unused
none_used : (own found : Usage) → own ≡ found → is_used own ≡ false → found ≡ UNUSED
none_used own found is none = sym is ∙ unused own (λ (used : is_used own ≡ true). true≢false (sym used ∙ none))

-- and pinned it has one pin
first_pin : (own found : Usage) → own ≡ found → is_used own ≡ false → record { taken = own.taken; pins = 1 } ≡ pinned found
first_pin own found is none =
    let was = none_used own found is none in
    (λ i. record { taken = ((is ∙ was) i).taken; pins = 1 }) ∙ sym (ap pinned was)

pub returns-then-not-is_used-clause-fits : goal.returns-then-not-is_used-clause-fits
returns-then-not-is_used-clause-fits c =
    let s = c.args.self.now in
    on_ok_weaker c.enter.result (λ (fits : IsOnDevice s.size c.args.run × IsFree s.size (IsUsedIn s.entries) c.args.run). inr fits.1) c.enter.ensures.fits

pub returns-then-not-is_used-clause-pinned : goal.returns-then-not-is_used-clause-pinned
returns-then-not-is_used-clause-pinned c =
    let s = c.args.self.now in
    let own = c.usage-usage.result in
    on_ok_weaker c.enter.result (λ (is : c.enter.new.self ≡ with_run s c.args.run (record { taken = own.taken; pins = 1 })).
    is ∙ ap (with_run s c.args.run) (first_pin own (usage_of s.entries c.args.run) c.usage-usage.ensures.usage (sym c.is_used.ensures ∙ c.if-not-is_used.true))) c.enter.ensures.entered

pub returns-then-not-is_used-clause-changes : goal.returns-then-not-is_used-clause-changes
returns-then-not-is_used-clause-changes c =
    let s = c.args.self.now in
    let own = c.usage-usage.result in
    on_ok_weaker c.enter.result (λ (changes : Changes s c.enter.new.self c.args.run (record { taken = own.taken; pins = 1 })).
    subst (Changes s c.enter.new.self c.args.run) (first_pin own (usage_of s.entries c.args.run) c.usage-usage.ensures.usage (sym c.is_used.ensures ∙ c.if-not-is_used.true)) changes) c.enter.ensures.changes

pub returns-then-not-is_used-clause-overlap : goal.returns-then-not-is_used-clause-overlap
returns-then-not-is_used-clause-overlap c = λ is.
    (none_used c.usage-usage.result (usage_of c.args.self.now.entries c.args.run) c.usage-usage.ensures.usage (sym c.is_used.ensures ∙ c.if-not-is_used.true), c.enter.ensures.overlap is)

pub returns-then-not-is_used-clause-pins : goal.returns-then-not-is_used-clause-pins
returns-then-not-is_used-clause-pins c = λ is. absurd (c.enter.ensures.pins is)

pub returns-then-not-is_used-clause-memory : goal.returns-then-not-is_used-clause-memory
returns-then-not-is_used-clause-memory c = λ is.
    (none_used c.usage-usage.result (usage_of c.args.self.now.entries c.args.run) c.usage-usage.ensures.usage (sym c.is_used.ensures ∙ c.if-not-is_used.true), (c.enter.ensures.memory is).1)
