use Rattle.std.proofs.Common.{◌≡◌, ◌∙◌, ◌-◌, ℕ, ap, subst}
use Rattle.segments.specs.declared.entries.Usage.{Usage}
use Rattle.segments.specs.Usages.{unpinned, usage_of, with_run, Changes}
use Rattle.segments.proofs.free_map.FreeMap.unpin.Goals as goal

-- the usage with one pin less
one_less : (own found : Usage) (pins : ℕ) → own ≡ found → pins ≡ own.pins - 1 → record { taken = own.taken; pins = pins } ≡ unpinned found
one_less own found pins is less = (λ i. record { taken = own.taken; pins = less i }) ∙ ap unpinned is

pub returns-clause-unpinned : goal.returns-clause-unpinned
returns-clause-unpinned c =
    let s = c.args.self.now in
    let less = one_less c.usage-usage.result (usage_of s.entries c.args.run) c.saturating_sub-pins.result c.usage-usage.ensures.usage c.saturating_sub-pins.ensures in
    c.set_usage.ensures.entries ∙ ap (with_run s c.args.run) less

pub returns-clause-changes : goal.returns-clause-changes
returns-clause-changes c =
    let s = c.args.self.now in
    let less = one_less c.usage-usage.result (usage_of s.entries c.args.run) c.saturating_sub-pins.result c.usage-usage.ensures.usage c.saturating_sub-pins.ensures in
    subst (Changes s c.set_usage.new.self c.args.run) less c.set_usage.ensures.changes
