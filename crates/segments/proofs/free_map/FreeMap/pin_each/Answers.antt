use Rattle.std.proofs.Common.{◌≡◌, ◌∙◌, ◌+◌, take, get_or, sym, ap, subst, arith}
use Rattle.std.proofs.lemmas.List.{take_more}
use Rattle.segments.specs.declared.run.Run.{Run}
use Rattle.segments.specs.declared.entries.Usage.{Usage}
use Rattle.segments.specs.Usages.{times_among, usage_of, pinned, PinsAll}
use Rattle.segments.proofs.Pinned.{none_pinned, among_at, times_at, still_used, pinned_last}
use Rattle.segments.proofs.free_map.FreeMap.pin_each.Goals as goal

abbrev none : Run
none = record { start = 0; count = 0 }

pub loop-run-init : goal.loop-run-init
loop-run-init c = none_pinned c.args.self.now

pub overflow_add-pins : goal.overflow_add-pins
overflow_add-pins c =
    let runs = c.args.runs.now in
    let i = c.loop-run.run-index in
    let run = get_or runs i none in
    let is : c.usage-usage.result.pins ≡ (usage_of c.args.self.now.entries run).pins + times_among (take i runs) run =
    ap (λ (u : Usage). u.pins) (c.usage-usage.ensures.usage ∙ c.loop-run.invariant.usages run) in
    omega (arith, is, times_at runs i none c.loop-run-test.true, c.requires.few run)

pub set_usage-requires : goal.set_usage-requires
set_usage-requires c = λ unused.
    let runs = c.args.runs.now in
    let i = c.loop-run.run-index in
    let run = get_or runs i none in
    absurd (still_used c.args.self.now c.loop-run.self (take i runs) run c.loop-run.invariant (c.requires.used run (among_at runs i none c.loop-run-test.true)) unused)

pub loop-run-preserved : goal.loop-run-preserved
loop-run-preserved c =
    let old = c.args.self.now in
    let new = c.set_usage.new.self in
    let runs = c.args.runs.now in
    let i = c.loop-run.run-index in
    let run = get_or runs i none in
    subst (PinsAll old new) (sym (take_more runs i none c.loop-run-test.true))
    (pinned_last old c.loop-run.self new (take i runs) run (pinned c.usage-usage.result) c.loop-run.invariant c.set_usage.ensures.changes (ap pinned c.usage-usage.ensures.usage))
