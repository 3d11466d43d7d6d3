use Rattle.std.proofs.Common.{◌∙◌, set, remove, sym}
use Rattle.std.proofs.lemmas.Bool.{cond-true, cond-false}
use Rattle.segments.specs.declared.entries.UsageEntry.{UsageEntry}
use Rattle.segments.specs.Usages.{UNUSED, is_used}
use Rattle.segments.proofs.Changed.{changed}
use Rattle.segments.proofs.entries.change.Goals as goal

pub returns-then-is_used : goal.returns-then-is_used
returns-then-is_used c =
    let es = c.args.entries.now in
    let e : UsageEntry = record { run = c.args.run; usage = c.args.usage } in
    c.set.ensures ∙ sym (cond-true (is_used c.args.usage) (set es c.args.place e) (remove es c.args.place) (sym c.is_used.ensures ∙ c.if-is_used.true))
    ∙ changed c.args.run c.args.usage es c.args.place (record { run = c.args.run; usage = UNUSED }) c.requires.place c.requires.found.within c.requires.found.is

pub returns-else-is_used : goal.returns-else-is_used
returns-else-is_used c =
    let es = c.args.entries.now in
    let e : UsageEntry = record { run = c.args.run; usage = c.args.usage } in
    c.remove.ensures
    ∙ sym (cond-false (is_used c.args.usage) (set es c.args.place e) (remove es c.args.place) (sym c.is_used.ensures ∙ c.if-is_used.false))
    ∙ changed c.args.run c.args.usage es c.args.place (record { run = c.args.run; usage = UNUSED }) c.requires.place c.requires.found.within c.requires.found.is
