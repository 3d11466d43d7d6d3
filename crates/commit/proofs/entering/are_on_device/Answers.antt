use Rattle.std.proofs.Common.{◌∙◌, ◌&&◌, ◌+◌, drop, sym, ap}
use Rattle.std.proofs.lemmas.List.{drop_more, drop_all}
use Rattle.segments.specs.declared.run.Run.{Run}
use Rattle.commit.specs.Standing.{all_on_device}
use Rattle.commit.specs.laws.Apart.{on_device_test}
use Rattle.commit.proofs.entering.are_on_device.Goals as goal

abbrev none : Run
none = record { start = 0; count = 0 }

pub returns-then-not-is_on_device : goal.returns-then-not-is_on_device
returns-then-not-is_on_device c =
    let i = c.loop-run.run-index in
    let here = drop_more c.args.runs.now i none c.loop-run-test.true in
    sym (c.loop-run.invariant ∙ ap (all_on_device c.args.size) here ∙ ap (λ t. t && all_on_device c.args.size (drop (i + 1) c.args.runs.now)) (sym (on_device_test c.args.size _ _ c.is_on_device.ensures) ∙ c.if-not-is_on_device.true))

pub loop-run-preserved : goal.loop-run-preserved
loop-run-preserved c =
    let i = c.loop-run.run-index in
    let here = drop_more c.args.runs.now i none c.loop-run-test.true in
    c.loop-run.invariant ∙ ap (all_on_device c.args.size) here ∙ ap (λ t. t && all_on_device c.args.size (drop (i + 1) c.args.runs.now)) (sym (on_device_test c.args.size _ _ c.is_on_device.ensures) ∙ c.if-not-is_on_device.false)

pub returns : goal.returns
returns c = sym (c.loop-run.invariant ∙ ap (all_on_device c.args.size) (drop_all c.loop-run.run-index c.args.runs.now c.loop-run-test.false))
