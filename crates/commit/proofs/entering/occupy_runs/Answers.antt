use Rattle.std.proofs.Common.{◌≡◌, ◌∙◌, ap, sym, subst, Option, Some, None, IfErr, OnOk, IsPermutation}
use Rattle.std.proofs.lemmas.Result.{IfOk-weaker}
use Rattle.commit.specs.declared.cause.Cause.{Cause}
use Rattle.commit.specs.declared.cause.Cause.TheVariants.{RunRange}
use Rattle.commit.specs.declared.reading.OpenError.TheVariants.{Damaged}
use Rattle.commit.specs.laws.Apart.{outside}
use Rattle.commit.proofs.Reordered.{still_on_device, same_fault, same_uses}
use Rattle.commit.proofs.entering.occupy_runs.Goals as goal

pub returns-then-not-are_on_device-clause-damaged : goal.returns-then-not-are_on_device-clause-damaged
returns-then-not-are_on_device-clause-damaged c = λ cause is.
    let same : RunRange ≡ cause = cc is in
    outside c.args.sectors c.args.text c.args.runs.now (sym c.are_on_device.ensures ∙ c.if-not-are_on_device.true) ∙ ap Some same

pub occupy_each-requires-clause-runs : goal.occupy_each-requires-clause-runs
occupy_each-requires-clause-runs c =
    let moved = subst (IsPermutation c.args.runs.now) (sym c.deref.ensures.value) c.in-Ok.ensures in
    still_on_device c.args.sectors c.args.runs.now c.deref.result.now moved (sym c.are_on_device.ensures ∙ c.if-not-are_on_device.false)

pub returns-in-Ok-clause-uses : goal.returns-in-Ok-clause-uses
returns-in-Ok-clause-uses c =
    let moved = subst (IsPermutation c.args.runs.now) (sym c.deref.ensures.value) c.in-Ok.ensures in
    IfOk-weaker c.occupy_each.result _ _ (λ map uses. same_uses map.entries c.args.text c.args.runs.now c.deref.result.now moved uses) c.occupy_each.ensures.uses

pub returns-in-Ok-clause-fit : goal.returns-in-Ok-clause-fit
returns-in-Ok-clause-fit c =
    let moved = subst (IsPermutation c.args.runs.now) (sym c.deref.ensures.value) c.in-Ok.ensures in
    subst (λ (fault : Option Cause). OnOk c.occupy_each.result (fault ≡ None)) (same_fault c.args.sectors c.args.text c.args.runs.now c.deref.result.now moved) c.occupy_each.ensures.fit

pub returns-in-Ok-clause-damaged : goal.returns-in-Ok-clause-damaged
returns-in-Ok-clause-damaged c =
    let moved = subst (IsPermutation c.args.runs.now) (sym c.deref.ensures.value) c.in-Ok.ensures in
    subst (λ (fault : Option Cause). IfErr c.occupy_each.result (λ e. (cause : Cause) → e ≡ Damaged cause → fault ≡ Some cause)) (same_fault c.args.sectors c.args.text c.args.runs.now c.deref.result.now moved) c.occupy_each.ensures.damaged
