use Rattle.std.proofs.Common.{◌≡◌, ◌<◌, ◌∙◌, length, get_or, false, sym, ap, subst, arith}
use Rattle.std.proofs.lemmas.Bool.{true≢false}
use Rattle.segments.specs.declared.entries.UsageEntry.{UsageEntry}
use Rattle.segments.specs.Usages.{UNUSED}
use Rattle.segments.proofs.Used.{unused_without, usage_at}
use Rattle.segments.proofs.Placed.{same_run-eq}
use Rattle.segments.specs.laws.Usages.{same_run_is}
use Rattle.segments.proofs.entries.place_of_run.Goals as goal
use Rattle.segments.proofs.entries.place_of_run.Goals.{else-place-len-via-then-place-len+else-eq, else-place-len-via-else-place-len}

abbrev none : UsageEntry
none = record { run = record { start = 0; count = 0 }; usage = record { taken = false; pins = 0 } }

pub returns-then-eq-clause-found : goal.returns-then-eq-clause-found
returns-then-eq-clause-found c =
    let es = c.args.entries.now in
    let i = c.place_of_start-place.result in
    let own : UsageEntry = record { run = c.args.run; usage = UNUSED } in
    let within : i < length es = omega arith in
    let is = same_run_is c.get.result.run c.args.run (sym c.eq.ensures ∙ c.if-eq.true) in
    let here : (get_or es i own).run ≡ c.args.run = ap (λ (e : UsageEntry). e.run) (sym (c.get.ensures own)) ∙ is in
    record { within = within; is = here; usage = usage_at 2 es c.args.run i own c.requires within here }

pub returns-else-place-len-clause-none : goal.returns-else-place-len-clause-none
returns-else-place-len-clause-none c =
    let es = c.args.entries.now in
    elim c.else-place-len.branch [
      | else-place-len-via-then-place-len+else-eq w ↦
          unused_without 2 es c.args.run none c.requires (λ k is lt same.
          let at : k ≡ c.place_of_start-place.result = is ∙ sym c.place_of_start-place.ensures.place in
          let here : w.get.result.run ≡ c.args.run = ap (λ (e : UsageEntry). e.run) (w.get.ensures none) ∙ subst (λ n. (get_or es n none).run ≡ c.args.run) at same in
          true≢false (sym (same_run-eq w.get.result.run c.args.run here) ∙ (sym w.eq.ensures ∙ w.if-eq.false)))
      | else-place-len-via-else-place-len w ↦ unused_without 2 es c.args.run none c.requires (λ k is lt _. omega arith)
    ]
