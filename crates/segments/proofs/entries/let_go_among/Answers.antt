use Rattle.std.proofs.Common.{◌∙◌, take, get_or, sym, ap, subst, List, [], ◌∷◌, ◌++◌}
use Rattle.std.proofs.lemmas.List.{take_more}
use Rattle.segments.specs.declared.run.Run.{Run}
use Rattle.segments.specs.declared.entries.UsageEntry.{UsageEntry}
use Rattle.segments.specs.Usages.{UNUSED}
use Rattle.segments.specs.inner.Places.{LetGoAmong, without}
use Rattle.segments.proofs.LetGo.{none_let_go, let_go_at, let_go_unused}
use Rattle.segments.proofs.entries.let_go_among.Goals as goal
use Rattle.segments.proofs.entries.let_go_among.Goals.{in-Some, in_default}

abbrev none : Run
none = record { start = 0; count = 0 }

pub loop-run-init : goal.loop-run-init
loop-run-init c = none_let_go c.args.holder c.args.entries.now c.requires

pub loop-run-preserved : goal.loop-run-preserved
loop-run-preserved c =
    let holder = c.args.holder in
    let old = c.args.entries.now in
    let es = c.loop-run.entries in
    let i = c.loop-run.run-index in
    let runs = c.args.runs.now in
    let run = get_or runs i none in
    subst (LetGoAmong holder old c.match-place_of_run.entries) (sym (take_more runs i none c.loop-run-test.true))
    (elim c.match-place_of_run.branch [
      | in-Some w ↦
          let k = w.in-Some.place in
          let found = w.in-Some.ensures.found in
          let own : UsageEntry = record { run = run; usage = UNUSED } in
          let_go_at holder old es c.match-place_of_run.entries (take i runs) run k w.without-usage.result c.loop-run.invariant found
          (w.without-usage.ensures ∙ ap (without holder) (ap (λ (e : UsageEntry). e.usage) (w.get-entry.ensures own) ∙ found.usage)) (w.entries-is ∙ w.set.ensures)
      | in_default w ↦
          subst (λ (es : List UsageEntry). LetGoAmong holder old es (take i runs ++ run ∷ [])) (sym w.entries-is)
          (let_go_unused holder old es (take i runs) run c.loop-run.invariant w.in_default.ensures.none)
    ])
