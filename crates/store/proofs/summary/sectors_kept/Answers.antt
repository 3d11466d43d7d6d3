use Rattle.std.proofs.Common.{◌+◌, ◌∷◌, ◌∙◌, get_or, take, sym, ap, arith}
use Rattle.std.proofs.lemmas.Bool.{not-true, not-false}
use Rattle.std.proofs.lemmas.List.{take_more}
use Rattle.segments.specs.declared.run.Run.{Run}
use Rattle.segments.specs.declared.entries.Usage.{Usage}
use Rattle.commit.specs.laws.Frame.{fault_none}
use Rattle.store.proofs.KeptRuns.{kept_none, kept_same, kept_more, kept_at, kept_fit, counts_none, none_fit}
use Rattle.store.proofs.summary.sectors_kept.Goals as goal
use Rattle.store.proofs.summary.sectors_kept.Goals.{then-not-usage+in-Ok-occupy, else-not-usage}

abbrev none : Run
none = record { start = 0; count = 0 }

pub returns-then-is_empty-clause-kept : goal.returns-then-is_empty-clause-kept
returns-then-is_empty-clause-kept c = counts_none c.args.sectors c.args.text c.args.used.now c.args.kept.now c.requires.fit (sym c.is_empty.ensures ∙ c.if-is_empty.true)

pub returns-then-is_empty-clause-fits : goal.returns-then-is_empty-clause-fits
returns-then-is_empty-clause-fits c = none_fit c.args.sectors c.args.text c.args.used.now c.requires.size c.requires.placed c.requires.fit

pub loop-run-init : goal.loop-run-init
loop-run-init c =
    kept_none c.args.sectors (c.args.text ∷ c.args.used.now) c.in-Ok.map c.in-Ok.ensures.size c.in-Ok.ensures.uses (fault_none c.args.sectors c.args.text c.args.used.now c.requires.fit).1

pub overflow_add-count : goal.overflow_add-count
overflow_add-count c =
    let fits = kept_fit c.args.sectors c.args.text c.args.used.now (take c.loop-run.run-index c.args.kept.now) c.loop-run.map c.loop-run.count c.requires.size c.requires.placed c.requires.fit c.loop-run.invariant in
    omega (arith, fits.0, fits.1, c.in-Ok-occupy.ensures.fits.0.within, c.loop-run.invariant.entered.size_is)

pub loop-run-preserved : goal.loop-run-preserved
loop-run-preserved c =
    let used = c.args.text ∷ c.args.used.now in
    let kept = c.args.kept.now in
    let i = c.loop-run.run-index in
    let run = get_or kept i none in
    let next = take_more kept i none c.loop-run-test.true in
    let taken = ap (λ (u : Usage). u.taken) (sym c.usage.ensures.usage) in
    elim c.if-not-usage.branch [
      | then-not-usage+in-Ok-occupy w ↦
          kept_at c.args.sectors used (take (i + 1) kept) w.occupy.new.self c.if-not-usage.map (c.loop-run.count + run.count) c.if-not-usage.count w.map-is w.count-is
          (kept_more c.args.sectors used (take i kept) (take (i + 1) kept) run c.loop-run.map w.occupy.new.self c.loop-run.count next (taken ∙ not-true _ w.if-not-usage.true)
          w.in-Ok-occupy.ensures.fits.0 w.in-Ok-occupy.ensures.fits.1 w.in-Ok-occupy.ensures.changes c.loop-run.invariant)
      | else-not-usage w ↦
          kept_at c.args.sectors used (take (i + 1) kept) c.loop-run.map c.if-not-usage.map c.loop-run.count c.if-not-usage.count w.map-is w.count-is
          (kept_same c.args.sectors used (take i kept) (take (i + 1) kept) run c.loop-run.map c.loop-run.count next (taken ∙ not-false _ w.if-not-usage.false) c.loop-run.invariant)
    ]

pub returns-clause-fits : goal.returns-clause-fits
returns-clause-fits c =
    (kept_fit c.args.sectors c.args.text c.args.used.now (take c.loop-run.run-index c.args.kept.now) c.loop-run.map c.loop-run.count c.requires.size c.requires.placed c.requires.fit c.loop-run.invariant).0
