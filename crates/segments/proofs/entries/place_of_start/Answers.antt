use Rattle.std.proofs.Common.{◌≡◌, ◌≤◌, ◌<◌, ◌+◌, ◌-◌, ◌/◌, length, get_or, false, ap, subst, arith}
use Rattle.std.proofs.lemmas.List.{get_or_default}
use Rattle.segments.specs.declared.entries.UsageEntry.{UsageEntry}
use Rattle.segments.proofs.Placed.{place_is, ascending_rises}
use Rattle.segments.proofs.entries.place_of_start.Goals as goal

pub returns-clause-place : goal.returns-clause-place
returns-clause-place c =
    let same : c.loop-low.low ≡ c.loop-low.high = omega (arith, c.loop-low.invariant.order, c.loop-low-test.false) in
    place_is c.args.start c.args.entries.now c.loop-low.low (omega (arith, c.loop-low.invariant.order, c.loop-low.invariant.within)) c.loop-low.invariant.before
    (λ k d ge lt. c.loop-low.invariant.behind k d (omega arith) lt)

abbrev zero_entry : UsageEntry
zero_entry = record { run = record { start = 0; count = 0 }; usage = record { taken = false; pins = 0 } }

pub loop-low-preserved-then-get-start : goal.loop-low-preserved-then-get-start
loop-low-preserved-then-get-start c =
    let es = c.args.entries.now in
    let middle = c.loop-low.low + (c.loop-low.high - c.loop-low.low) / 2 in
    let within : middle < length es = omega (arith, c.loop-low-test.true, c.loop-low.invariant.within) in
    let below : (get_or es middle zero_entry).run.start < c.args.start = subst (λ (e : UsageEntry). e.run.start < c.args.start) (c.get.ensures zero_entry) c.if-get-start.true in
    record {
      order = omega (arith, c.loop-low-test.true);
      within = c.loop-low.invariant.within;
      before = λ k d lt.
          let rises = ascending_rises 2 es c.requires k middle d (omega arith) within in
          omega (arith, rises, below, ap (λ (e : UsageEntry). e.run.start) (get_or_default es middle d zero_entry within));
      behind = c.loop-low.invariant.behind;
    }

pub loop-low-preserved : goal.loop-low-preserved
loop-low-preserved c =
    let es = c.args.entries.now in
    let middle = c.loop-low.low + (c.loop-low.high - c.loop-low.low) / 2 in
    let within : middle < length es = omega (arith, c.loop-low-test.true, c.loop-low.invariant.within) in
    let above : c.args.start ≤ (get_or es middle zero_entry).run.start = subst (λ (e : UsageEntry). c.args.start ≤ e.run.start) (c.get.ensures zero_entry) c.if-get-start.false in
    record {
      order = omega (arith, c.loop-low-test.true);
      within = omega (arith, within);
      before = c.loop-low.invariant.before;
      behind = λ k d ge lt.
          let rises = ascending_rises 2 es c.requires middle k d ge lt in
          omega (arith, rises, above, ap (λ (e : UsageEntry). e.run.start) (get_or_default es middle d zero_entry within));
    }
