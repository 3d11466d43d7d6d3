use Rattle.std.proofs.Common.{◌≡◌, ◌+◌, arith}
use Rattle.std.proofs.Math.Pow.{pow_mono}
use Rattle.columns.specs.Offsets.{width_of}
use Rattle.columns.specs.View.{view_array}
use Rattle.arrays.proofs.MaskedSizes.{next_run, no_run, run_fits}
use Rattle.arrays.proofs.masked.sizes_of.Goals as goal

pub loop-left-init : goal.loop-left-init
loop-left-init c =
    let start : c.args.from + 0 ≡ c.args.from = omega arith in
    record { few = c.requires.bits; fits = (0, λ j lt. absurd (omega (arith, lt)), rw start (omega arith)); sums = omega arith }

pub first_run-begin-requires-clause-few : goal.first_run-begin-requires-clause-few
first_run-begin-requires-clause-few c = omega (arith, c.loop-left.invariant.few, pow_mono {i = c.args.count} {j = 56} c.requires.few)

pub overflow_add-from : goal.overflow_add-from
overflow_add-from c =
    let fits =
    run_fits (width_of c.args.slots.width) c.requires.ordered.0 c.loop-left.left c.args.from c.loop-left.total c.loop-left.invariant.fits.0 c.first_run-begin.result.0 c.first_run-begin.result.1 c.args.count
    (view_array c.args.slots.view) c.requires.ordered.1 c.loop-left.invariant.few c.requires.within c.first_run-begin.ensures.some c.first_run-begin.ensures.set c.loop-left.invariant.fits.1 c.loop-left.invariant.fits.2 in
    omega (arith, fits.0, c.first_run-begin.ensures.some, c.requires.within, c.slots-slots.ensures)

pub offset-first-requires-clause-within : goal.offset-first-requires-clause-within
offset-first-requires-clause-within c =
    let fits =
    run_fits (width_of c.args.slots.width) c.requires.ordered.0 c.loop-left.left c.args.from c.loop-left.total c.loop-left.invariant.fits.0 c.first_run-begin.result.0 c.first_run-begin.result.1 c.args.count
    (view_array c.args.slots.view) c.requires.ordered.1 c.loop-left.invariant.few c.requires.within c.first_run-begin.ensures.some c.first_run-begin.ensures.set c.loop-left.invariant.fits.1 c.loop-left.invariant.fits.2 in
    omega (arith, fits.0, c.first_run-begin.ensures.some, c.requires.within, c.slots-slots.ensures)

pub overflow_add-from-in-loop-left : goal.overflow_add-from-in-loop-left
overflow_add-from-in-loop-left c =
    let fits =
    run_fits (width_of c.args.slots.width) c.requires.ordered.0 c.loop-left.left c.args.from c.loop-left.total c.loop-left.invariant.fits.0 c.first_run-begin.result.0 c.first_run-begin.result.1 c.args.count
    (view_array c.args.slots.view) c.requires.ordered.1 c.loop-left.invariant.few c.requires.within c.first_run-begin.ensures.some c.first_run-begin.ensures.set c.loop-left.invariant.fits.1 c.loop-left.invariant.fits.2 in
    omega (arith, fits.0, c.first_run-begin.ensures.some, c.requires.within, c.slots-slots.ensures)

pub offset-last-requires-clause-within : goal.offset-last-requires-clause-within
offset-last-requires-clause-within c =
    let fits =
    run_fits (width_of c.args.slots.width) c.requires.ordered.0 c.loop-left.left c.args.from c.loop-left.total c.loop-left.invariant.fits.0 c.first_run-begin.result.0 c.first_run-begin.result.1 c.args.count
    (view_array c.args.slots.view) c.requires.ordered.1 c.loop-left.invariant.few c.requires.within c.first_run-begin.ensures.some c.first_run-begin.ensures.set c.loop-left.invariant.fits.1 c.loop-left.invariant.fits.2 in
    omega (arith, fits.0, c.first_run-begin.ensures.some, c.requires.within, c.slots-slots.ensures)

pub overflow_sub-total : goal.overflow_sub-total
overflow_sub-total c =
    let fits =
    run_fits (width_of c.args.slots.width) c.requires.ordered.0 c.loop-left.left c.args.from c.loop-left.total c.loop-left.invariant.fits.0 c.first_run-begin.result.0 c.first_run-begin.result.1 c.args.count
    (view_array c.args.slots.view) c.requires.ordered.1 c.loop-left.invariant.few c.requires.within c.first_run-begin.ensures.some c.first_run-begin.ensures.set c.loop-left.invariant.fits.1 c.loop-left.invariant.fits.2 in
    omega (arith, fits.2, c.offset-first.ensures, c.offset-last.ensures)

pub overflow_add-total : goal.overflow_add-total
overflow_add-total c =
    let fits =
    run_fits (width_of c.args.slots.width) c.requires.ordered.0 c.loop-left.left c.args.from c.loop-left.total c.loop-left.invariant.fits.0 c.first_run-begin.result.0 c.first_run-begin.result.1 c.args.count
    (view_array c.args.slots.view) c.requires.ordered.1 c.loop-left.invariant.few c.requires.within c.first_run-begin.ensures.some c.first_run-begin.ensures.set c.loop-left.invariant.fits.1 c.loop-left.invariant.fits.2 in
    omega (arith, fits.1, fits.2, c.offset-first.ensures, c.offset-last.ensures)

pub loop-left-preserved : goal.loop-left-preserved
loop-left-preserved c =
    let run = c.first_run-begin.ensures in
    let fits =
    run_fits (width_of c.args.slots.width) c.requires.ordered.0 c.loop-left.left c.args.from c.loop-left.total c.loop-left.invariant.fits.0 c.first_run-begin.result.0 c.first_run-begin.result.1 c.args.count
    (view_array c.args.slots.view) c.requires.ordered.1 c.loop-left.invariant.few c.requires.within c.first_run-begin.ensures.some c.first_run-begin.ensures.set c.loop-left.invariant.fits.1 c.loop-left.invariant.fits.2 in
    let more = next_run (width_of c.args.slots.width) c.requires.ordered.0 c.loop-left.left c.first_run-begin.result.2 c.args.from c.first_run-begin.result.0 c.first_run-begin.result.1 c.args.count
    (view_array c.args.slots.view) c.requires.ordered.1 run.some fits.0 c.requires.within run.unset run.set run.before run.after in
    record {
      few = omega (arith, run.fewer, c.loop-left.invariant.few);
      fits = (c.first_run-begin.result.1, run.before, omega (arith, fits.1, fits.2, c.offset-first.ensures, c.offset-last.ensures));
      sums = omega (arith, c.loop-left.invariant.sums, more, fits.2, c.offset-first.ensures, c.offset-last.ensures);
    }

pub returns : goal.returns
returns c =
    let zero : c.loop-left.left ≡ 0 = omega (arith, c.loop-left-test.false) in
    omega (arith, no_run (width_of c.args.slots.width) c.loop-left.left c.args.from c.args.count (view_array c.args.slots.view) zero, c.loop-left.invariant.sums)
