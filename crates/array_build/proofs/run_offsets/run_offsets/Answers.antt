use Rattle.std.specs.List.{flat_map}
use Rattle.std.proofs.Common.{◌≡◌, ◌∙◌, ◌+◌, ◌++◌, ℕ, List, ap, arith, drop, refl, subst, sym}
use Rattle.byteorder.specs.Endian.{little_bytes}
use Rattle.batch_build.specs.laws.Offsets.{last_offset}
use Rattle.array_build.proofs.RunOffsets.{sizes_sum}
use Rattle.array_build.proofs.run_offsets.run_offsets.Goals as goal
use Rattle.array_build.specs.inner.RunOffsets.{HaveOffsets, run_sizes, runs_sizes}
use Rattle.columns.specs.Built.{sums_from}
use Rattle.columns.specs.Offsets.{width_of}
use Rattle.columns.specs.declared.slot_runs.SlotRun.{SlotRun}
use Rattle.facts.specs.laws.Lists.{drop-item}

pub push_run_offsets-requires : goal.push_run_offsets-requires
push_run_offsets-requires c =
    let w : ℕ = width_of c.args.width in
    let run : SlotRun = c.run-item.result in
    let others : List SlotRun = drop (c.loop-run.run-index + 1) c.args.runs.now in
    let item = drop-item c.args.runs.now c.loop-run.run-index run c.loop-run-test.true c.run-item.is in
    let whole = sizes_sum w (drop c.loop-run.run-index c.args.runs.now) run others item in
    record {
      has = (subst (λ (runs : List SlotRun). HaveOffsets w runs) item c.loop-run.invariant.have).0;
      room = omega (arith, whole, c.loop-run.invariant.next, c.requires.room);
    }

pub loop-run-preserved : goal.loop-run-preserved
loop-run-preserved c =
    let w : ℕ = width_of c.args.width in
    let run : SlotRun = c.run-item.result in
    let others : List SlotRun = drop (c.loop-run.run-index + 1) c.args.runs.now in
    let item = drop-item c.args.runs.now c.loop-run.run-index run c.loop-run-test.true c.run-item.is in
    let whole = sizes_sum w (drop c.loop-run.run-index c.args.runs.now) run others item in
    let split : runs_sizes w (drop c.loop-run.run-index c.args.runs.now) ≡ run_sizes w run ++ runs_sizes w others = ap (λ (runs : List SlotRun). runs_sizes w runs) item in
    record {
      have = (subst (λ (runs : List SlotRun). HaveOffsets w runs) item c.loop-run.invariant.have).1;
      next = omega (arith, whole, c.in_ok-next.ensures.next, c.loop-run.invariant.next);
      offsets = c.in_ok-next.ensures.offsets (runs_sizes w others)
          ∙ sym (ap (λ (ns : List ℕ). c.loop-run.offsets.items ++ flat_map (little_bytes w) (sums_from c.loop-run.next ns)) split) ∙ c.loop-run.invariant.offsets;
    }

pub returns : goal.returns
returns c =
    last_offset (width_of c.args.width) (λ (rs : List SlotRun). runs_sizes (width_of c.args.width) rs) c.loop-run.offsets.items _ _ c.loop-run.next c.args.runs.now c.loop-run.run-index refl
    c.loop-run-test.false c.in_ok-push_offset.ensures.ok c.loop-run.invariant.offsets
