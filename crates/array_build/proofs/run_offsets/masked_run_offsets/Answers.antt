use Rattle.std.specs.List.{flat_map}
use Rattle.std.proofs.Common.{◌≡◌, ◌∙◌, ◌+◌, ◌++◌, ℕ, List, ap, arith, drop, length, refl, subst, sym}
use Rattle.byteorder.specs.Endian.{little_bytes}
use Rattle.batch_build.specs.laws.Offsets.{last_offset}
use Rattle.array_build.proofs.RunOffsets.{bits_sum, sizes_under_sum}
use Rattle.array_build.proofs.run_offsets.masked_run_offsets.Goals as goal
use Rattle.array_build.specs.inner.MaskedContents.{total}
use Rattle.array_build.specs.inner.RunOffsets.{HaveOffsets, run_sizes_under, runs_sizes_under}
use Rattle.columns.specs.Built.{sums_from}
use Rattle.columns.specs.Offsets.{width_of}
use Rattle.columns.specs.declared.slot_runs.SlotRun.{SlotRun}
use Rattle.dictionary_codes.specs.Masks.{run_bits}
use Rattle.facts.specs.laws.Lists.{drop-item}

pub push_masked_run_offsets-requires : goal.push_masked_run_offsets-requires
push_masked_run_offsets-requires c =
    let w : ℕ = width_of c.args.width in
    let run : SlotRun = c.run-item.result in
    let left : List SlotRun = drop c.loop-run.run-index c.args.runs.now in
    let others : List SlotRun = drop (c.loop-run.run-index + 1) c.args.runs.now in
    let item = drop-item c.args.runs.now c.loop-run.run-index run c.loop-run-test.true c.run-item.is in
    let count = bits_sum left run others item in
    let whole = sizes_under_sum w c.args.mask.now c.loop-run.at left run others item in
    record {
      has = (subst (λ (runs : List SlotRun). HaveOffsets w runs) item c.loop-run.invariant.have).0;
      counted = omega (arith, count, c.loop-run.invariant.place, c.in_ok-slots.ensures);
      long = omega (arith, count, c.loop-run.invariant.place, c.requires.long);
      room = omega (arith, whole, c.loop-run.invariant.next, c.requires.room);
    }

pub overflow_add-at : goal.overflow_add-at
overflow_add-at c =
    let run : SlotRun = c.run-item.result in
    let others : List SlotRun = drop (c.loop-run.run-index + 1) c.args.runs.now in
    let item = drop-item c.args.runs.now c.loop-run.run-index run c.loop-run-test.true c.run-item.is in
    let count = bits_sum (drop c.loop-run.run-index c.args.runs.now) run others item in
    omega (arith, count, c.run_len-at.ensures, c.loop-run.invariant.place, c.in_ok-slots.ensures)

pub loop-run-preserved : goal.loop-run-preserved
loop-run-preserved c =
    let w : ℕ = width_of c.args.width in
    let run : SlotRun = c.run-item.result in
    let left : List SlotRun = drop c.loop-run.run-index c.args.runs.now in
    let others : List SlotRun = drop (c.loop-run.run-index + 1) c.args.runs.now in
    let item = drop-item c.args.runs.now c.loop-run.run-index run c.loop-run-test.true c.run-item.is in
    let count = bits_sum left run others item in
    let whole = sizes_under_sum w c.args.mask.now c.loop-run.at left run others item in
    let own : List ℕ = run_sizes_under w c.args.mask.now c.loop-run.at run in
    let rest : List ℕ = runs_sizes_under w c.args.mask.now (c.loop-run.at + length (run_bits run)) others in
    let split : runs_sizes_under w c.args.mask.now c.loop-run.at left ≡ own ++ rest = ap (λ (runs : List SlotRun). runs_sizes_under w c.args.mask.now c.loop-run.at runs) item in
    let place : c.loop-run.at + c.run_len-at.result ≡ c.loop-run.at + length (run_bits run) = ap (λ (n : ℕ). c.loop-run.at + n) c.run_len-at.ensures in
    let same : runs_sizes_under w c.args.mask.now (c.loop-run.at + c.run_len-at.result) others ≡ rest = ap (λ (k : ℕ). runs_sizes_under w c.args.mask.now k others) place in
    let sum = ap total same in
    record {
      have = (subst (λ (runs : List SlotRun). HaveOffsets w runs) item c.loop-run.invariant.have).1;
      place = omega (arith, place, count, c.loop-run.invariant.place);
      next = omega (arith, sum, whole, c.in_ok-next.ensures.next, c.loop-run.invariant.next);
      offsets = ap (λ (ns : List ℕ). c.push_masked_run_offsets.new.offsets.items ++ flat_map (little_bytes w) (sums_from c.in_ok-next.next ns)) same
          ∙ c.in_ok-next.ensures.offsets rest
          ∙ sym (ap (λ (ns : List ℕ). c.loop-run.offsets.items ++ flat_map (little_bytes w) (sums_from c.loop-run.next ns)) split) ∙ c.loop-run.invariant.offsets;
    }

pub returns : goal.returns
returns c =
    last_offset (width_of c.args.width) (λ (rs : List SlotRun). runs_sizes_under (width_of c.args.width) c.args.mask.now c.loop-run.at rs) c.loop-run.offsets.items _ _ c.loop-run.next c.args.runs.now
    c.loop-run.run-index refl c.loop-run-test.false c.in_ok-push_offset.ensures.ok c.loop-run.invariant.offsets
