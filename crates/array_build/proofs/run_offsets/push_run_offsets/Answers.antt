use Rattle.std.specs.Prelude.{IfOk}
use Rattle.std.specs.List.{flat_map}
use Rattle.std.proofs.Common.{◌≡◌, ◌+◌, ◌++◌, ◌∙◌, ℕ, List, arith, ap, sym, subst}
use Rattle.byteorder.specs.Endian.{little_bytes}
use Rattle.array_build.proofs.RunOffsets.{none_sum, slots_have, slots_sum}
use Rattle.array_build.proofs.run_offsets.push_run_offsets.Goals as goal
use Rattle.array_build.specs.inner.RunOffsets.{run_sizes}
use Rattle.array_build.specs.inner.Runs.{AreOffsetsAdded}
use Rattle.columns.specs.Built.{sums_from}
use Rattle.columns.specs.Offsets.{width_of}
use Rattle.columns.specs.declared.slot_runs.SlotRun.{SlotRun}

pub push_slot_offsets-requires : goal.push_slot_offsets-requires
push_slot_offsets-requires c =
    let have = slots_have (width_of c.args.width) c.in-Slots.array c.in-Slots.from c.in-Slots.len c.args.run.now c.in-Slots.is c.requires.has in
    let whole = slots_sum (width_of c.args.width) c.in-Slots.array c.in-Slots.from c.in-Slots.len c.args.run.now c.in-Slots.is c.requires.has in
    record {
      long = have.few;
      ordered = have.ordered;
      within = have.within;
      fits = omega (arith, whole, c.requires.room);
    }

pub returns-in-Slots-clause-offsets : goal.returns-in-Slots-clause-offsets
returns-in-Slots-clause-offsets c =
    subst (λ (sizes : List ℕ). IfOk c.push_slot_offsets.result (λ next. AreOffsetsAdded (width_of c.args.width) c.args.offsets.now.items c.push_slot_offsets.new.offsets.items c.args.start next sizes))
    (sym (ap (λ (run : SlotRun). run_sizes (width_of c.args.width) run) c.in-Slots.is)) c.push_slot_offsets.ensures.offsets

pub returns-in-Slots-clause-next : goal.returns-in-Slots-clause-next
returns-in-Slots-clause-next c =
    let whole = slots_sum (width_of c.args.width) c.in-Slots.array c.in-Slots.from c.in-Slots.len c.args.run.now c.in-Slots.is c.requires.has in
    subst (λ (n : ℕ). IfOk c.push_slot_offsets.result (λ next. next ≡ c.args.start + n)) (sym whole) c.push_slot_offsets.ensures.next

pub returns-in_ok-push_null_offsets-in-Nulls-clause-offsets : goal.returns-in_ok-push_null_offsets-in-Nulls-clause-offsets
returns-in_ok-push_null_offsets-in-Nulls-clause-offsets c = λ rest.
    c.in_ok-push_null_offsets-in-Nulls.ensures rest
    ∙ ap (λ (sizes : List ℕ). c.args.offsets.now.items ++ flat_map (little_bytes (width_of c.args.width)) (sums_from c.args.start (sizes ++ rest)))
    (sym (ap (λ (run : SlotRun). run_sizes (width_of c.args.width) run) c.in-Nulls.is))

pub returns-in_ok-push_null_offsets-in-Nulls-clause-next : goal.returns-in_ok-push_null_offsets-in-Nulls-clause-next
returns-in_ok-push_null_offsets-in-Nulls-clause-next c =
    let none = none_sum (width_of c.args.width) c.in-Nulls.count c.args.run.now c.in-Nulls.is in
    omega (arith, none)
