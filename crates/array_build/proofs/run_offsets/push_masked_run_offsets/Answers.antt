use Rattle.std.specs.Prelude.{IfOk}
use Rattle.std.specs.List.{flat_map}
use Rattle.std.proofs.Common.{◌≡◌, ◌+◌, ◌++◌, ◌∙◌, ℕ, List, arith, ap, sym, subst}
use Rattle.byteorder.specs.Endian.{little_bytes}
use Rattle.array_build.proofs.RunOffsets.{none_under, slots_have, slots_under}
use Rattle.array_build.proofs.run_offsets.push_masked_run_offsets.Goals as goal
use Rattle.array_build.specs.inner.MaskedContents.{total}
use Rattle.array_build.specs.inner.RunOffsets.{run_sizes_under}
use Rattle.array_build.specs.inner.Runs.{AreOffsetsAdded}
use Rattle.columns.specs.Built.{sums_from}
use Rattle.columns.specs.Offsets.{width_of}
use Rattle.columns.specs.declared.slot_runs.SlotRun.{SlotRun}
use Rattle.dictionary_codes.specs.laws.SlotCounts.{slots_counted}

pub overflow_add-at : goal.overflow_add-at
overflow_add-at c =
    let many = slots_counted c.in-Slots.array c.in-Slots.from c.in-Slots.len c.args.run.now c.in-Slots.is in
    omega (arith, many, c.requires.counted)

pub push_masked_slot_offsets-requires : goal.push_masked_slot_offsets-requires
push_masked_slot_offsets-requires c =
    let many = slots_counted c.in-Slots.array c.in-Slots.from c.in-Slots.len c.args.run.now c.in-Slots.is in
    let have = slots_have (width_of c.args.width) c.in-Slots.array c.in-Slots.from c.in-Slots.len c.args.run.now c.in-Slots.is c.requires.has in
    let sizes = slots_under (width_of c.args.width) c.args.mask.now c.args.at c.in-Slots.array c.in-Slots.from c.in-Slots.len c.args.run.now c.in-Slots.is in
    let whole = ap total sizes in
    let within = have.within in
    record {
      long = have.few;
      ordered = have.ordered;
      order = omega arith;
      bits = omega (arith, many, c.requires.long);
      within = omega (arith, within);
      fits = omega (arith, whole, c.requires.room);
    }

pub returns-in-Slots-clause-offsets : goal.returns-in-Slots-clause-offsets
returns-in-Slots-clause-offsets c =
    let sizes = slots_under (width_of c.args.width) c.args.mask.now c.args.at c.in-Slots.array c.in-Slots.from c.in-Slots.len c.args.run.now c.in-Slots.is in
    subst (λ (ns : List ℕ). IfOk c.push_masked_slot_offsets.result (λ next. AreOffsetsAdded (width_of c.args.width) c.args.offsets.now.items c.push_masked_slot_offsets.new.offsets.items c.args.start next ns))
    sizes c.push_masked_slot_offsets.ensures.offsets

pub returns-in-Slots-clause-next : goal.returns-in-Slots-clause-next
returns-in-Slots-clause-next c =
    let sizes = slots_under (width_of c.args.width) c.args.mask.now c.args.at c.in-Slots.array c.in-Slots.from c.in-Slots.len c.args.run.now c.in-Slots.is in
    subst (λ (n : ℕ). IfOk c.push_masked_slot_offsets.result (λ next. next ≡ c.args.start + n)) (ap total sizes) c.push_masked_slot_offsets.ensures.next

pub returns-in_ok-push_null_offsets-in-Nulls-clause-offsets : goal.returns-in_ok-push_null_offsets-in-Nulls-clause-offsets
returns-in_ok-push_null_offsets-in-Nulls-clause-offsets c = λ rest.
    c.in_ok-push_null_offsets-in-Nulls.ensures rest
    ∙ ap (λ (sizes : List ℕ). c.args.offsets.now.items ++ flat_map (little_bytes (width_of c.args.width)) (sums_from c.args.start (sizes ++ rest)))
    (sym (ap (λ (run : SlotRun). run_sizes_under (width_of c.args.width) c.args.mask.now c.args.at run) c.in-Nulls.is))

pub returns-in_ok-push_null_offsets-in-Nulls-clause-next : goal.returns-in_ok-push_null_offsets-in-Nulls-clause-next
returns-in_ok-push_null_offsets-in-Nulls-clause-next c =
    let none = none_under (width_of c.args.width) c.args.mask.now c.args.at c.in-Nulls.count c.args.run.now c.in-Nulls.is in
    omega (arith, none)
