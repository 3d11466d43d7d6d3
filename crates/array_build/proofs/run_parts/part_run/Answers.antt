use Rattle.std.proofs.Common.{sym, subst, refl}
use Rattle.array_build.proofs.RunParts.{part_found, part_absent}
use Rattle.array_build.proofs.run_parts.part_run.Goals as goal
use Rattle.array_build.specs.inner.RunParts.{IsPartOf}
use Rattle.columns.specs.declared.slot_runs.SlotRun.{SlotRun}
use Rattle.columns.specs.declared.slot_runs.SlotRun.TheVariants.{Slots, Nulls}
use Rattle.columns.specs.declared.view.ArrayView.{ArrayView}

pub returns-in-Some : goal.returns-in-Some
returns-in-Some c =
    let child : ArrayView = record { array = c.in-Some.child; bytes = c.in-Slots.array.bytes; dictionaries = c.in-Slots.array.dictionaries } in
    subst (λ (run : SlotRun). IsPartOf c.args.place run (Slots child c.in-Slots.from c.in-Slots.len)) (sym c.in-Slots.is)
    (part_found c.args.place c.in-Slots.array child c.in-Slots.from c.in-Slots.len c.children.result.now c.in-Some.child.now c.children.ensures c.in-Some.ensures.lookup.3.0 (c.in-Some.ensures.lookup.3.1 _) refl)

pub returns-in-None : goal.returns-in-None
returns-in-None c =
    subst (λ (run : SlotRun). IsPartOf c.args.place run (Nulls 0)) (sym c.in-Slots.is)
    (part_absent c.args.place c.in-Slots.array c.in-Slots.from c.in-Slots.len c.children.result.now c.children.ensures c.in-None.ensures.lookup.3)
