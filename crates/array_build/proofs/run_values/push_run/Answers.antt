use Rattle.std.proofs.Common.{◌++◌, ◌∙◌, List, ℕ, ap}
use Rattle.std.proofs.lemmas.Result.{on_ok_weaker}
use Rattle.arrow_schema.specs.View.{kind_of}
use Rattle.array_build.proofs.Cleared.{are_slots}
use Rattle.array_build.proofs.run_values.push_run.Goals as goal

pub push_slots-requires : goal.push_slots-requires
push_slots-requires c =
    let known = are_slots (kind_of c.args.data_type.now) c.args.width c.in-Slots.array c.in-Slots.from c.in-Slots.len c.args.run.now c.in-Slots.is c.requires.width c.requires.sound in
    record { short = known.short; long = known.long; within = known.within }

pub returns-in-Slots : goal.returns-in-Slots
returns-in-Slots c =
    let known = are_slots (kind_of c.args.data_type.now) c.args.width c.in-Slots.array c.in-Slots.from c.in-Slots.len c.args.run.now c.in-Slots.is c.requires.width c.requires.sound in
    on_ok_weaker c.push_slots.result
    (λ h. h ∙ ap (λ (bytes : List ℕ). c.args.values.now.items ++ bytes) (known.cells c.push_slots.ensures.bytes))
    c.push_slots.ensures.values
