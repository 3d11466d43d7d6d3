use Rattle.std.proofs.Common.{refl, sym, ◌∙◌}
use Rattle.arrow_schema.specs.View.{kind_of}
use Rattle.array_build.proofs.RunValues.{run_values}
use Rattle.array_build.proofs.run_values.run_slice.Goals as goal
use Rattle.columns.specs.declared.slot_runs.SlotRun.TheVariants.{Slots}

pub slot_values-requires-clause-long : goal.slot_values-requires-clause-long
slot_values-requires-clause-long c =
    (run_values (kind_of c.args.data_type.now) c.args.width c.args.array c.args.from c.args.len (Slots c.args.array c.args.from c.args.len) refl c.requires.width c.requires.sound c.requires.written).long

pub returns : goal.returns
returns c =
    let known = run_values (kind_of c.args.data_type.now) c.args.width c.args.array c.args.from c.args.len (Slots c.args.array c.args.from c.args.len) refl c.requires.width c.requires.sound c.requires.written in
    c.slot_values.ensures.values ∙ sym (known.bytes c.slot_values.ensures.bytes)
