use Rattle.std.proofs.Common.{refl, sym, ◌∙◌}
use Rattle.arrow_schema.specs.View.{kind_of}
use Rattle.columns.specs.Offsets.{width_of}
use Rattle.array_build.proofs.RunContents.{run_texts}
use Rattle.array_build.proofs.run_contents.run_slice.Goals as goal
use Rattle.columns.specs.declared.slot_runs.SlotRun.TheVariants.{Slots}

pub slot_contents-requires-clause-long : goal.slot_contents-requires-clause-long
slot_contents-requires-clause-long c =
    (run_texts (kind_of c.args.data_type.now) (width_of c.args.width) c.args.array c.args.from c.args.len (Slots c.args.array c.args.from c.args.len) refl c.requires.width c.requires.sound c.requires.written).few

pub returns : goal.returns
returns c =
    let known = run_texts (kind_of c.args.data_type.now) (width_of c.args.width) c.args.array c.args.from c.args.len (Slots c.args.array c.args.from c.args.len) refl c.requires.width c.requires.sound c.requires.written in
    c.slot_contents.ensures ∙ sym known.contents
