use Rattle.std.specs.List.{flat_map}
use Rattle.std.proofs.Common.{◌++◌, ◌∙◌, ℕ, List, arith, ap, sym}
use Rattle.std.proofs.lemmas.List.{append-nil}
use Rattle.std.proofs.lemmas.Result.{on_ok_weaker}
use Rattle.arrow_schema.specs.View.{kind_of}
use Rattle.array_build.proofs.MaskedContents.{run_of_nulls_under, run_texts_under}
use Rattle.array_build.proofs.RunContents.{no_contents}
use Rattle.array_build.proofs.masked_contents.push_run_contents.Goals as goal
use Rattle.cells.specs.Cell.{Cell}
use Rattle.columns.specs.Built.{contents_of}
use Rattle.columns.specs.Offsets.{width_of}

pub overflow_add-at : goal.overflow_add-at
overflow_add-at c =
    let known = run_texts_under (kind_of c.args.data_type.now) (width_of c.args.width) c.args.mask.now c.args.at c.in-Slots.array c.in-Slots.from c.in-Slots.len c.args.run.now c.in-Slots.is c.requires.width c.requires.sound c.requires.below in
    let many = known.count in
    omega (arith, many, c.requires.counted)

pub push_slot_contents-requires : goal.push_slot_contents-requires
push_slot_contents-requires c =
    let known = run_texts_under (kind_of c.args.data_type.now) (width_of c.args.width) c.args.mask.now c.args.at c.in-Slots.array c.in-Slots.from c.in-Slots.len c.args.run.now c.in-Slots.is c.requires.width c.requires.sound c.requires.below in
    let many = known.count in
    record {
      long = known.few;
      ordered = known.up;
      order = omega arith;
      bits = omega (arith, many, c.requires.long);
      within = known.within;
    }

pub returns-in-Slots : goal.returns-in-Slots
returns-in-Slots c =
    let known = run_texts_under (kind_of c.args.data_type.now) (width_of c.args.width) c.args.mask.now c.args.at c.in-Slots.array c.in-Slots.from c.in-Slots.len c.args.run.now c.in-Slots.is c.requires.width c.requires.sound c.requires.below in
    on_ok_weaker c.push_slot_contents.result (λ h. h ∙ ap (λ (bytes : List ℕ). c.args.contents.now.items ++ bytes) (sym known.contents)) c.push_slot_contents.ensures

pub returns-in-Nulls : goal.returns-in-Nulls
returns-in-Nulls c =
    let none = ap (λ (cells : List Cell). flat_map contents_of cells) (run_of_nulls_under (kind_of c.args.data_type.now) c.args.mask.now c.args.at c.in-Nulls.field-0 c.args.run.now c.in-Nulls.is)
    ∙ no_contents (kind_of c.args.data_type.now) c.in-Nulls.field-0 c.args.run.now c.in-Nulls.is in
    sym (ap (λ (bytes : List ℕ). c.args.contents.now.items ++ bytes) none ∙ append-nil c.args.contents.now.items)
