use Rattle.std.specs.List.{list_all}
use Rattle.std.proofs.Common.{refl, ap, ◌∙◌, []}
use Rattle.facts.specs.laws.Lists.{all_with_item}
use Rattle.table_cut.specs.Rows.{runs_rows, are_runs_sound}
use Rattle.table_cut.proofs.PartLemmas.{next_joined}
use Rattle.table_cut.proofs.RunSteps.{all_items}
use Rattle.values.specs.Parts.{part_rows, parts_rows, are_parts_sound, is_batch_sound}
use Rattle.values.specs.declared.table_part.TablePart.{TablePart}
use Rattle.table_cut.proofs.left.RowsLeft.new.Goals as goal

pub loop-part-init : goal.loop-part-init
loop-part-init c = record {
  rows = λ cs. ap (runs_rows cs) c.new-runs.ensures.items;
  sound = λ cs none. ap (are_runs_sound cs) c.new-runs.ensures.items;
}

pub loop-part-preserved : goal.loop-part-preserved
loop-part-preserved c =
    let is = c.loop-part.invariant in
    let i = c.loop-part.part-index in
    record {
      rows = λ cs. next_joined (part_rows cs) c.args.parts.now i c.part-item.result (runs_rows cs c.add_part.new.runs.items) (runs_rows cs c.loop-part.runs.items) []
          c.loop-part-test.true c.part-item.is (c.in_ok-add_part.ensures.rows cs) (is.rows cs);
      sound = λ cs passes.
          let both = all_with_item (λ (p : TablePart). list_all (is_batch_sound cs p) p.batches.items) c.args.parts.now i c.part-item.result c.loop-part-test.true c.part-item.is passes in
          c.in_ok-add_part.ensures.sound cs (is.sound cs both.0) both.1;
    }

pub returns : goal.returns
returns c =
    let is = c.loop-part.invariant in
    record {
      rows = λ cs. ap (runs_rows cs) c.of_runs.ensures ∙ is.rows cs ∙ ap (parts_rows cs) (all_items c.loop-part.part-index c.args.parts.now c.args.parts.now c.loop-part-test.false refl);
      sound = λ cs passes. ap (are_runs_sound cs) c.of_runs.ensures ∙ is.sound cs (ap (are_parts_sound cs) (all_items c.loop-part.part-index c.args.parts.now c.args.parts.now c.loop-part-test.false refl) ∙ passes);
    }
