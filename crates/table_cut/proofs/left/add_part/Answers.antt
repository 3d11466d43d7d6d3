use Rattle.std.specs.List.{flat_map, list_all}
use Rattle.std.proofs.Common.{◌++◌, List, sym, ap, ◌∙◌}
use Rattle.std.proofs.lemmas.List.{append-nil}
use Rattle.facts.specs.laws.Lists.{all_with_item}
use Rattle.columns.specs.CellAt.{rows_in}
use Rattle.columns.specs.Sound.{are_sound}
use Rattle.columns.specs.View.{placed_arrays}
use Rattle.columns.specs.declared.array.PlacedArray.{PlacedArray}
use Rattle.table_cut.specs.Rows.{runs_rows}
use Rattle.table_cut.proofs.PartLemmas.{next_joined}
use Rattle.table_cut.proofs.RunSteps.{all_items}
use Rattle.values.specs.Parts.{batch_rows, is_batch_sound}
use Rattle.values.specs.declared.table_part.Batch.{Batch}
use Rattle.table_cut.proofs.left.add_part.Goals as goal

pub loop-batch-init : goal.loop-batch-init
loop-batch-init c = record {
  items = c.deref-batch-items.ensures.value;
  rows = λ cs. sym (append-nil (runs_rows cs c.args.runs.now.items));
  sound = λ cs sound none. sound;
}

pub loop-batch-preserved : goal.loop-batch-preserved
loop-batch-preserved c =
    let is = c.loop-batch.invariant in
    let all : List Batch = c.deref-batch-items.result.now in
    let i = c.loop-batch.batch-index in
    record {
      items = is.items;
      rows = λ cs. next_joined (batch_rows cs c.args.part.now) all i c.batch-item.result (runs_rows cs c.push_run.new.runs.items) (runs_rows cs c.loop-batch.runs.items) (runs_rows cs c.args.runs.now.items)
          c.loop-batch-test.true c.batch-item.is
          (c.in_ok-push_run.ensures.rows cs ∙ ap (λ xs. runs_rows cs c.loop-batch.runs.items ++ xs) (c.whole_batch.ensures.rows cs ∙ ap (λ (arrays : List PlacedArray). rows_in cs (placed_arrays c.args.part.now.bytes.items c.args.part.now.dictionaries.items arrays) c.batch-item.result.rows) c.deref.ensures.value))
          (is.rows cs);
      sound = λ cs before passes.
          let both = all_with_item (is_batch_sound cs c.args.part.now) all i c.batch-item.result c.loop-batch-test.true c.batch-item.is passes in
          c.in_ok-push_run.ensures.sound cs (is.sound cs before both.0) (c.whole_batch.ensures.sound cs (ap (λ (arrays : List PlacedArray). are_sound cs c.batch-item.result.rows (placed_arrays c.args.part.now.bytes.items c.args.part.now.dictionaries.items arrays)) c.deref.ensures.value ∙ both.1));
    }

pub returns-clause-rows : goal.returns-clause-rows
returns-clause-rows c cs =
    let is = c.loop-batch.invariant in
    is.rows cs ∙ ap (λ xs. runs_rows cs c.args.runs.now.items ++ flat_map (batch_rows cs c.args.part.now) xs) (all_items c.loop-batch.batch-index c.deref-batch-items.result.now c.args.part.now.batches.items c.loop-batch-test.false is.items)

pub returns-clause-sound : goal.returns-clause-sound
returns-clause-sound c cs before passes =
    let is = c.loop-batch.invariant in
    is.sound cs before (ap (list_all (is_batch_sound cs c.args.part.now)) (all_items c.loop-batch.batch-index c.deref-batch-items.result.now c.args.part.now.batches.items c.loop-batch-test.false is.items) ∙ passes)
