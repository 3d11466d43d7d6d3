use Rattle.std.specs.List.{list_all}
use Rattle.std.proofs.Common.{◌∙◌, ◌+◌, ◌++◌, List, ap, drop, refl, sym}
use Rattle.std.proofs.lemmas.Bool.{and_parts}
use Rattle.facts.specs.laws.Lists.{drop-item}
use Rattle.batch_build.specs.laws.Ended.{ended}
use Rattle.batch_build.specs.laws.Turns.{turned}
use Rattle.array_build.proofs.run_flags.run_flags.Goals as goal
use Rattle.dictionary_codes.specs.Masks.{run_bits, runs_bits}
use Rattle.columns.specs.Runs.{has_validity}
use Rattle.columns.specs.declared.slot_runs.SlotRun.{SlotRun}

pub push_run-requires : goal.push_run-requires
push_run-requires c =
    let others : List SlotRun = drop (c.loop-run.run-index + 1) c.args.runs.now in
    let item = drop-item c.args.runs.now c.loop-run.run-index c.run-item.result c.loop-run-test.true c.run-item.is in
    (and_parts (has_validity c.run-item.result) (list_all has_validity others) (sym (ap (list_all has_validity) item) ∙ c.loop-run.invariant.left)).0

pub loop-run-preserved : goal.loop-run-preserved
loop-run-preserved c =
    let others : List SlotRun = drop (c.loop-run.run-index + 1) c.args.runs.now in
    let item = drop-item c.args.runs.now c.loop-run.run-index c.run-item.result c.loop-run-test.true c.run-item.is in
    record {
      left = (and_parts (has_validity c.run-item.result) (list_all has_validity others) (sym (ap (list_all has_validity) item) ∙ c.loop-run.invariant.left)).1;
      flags = turned c.loop-run.flags.items (run_bits c.run-item.result) (runs_bits others) _ _ c.in_ok-push_run.ensures
          (sym (ap (λ (rs : List SlotRun). c.loop-run.flags.items ++ runs_bits rs) item) ∙ c.loop-run.invariant.flags);
    }

pub returns : goal.returns
returns c = ended runs_bits c.loop-run.flags.items _ c.args.runs.now c.loop-run.run-index refl c.loop-run-test.false c.loop-run.invariant.flags
