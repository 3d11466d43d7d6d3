use Rattle.std.specs.Prelude.{None}
use Rattle.std.proofs.Common.{◌∙◌, ◌+◌, ◌++◌, Bool, List, ap, drop, refl, sym}
use Rattle.std.proofs.lemmas.Bool.{and_parts}
use Rattle.arrow_schema.specs.Column.{Column, booleans}
use Rattle.facts.specs.laws.Lists.{drop-item}
use Rattle.batch_build.specs.laws.Ended.{ended}
use Rattle.batch_build.specs.laws.Turns.{turned}
use Rattle.array_build.proofs.run_bits.boolean_flags.Goals as goal
use Rattle.batch_build.specs.Batch.{plain_column}
use Rattle.array_build.specs.inner.Runs.{run_values, runs_values}
use Rattle.columns.specs.Runs.{are_runs_sound, is_run_sound}
use Rattle.columns.specs.declared.slot_runs.SlotRun.{SlotRun}

pub push_flags-requires : goal.push_flags-requires
push_flags-requires c =
    let col : Column = plain_column booleans None in
    let others : List SlotRun = drop (c.loop-run.run-index + 1) c.args.runs.now in
    let item = drop-item c.args.runs.now c.loop-run.run-index c.run-item.result c.loop-run-test.true c.run-item.is in
    (and_parts (is_run_sound col c.run-item.result) (are_runs_sound col others) (sym (ap (are_runs_sound col) item) ∙ c.loop-run.invariant.sound)).0

pub loop-run-preserved : goal.loop-run-preserved
loop-run-preserved c =
    let col : Column = plain_column booleans None in
    let made : List Bool = c.loop-run.flags.items in
    let others : List SlotRun = drop (c.loop-run.run-index + 1) c.args.runs.now in
    let item = drop-item c.args.runs.now c.loop-run.run-index c.run-item.result c.loop-run-test.true c.run-item.is in
    let kept = sym (ap (λ (rs : List SlotRun). made ++ runs_values rs) item) ∙ c.loop-run.invariant.values in
    record {
      sound = (and_parts (is_run_sound col c.run-item.result) (are_runs_sound col others) (sym (ap (are_runs_sound col) item) ∙ c.loop-run.invariant.sound)).1;
      values = turned made (run_values c.run-item.result) (runs_values others) _ _ c.in_ok-push_flags.ensures kept;
    }

pub returns : goal.returns
returns c = ended runs_values c.loop-run.flags.items _ c.args.runs.now c.loop-run.run-index refl c.loop-run-test.false c.loop-run.invariant.values
