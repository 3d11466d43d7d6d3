use Rattle.std.specs.Prelude.{◌&&◌, None}
use Rattle.std.proofs.Common.{◌≡◌, ◌∙◌, ◌+◌, Bool, true, List, ap, drop, sym}
use Rattle.std.proofs.lemmas.Bool.{and_parts}
use Rattle.arrow_schema.specs.Column.{Column, Kind}
use Rattle.arrow_schema.specs.View.{kind_of}
use Rattle.facts.specs.laws.Lists.{drop-item}
use Rattle.array_build.proofs.as_written.are_as_written.Goals as goal
use Rattle.batch_build.specs.Batch.{plain_column}
use Rattle.array_build.specs.inner.Runs.{are_runs_as_written, is_run_as_written}
use Rattle.columns.specs.Runs.{are_runs_sound, is_run_sound}
use Rattle.columns.specs.declared.slot_runs.SlotRun.{SlotRun}

pub is_as_written-requires : goal.is_as_written-requires
is_as_written-requires c =
    let col : Column = plain_column (kind_of c.args.data_type.now) None in
    let others : List SlotRun = drop (c.loop-run.run-index + 1) c.args.runs.now in
    let item = drop-item c.args.runs.now c.loop-run.run-index c.run-item.result c.loop-run-test.true c.run-item.is in
    (and_parts (is_run_sound col c.run-item.result) (are_runs_sound col others) (sym (ap (are_runs_sound col) item) ∙ c.loop-run.invariant.sound)).0

pub loop-run-preserved : goal.loop-run-preserved
loop-run-preserved c =
    let kind : Kind = kind_of c.args.data_type.now in
    let col : Column = plain_column kind None in
    let others : List SlotRun = drop (c.loop-run.run-index + 1) c.args.runs.now in
    let item = drop-item c.args.runs.now c.loop-run.run-index c.run-item.result c.loop-run-test.true c.run-item.is in
    let own : is_run_as_written kind c.run-item.result ≡ true = c.is_as_written.ensures c.if-not-is_as_written.false in
    record {
      sound = (and_parts (is_run_sound col c.run-item.result) (are_runs_sound col others) (sym (ap (are_runs_sound col) item) ∙ c.loop-run.invariant.sound)).1;
      written = ap (λ (b : Bool). b && are_runs_as_written kind others) (sym own) ∙ sym (ap (are_runs_as_written kind) item) ∙ c.loop-run.invariant.written;
    }
