use Rattle.std.specs.Prelude.{None}
use Rattle.std.specs.List.{flat_map}
use Rattle.std.proofs.Common.{◌+◌, ◌++◌, ◌∙◌, ℕ, List, ap, arith, drop, refl, sym}
use Rattle.std.proofs.lemmas.Bool.{and_parts}
use Rattle.std.proofs.lemmas.List.Concat.{flat_map-append}
use Rattle.batch_build.specs.laws.Ended.{ended}
use Rattle.batch_build.specs.laws.Turns.{turned}
use Rattle.array_build.proofs.Slices.{slice_more}
use Rattle.array_build.proofs.run_contents.content_slices.Goals as goal
use Rattle.batch_build.specs.Batch.{joined_slices, plain_column}
use Rattle.array_build.specs.inner.Runs.{are_runs_as_written, is_run_as_written, kind_cells}
use Rattle.columns.specs.Runs.{are_runs_sound, is_run_sound, run_cells, runs_cells}
use Rattle.columns.specs.declared.slot_runs.SlotRun.{SlotRun}
use Rattle.arrow_schema.specs.Column.{Column, Kind}
use Rattle.arrow_schema.specs.View.{kind_of}
use Rattle.columns.specs.Built.{contents_of}
use Rattle.facts.specs.laws.Lists.{drop-item}

pub content_slice-requires-clause-sound : goal.content_slice-requires-clause-sound
content_slice-requires-clause-sound c =
    let col : Column = plain_column (kind_of c.args.data_type.now) None in
    let item = drop-item c.args.runs.now c.loop-run.run-index c.run-item.result c.loop-run-test.true c.run-item.is in
    let others : List SlotRun = drop (c.loop-run.run-index + 1) c.args.runs.now in
    (and_parts (is_run_sound col c.run-item.result) (are_runs_sound col others) (sym (ap (are_runs_sound col) item) ∙ c.loop-run.invariant.sound)).0

pub content_slice-requires-clause-written : goal.content_slice-requires-clause-written
content_slice-requires-clause-written c =
    let kind : Kind = kind_of c.args.data_type.now in
    let item = drop-item c.args.runs.now c.loop-run.run-index c.run-item.result c.loop-run-test.true c.run-item.is in
    let others : List SlotRun = drop (c.loop-run.run-index + 1) c.args.runs.now in
    (and_parts (is_run_as_written kind c.run-item.result) (are_runs_as_written kind others) (sym (ap (are_runs_as_written kind) item) ∙ c.loop-run.invariant.written)).0

pub push_reserved-requires : goal.push_reserved-requires
push_reserved-requires c = omega (arith, c.loop-run-test.true, c.loop-run.invariant.len, c.loop-run.invariant.room)

pub loop-run-preserved : goal.loop-run-preserved
loop-run-preserved c =
    let kind : Kind = kind_of c.args.data_type.now in
    let col : Column = plain_column kind None in
    let run : SlotRun = c.run-item.result in
    let others : List SlotRun = drop (c.loop-run.run-index + 1) c.args.runs.now in
    let made : List ℕ = joined_slices c.loop-run.slices.items in
    let item = drop-item c.args.runs.now c.loop-run.run-index run c.loop-run-test.true c.run-item.is in
    let parts = flat_map-append contents_of (run_cells col run) (runs_cells col others) in
    let kept = ap (λ (xs : List ℕ). made ++ xs) (sym parts)
    ∙ sym (ap (λ (runs : List SlotRun). made ++ flat_map contents_of (kind_cells kind runs)) item) ∙ c.loop-run.invariant.contents in
    record {
      sound = (and_parts (is_run_sound col run) (are_runs_sound col others) (sym (ap (are_runs_sound col) item) ∙ c.loop-run.invariant.sound)).1;
      written = (and_parts (is_run_as_written kind run) (are_runs_as_written kind others) (sym (ap (are_runs_as_written kind) item) ∙ c.loop-run.invariant.written)).1;
      contents = turned made (flat_map contents_of (run_cells col run)) (flat_map contents_of (runs_cells col others)) _ _
          (slice_more c.loop-run.slices.items c.push_reserved.new.self.items c.content_slice.result _ c.push_reserved.ensures.items c.content_slice.ensures) kept;
      len = omega (arith, c.push_reserved.ensures.len, c.loop-run.invariant.len);
      room = omega (arith, c.push_reserved.ensures.capacity, c.loop-run.invariant.room);
    }

pub returns : goal.returns
returns c =
    let kind : Kind = kind_of c.args.data_type.now in
    ended (λ (runs : List SlotRun). flat_map contents_of (kind_cells kind runs)) (joined_slices c.loop-run.slices.items) _ c.args.runs.now c.loop-run.run-index refl c.loop-run-test.false
    c.loop-run.invariant.contents
