use Rattle.std.specs.Prelude.{None}
use Rattle.std.specs.List.{flat_map}
use Rattle.std.proofs.Common.{◌+◌, ◌++◌, ◌∙◌, ℕ, List, ap, arith, drop, refl, sym}
use Rattle.std.proofs.lemmas.Bool.{and_parts}
use Rattle.std.proofs.lemmas.List.Concat.{flat_map-append}
use Rattle.batch_build.specs.laws.Ended.{ended}
use Rattle.batch_build.specs.laws.Turns.{turned}
use Rattle.array_build.proofs.Slices.{slice_more}
use Rattle.array_build.proofs.run_values.written_slices.Goals as goal
use Rattle.batch_build.specs.Batch.{joined_slices, plain_column}
use Rattle.array_build.specs.inner.Runs.{fixed_value, kind_cells}
use Rattle.columns.specs.Runs.{are_runs_sound, is_run_sound, run_cells, runs_cells}
use Rattle.columns.specs.declared.slot_runs.SlotRun.{SlotRun}
use Rattle.arrow_schema.specs.Column.{Column, Kind}
use Rattle.arrow_schema.specs.View.{kind_of}
use Rattle.facts.specs.laws.Lists.{drop-item}

pub written_slice-requires-clause-sound : goal.written_slice-requires-clause-sound
written_slice-requires-clause-sound c =
    let col : Column = plain_column (kind_of c.args.data_type.now) None in
    let item = drop-item c.args.runs.now c.loop-run.run-index c.run-item.result c.loop-run-test.true c.run-item.is in
    let others : List SlotRun = drop (c.loop-run.run-index + 1) c.args.runs.now in
    (and_parts (is_run_sound col c.run-item.result) (are_runs_sound col others) (sym (ap (are_runs_sound col) item) ∙ c.loop-run.invariant.sound)).0

pub push_reserved-requires : goal.push_reserved-requires
push_reserved-requires c = omega (arith, c.loop-run-test.true, c.loop-run.invariant.len, c.loop-run.invariant.room)

pub loop-run-preserved : goal.loop-run-preserved
loop-run-preserved c =
    let kind : Kind = kind_of c.args.data_type.now in
    let col : Column = plain_column kind None in
    let run : SlotRun = c.run-item.result in
    let others : List SlotRun = drop (c.loop-run.run-index + 1) c.args.runs.now in
    let made : List ℕ = joined_slices c.loop-run.slices.items in
    let item = drop-item c.args.runs.now c.loop-run.run-index run c.loop-run-test.true c.run-item.is in
    let parts = flat_map-append (fixed_value kind) (run_cells col run) (runs_cells col others) in
    let kept = ap (λ (xs : List ℕ). made ++ xs) (sym parts)
    ∙ sym (ap (λ (runs : List SlotRun). made ++ flat_map (fixed_value kind) (kind_cells kind runs)) item) ∙ c.loop-run.invariant.values in
    record {
      sound = (and_parts (is_run_sound col run) (are_runs_sound col others) (sym (ap (are_runs_sound col) item) ∙ c.loop-run.invariant.sound)).1;
      values = turned made (flat_map (fixed_value kind) (run_cells col run)) (flat_map (fixed_value kind) (runs_cells col others)) _ _
          (slice_more c.loop-run.slices.items c.push_reserved.new.self.items c.in-Some.slice _ c.push_reserved.ensures.items c.in-Some.ensures) kept;
      len = omega (arith, c.push_reserved.ensures.len, c.loop-run.invariant.len);
      room = omega (arith, c.push_reserved.ensures.capacity, c.loop-run.invariant.room);
    }

pub returns : goal.returns
returns c =
    let kind : Kind = kind_of c.args.data_type.now in
    ended (λ (runs : List SlotRun). flat_map (fixed_value kind) (kind_cells kind runs)) (joined_slices c.loop-run.slices.items) _ c.args.runs.now c.loop-run.run-index refl c.loop-run-test.false
    c.loop-run.invariant.values
