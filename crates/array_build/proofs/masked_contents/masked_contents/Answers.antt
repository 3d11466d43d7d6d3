use Rattle.std.specs.Prelude.{None}
use Rattle.std.specs.List.{flat_map}
use Rattle.std.proofs.Common.{◌≡◌, ◌∙◌, ◌+◌, ◌++◌, ℕ, List, ap, arith, drop, length, refl, sym}
use Rattle.std.proofs.lemmas.Bool.{and_parts}
use Rattle.std.proofs.lemmas.List.Concat.{flat_map-append}
use Rattle.arrow_schema.specs.Column.{Column, Kind}
use Rattle.arrow_schema.specs.View.{kind_of}
use Rattle.batch_build.specs.laws.Ended.{ended}
use Rattle.array_build.proofs.MaskedContents.{next_run}
use Rattle.batch_build.specs.laws.Turns.{turned}
use Rattle.array_build.proofs.masked_contents.masked_contents.Goals as goal
use Rattle.batch_build.specs.Batch.{plain_column}
use Rattle.array_build.specs.inner.Masked.{are_below}
use Rattle.dictionary_codes.specs.Masks.{mask_bits, run_bits, runs_bits}
use Rattle.array_build.specs.inner.MaskedContents.{run_under, runs_under}
use Rattle.columns.specs.Runs.{are_runs_sound, is_run_sound}
use Rattle.columns.specs.declared.slot_runs.SlotRun.{SlotRun}
use Rattle.cells.specs.Cell.{Cell}
use Rattle.columns.specs.Built.{contents_of}
use Rattle.facts.specs.laws.Lists.{drop-item}

pub push_run_contents-requires : goal.push_run_contents-requires
push_run_contents-requires c =
    let kind : Kind = kind_of c.args.data_type.now in
    let col : Column = plain_column kind None in
    let run : SlotRun = c.run-item.result in
    let others : List SlotRun = drop (c.loop-run.run-index + 1) c.args.runs.now in
    let item = drop-item c.args.runs.now c.loop-run.run-index run c.loop-run-test.true c.run-item.is in
    let next = next_run kind c.args.mask.now c.loop-run.at (drop c.loop-run.run-index c.args.runs.now) run others item c.loop-run.invariant.below in
    let count = next.count in
    record {
      width = c.requires.width;
      sound = (and_parts (is_run_sound col run) (are_runs_sound col others) (sym (ap (are_runs_sound col) item) ∙ c.loop-run.invariant.sound)).0;
      counted = omega (arith, count, c.loop-run.invariant.place, c.in_ok-_slots.ensures);
      long = omega (arith, count, c.loop-run.invariant.place, c.requires.under.long);
      below = next.own;
    }

pub overflow_add-at : goal.overflow_add-at
overflow_add-at c =
    let kind : Kind = kind_of c.args.data_type.now in
    let run : SlotRun = c.run-item.result in
    let others : List SlotRun = drop (c.loop-run.run-index + 1) c.args.runs.now in
    let item = drop-item c.args.runs.now c.loop-run.run-index run c.loop-run-test.true c.run-item.is in
    let next = next_run kind c.args.mask.now c.loop-run.at (drop c.loop-run.run-index c.args.runs.now) run others item c.loop-run.invariant.below in
    let count = next.count in
    omega (arith, count, c.run_len-at.ensures, c.loop-run.invariant.place, c.in_ok-_slots.ensures)

pub loop-run-preserved : goal.loop-run-preserved
loop-run-preserved c =
    let kind : Kind = kind_of c.args.data_type.now in
    let col : Column = plain_column kind None in
    let run : SlotRun = c.run-item.result in
    let others : List SlotRun = drop (c.loop-run.run-index + 1) c.args.runs.now in
    let made : List ℕ = c.loop-run.contents.items in
    let item = drop-item c.args.runs.now c.loop-run.run-index run c.loop-run-test.true c.run-item.is in
    let next = next_run kind c.args.mask.now c.loop-run.at (drop c.loop-run.run-index c.args.runs.now) run others item c.loop-run.invariant.below in
    let own : List Cell = run_under kind c.args.mask.now c.loop-run.at run in
    let place : c.loop-run.at + c.run_len-at.result ≡ c.loop-run.at + length (run_bits run) = ap (λ (n : ℕ). c.loop-run.at + n) c.run_len-at.ensures in
    let left : List Cell = runs_under kind c.args.mask.now (c.loop-run.at + length (run_bits run)) others in
    let same : runs_under kind c.args.mask.now (c.loop-run.at + c.run_len-at.result) others ≡ left = ap (λ (k : ℕ). runs_under kind c.args.mask.now k others) place in
    let count = next.count in
    let split : flat_map contents_of (runs_under kind c.args.mask.now c.loop-run.at (drop c.loop-run.run-index c.args.runs.now)) ≡ flat_map contents_of own ++ flat_map contents_of left
    = ap (flat_map contents_of) next.cells ∙ flat_map-append contents_of own left in
    record {
      sound = (and_parts (is_run_sound col run) (are_runs_sound col others) (sym (ap (are_runs_sound col) item) ∙ c.loop-run.invariant.sound)).1;
      place = omega (arith, place, count, c.loop-run.invariant.place);
      below = ap (λ (k : ℕ). are_below (mask_bits c.args.mask.now k (length (runs_bits others))) (runs_bits others)) place ∙ next.below;
      contents = ap (λ (cells : List Cell). c.push_run_contents.new.contents.items ++ flat_map contents_of cells) same
          ∙ turned made (flat_map contents_of own) (flat_map contents_of left) _ _ c.in_ok-push_run_contents.ensures
          (sym (ap (λ (xs : List ℕ). made ++ xs) split) ∙ c.loop-run.invariant.contents);
    }

pub returns : goal.returns
returns c =
    ended (λ (rs : List SlotRun). flat_map contents_of (runs_under (kind_of c.args.data_type.now) c.args.mask.now c.loop-run.at rs)) c.loop-run.contents.items _ c.args.runs.now c.loop-run.run-index refl
    c.loop-run-test.false c.loop-run.invariant.contents
