use Rattle.std.specs.Prelude.{None}
use Rattle.std.proofs.Common.{◌≡◌, ◌∙◌, ℕ, true, List, ap, ap₂, subst, sym}
use Rattle.std.proofs.lemmas.Result.{on_ok_weaker}
use Rattle.arrow_schema.specs.Column.{Kind}
use Rattle.arrow_schema.specs.View.{kind_of}
use Rattle.array_build.proofs.RunArrays.{boolean_runs_are}
use Rattle.array_build.proofs.RunColumns.{have_validity}
use Rattle.array_build.proofs.flat_runs.build_run_bits.Goals as goal
use Rattle.batch_build.specs.Batch.{PlainBatch, batch_in, plain_column}
use Rattle.dictionary_codes.specs.Masks.{IsMask, slots_mask}
use Rattle.batch_build.specs.Nodes.{with_buffer}
use Rattle.columns.specs.Runs.{are_runs_sound}

pub push_masked_slots-requires-clause-validity : goal.push_masked_slots-requires-clause-validity
push_masked_slots-requires-clause-validity c = have_validity (kind_of c.args.data_type.now) c.args.runs.now c.requires.sound

pub run_booleans-requires : goal.run_booleans-requires
run_booleans-requires c = record {
  sound = subst (λ (kind : Kind). are_runs_sound (plain_column kind None) c.args.runs.now ≡ true) c.requires.booleans c.requires.sound;
  mask = subst (λ (mask : List ℕ). IsMask mask c.args.runs.now) (sym c.deref.ensures.value) c.in_ok-below.ensures.below;
}

pub returns : goal.returns
returns c =
    let bits = ap (λ (mask : List ℕ). slots_mask mask c.args.runs.now) c.deref.ensures.value ∙ c.in_ok-below.ensures.bits in
    on_ok_weaker c.push_buffer.result
    (λ h. h ∙ ap₂ (λ (q : PlainBatch) (bytes : List ℕ). with_buffer q bytes) c.in_ok-below.ensures.batch c.in_ok-run_booleans.ensures
    ∙ boolean_runs_are (batch_in c.args.batch.now) (kind_of c.args.data_type.now) c.args.mask.now c.deref.result.now c.args.runs.now c.requires.booleans bits)
    c.push_buffer.ensures
