use Rattle.std.proofs.Common.{◌∙◌, ℕ, ap}
use Rattle.std.proofs.lemmas.Result.{on_ok_weaker}
use Rattle.arrow_schema.specs.Column.{Kind}
use Rattle.arrow_schema.specs.View.{kind_of}
use Rattle.array_build.proofs.RunArrays.{content_runs_are}
use Rattle.array_build.proofs.RunColumns.{have_validity}
use Rattle.array_build.proofs.flat_runs.build_run_contents.Goals as goal
use Rattle.batch_build.specs.Batch.{PlainBatch, batch_in}
use Rattle.array_build.specs.inner.MaskedContents.{with_contents}
use Rattle.array_build.specs.inner.Runs.{kind_cells}
use Rattle.columns.specs.Offsets.{width_of}

pub push_run_slots-requires : goal.push_run_slots-requires
push_run_slots-requires c = have_validity (kind_of c.args.data_type.now) c.args.runs.now c.requires.ready.sound

pub returns : goal.returns
returns c =
    let kind : Kind = kind_of c.args.data_type.now in
    let w : ℕ = width_of c.args.width in
    on_ok_weaker c.push_written_contents.result
    (λ h. h ∙ ap (λ (p : PlainBatch). with_contents w p (kind_cells kind c.args.runs.now)) c.in_ok-push_run_slots.ensures
    ∙ content_runs_are (batch_in c.args.batch.now) kind w c.args.runs.now c.requires.width)
    c.push_written_contents.ensures
