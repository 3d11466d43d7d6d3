use Rattle.std.specs.Prelude.{IfOk}
use Rattle.std.proofs.Common.{◌≡◌, ℕ, List, subst}
use Rattle.array_build.proofs.RunOffsets.{texts_room, texts_spans_under}
use Rattle.array_build.proofs.masked_contents.masked_content_offsets.Goals as goal
use Rattle.array_build.specs.inner.MaskedContents.{runs_under}
use Rattle.array_build.specs.inner.RunOffsets.{runs_sizes_under}
use Rattle.arrow_schema.specs.View.{kind_of}
use Rattle.columns.specs.Built.{offsets_of}
use Rattle.columns.specs.Offsets.{width_of}

pub masked_run_offsets-requires : goal.masked_run_offsets-requires
masked_run_offsets-requires c =
    let spans = texts_spans_under (kind_of c.args.data_type.now) (width_of c.args.width) c.args.mask.now 0 c.args.runs.now c.requires.width c.requires.under.sound c.requires.under.below in
    record {
      have = spans.0;
      long = c.requires.under.long;
      room = texts_room (kind_of c.args.data_type.now) (width_of c.args.width) (runs_sizes_under (width_of c.args.width) c.args.mask.now 0 c.args.runs.now)
          (runs_under (kind_of c.args.data_type.now) c.args.mask.now 0 c.args.runs.now) c.requires.width c.requires.under.fit spans.1;
    }

pub returns : goal.returns
returns c =
    let spans = texts_spans_under (kind_of c.args.data_type.now) (width_of c.args.width) c.args.mask.now 0 c.args.runs.now c.requires.width c.requires.under.sound c.requires.under.below in
    subst (λ (sizes : List ℕ). IfOk c.masked_run_offsets.result (λ bytes. bytes.items ≡ offsets_of (width_of c.args.width) sizes)) spans.1 c.masked_run_offsets.ensures
