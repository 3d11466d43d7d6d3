use Rattle.std.specs.Prelude.{IfOk}
use Rattle.std.proofs.Common.{◌≡◌, ℕ, List, subst}
use Rattle.array_build.proofs.RunOffsets.{lists_room, lists_spans_under}
use Rattle.array_build.proofs.masked_lists.masked_list_offsets.Goals as goal
use Rattle.array_build.specs.inner.MaskedContents.{runs_under}
use Rattle.array_build.specs.inner.RunOffsets.{runs_sizes_under}
use Rattle.arrow_schema.specs.View.{column_of}
use Rattle.batch_build.specs.Nodes.{list_kind}
use Rattle.columns.specs.Built.{offsets_of}
use Rattle.columns.specs.Offsets.{width_of}

pub masked_run_offsets-requires : goal.masked_run_offsets-requires
masked_run_offsets-requires c =
    let spans = lists_spans_under c.args.width (column_of c.args.item.now) c.args.mask.now 0 c.args.runs.now c.requires.sound c.requires.below in
    record {
      have = spans.0;
      long = c.requires.long;
      room = lists_room c.args.width (column_of c.args.item.now) (runs_sizes_under (width_of c.args.width) c.args.mask.now 0 c.args.runs.now)
          (runs_under (list_kind c.args.width (column_of c.args.item.now)) c.args.mask.now 0 c.args.runs.now) c.requires.fit spans.1;
    }

pub returns : goal.returns
returns c =
    let spans = lists_spans_under c.args.width (column_of c.args.item.now) c.args.mask.now 0 c.args.runs.now c.requires.sound c.requires.below in
    subst (λ (sizes : List ℕ). IfOk c.masked_run_offsets.result (λ bytes. bytes.items ≡ offsets_of (width_of c.args.width) sizes)) spans.1 c.masked_run_offsets.ensures
