use Rattle.std.specs.Prelude.{IfOk}
use Rattle.std.proofs.Common.{◌≡◌, ℕ, List, subst}
use Rattle.array_build.proofs.RunOffsets.{lists_room, lists_spans}
use Rattle.array_build.proofs.run_items.run_list_offsets.Goals as goal
use Rattle.array_build.specs.inner.RunOffsets.{runs_sizes}
use Rattle.array_build.specs.inner.Runs.{kind_cells}
use Rattle.arrow_schema.specs.View.{column_of}
use Rattle.batch_build.specs.Nodes.{list_kind}
use Rattle.columns.specs.Built.{offsets_of}
use Rattle.columns.specs.Offsets.{width_of}

pub run_offsets-requires : goal.run_offsets-requires
run_offsets-requires c =
    let spans = lists_spans c.args.width (column_of c.args.item.now) c.args.runs.now c.requires.sound c.requires.written in
    record {
      have = spans.0;
      room = lists_room c.args.width (column_of c.args.item.now) (runs_sizes (width_of c.args.width) c.args.runs.now) (kind_cells (list_kind c.args.width (column_of c.args.item.now)) c.args.runs.now)
          c.requires.fit spans.1;
    }

pub returns : goal.returns
returns c =
    let spans = lists_spans c.args.width (column_of c.args.item.now) c.args.runs.now c.requires.sound c.requires.written in
    subst (λ (sizes : List ℕ). IfOk c.run_offsets.result (λ bytes. bytes.items ≡ offsets_of (width_of c.args.width) sizes)) spans.1 c.run_offsets.ensures
