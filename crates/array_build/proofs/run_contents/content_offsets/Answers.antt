use Rattle.std.specs.Prelude.{IfOk}
use Rattle.std.proofs.Common.{◌≡◌, ℕ, List, subst}
use Rattle.array_build.proofs.RunOffsets.{texts_room, texts_spans}
use Rattle.array_build.proofs.run_contents.content_offsets.Goals as goal
use Rattle.array_build.specs.inner.RunOffsets.{runs_sizes}
use Rattle.array_build.specs.inner.Runs.{kind_cells}
use Rattle.arrow_schema.specs.View.{kind_of}
use Rattle.columns.specs.Built.{offsets_of}
use Rattle.columns.specs.Offsets.{width_of}

pub run_offsets-requires : goal.run_offsets-requires
run_offsets-requires c =
    let spans = texts_spans (kind_of c.args.data_type.now) (width_of c.args.width) c.args.runs.now c.requires.width c.requires.ready.sound c.requires.ready.written in
    record {
      have = spans.0;
      room = texts_room (kind_of c.args.data_type.now) (width_of c.args.width) (runs_sizes (width_of c.args.width) c.args.runs.now) (kind_cells (kind_of c.args.data_type.now) c.args.runs.now)
          c.requires.width c.requires.ready.fit spans.1;
    }

pub returns : goal.returns
returns c =
    let spans = texts_spans (kind_of c.args.data_type.now) (width_of c.args.width) c.args.runs.now c.requires.width c.requires.ready.sound c.requires.ready.written in
    subst (λ (sizes : List ℕ). IfOk c.run_offsets.result (λ bytes. bytes.items ≡ offsets_of (width_of c.args.width) sizes)) spans.1 c.run_offsets.ensures
