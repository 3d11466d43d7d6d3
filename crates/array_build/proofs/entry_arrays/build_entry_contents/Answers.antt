use Rattle.std.proofs.Common.{◌∙◌, ℕ, List, ap, length, map, sym}
use Rattle.std.proofs.lemmas.List.{length-map}
use Rattle.array_build.proofs.RunArrays.{contents_are}
use Rattle.array_build.proofs.RunContents.{contents_room}
use Rattle.array_build.specs.inner.MaskedContents.{with_contents}
use Rattle.arrow_schema.specs.Column.{Kind}
use Rattle.arrow_schema.specs.View.{kind_of}
use Rattle.batch_build.specs.Batch.{PlainBatch, batch_in}
use Rattle.batch_build.specs.Nodes.{with_slots}
use Rattle.batch_build.specs.laws.Coded.{values_built}
use Rattle.cells.specs.Cell.{Cell}
use Rattle.cells.specs.Entry.{entry_cell}
use Rattle.columns.specs.Offsets.{width_of}
use Rattle.array_build.proofs.entry_arrays.build_entry_contents.Goals as goal

pub push_entry_contents-requires : goal.push_entry_contents-requires
push_entry_contents-requires c =
    contents_room (kind_of c.args.data_type.now) (width_of c.args.width) (map entry_cell c.args.entries.now) c.requires.width c.requires.fits

pub returns : goal.returns
returns c =
    let kind : Kind = kind_of c.args.data_type.now in
    let w : ℕ = width_of c.args.width in
    let cells : List Cell = map entry_cell c.args.entries.now in
    let alone = c.in_ok-push_entry_contents.ensures
    ∙ ap (λ (p : PlainBatch). with_contents w (with_slots p cells) cells) c.empty_batch-batch.ensures
    ∙ contents_are _ kind w cells c.requires.width in
    c.values_of.ensures ∙ values_built kind cells (length c.args.entries.now) (batch_in c.push_entry_contents.new.batch) (sym (length-map c.args.entries.now entry_cell)) alone
