use Rattle.std.specs.Prelude.{length}
use Rattle.std.proofs.Common.{refl}
use Rattle.columns.proofs.BuiltShape.{all_slots, none_short_children, as_many_nodes, buffers_alike, few_nodes, few_buffers, cells_below, slots_few, bytes_few}
use Rattle.columns.proofs.laws.written_arrays_have_their_shape.Goals as goal

pub returns : goal.returns
returns c = record {
  slots = λ columns rows. all_slots columns rows (length rows) refl;
  children = none_short_children;
  nodes = as_many_nodes;
  buffers = buffers_alike;
  few_nodes = few_nodes;
  few_buffers = few_buffers;
  weight = cells_below;
  few_slots = slots_few;
  few_bytes = bytes_few;
}
