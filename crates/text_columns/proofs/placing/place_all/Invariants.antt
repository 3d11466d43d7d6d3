use Rattle.text_columns.specs.inner.Placed.{ArePlaced}
use Rattle.text_columns.proofs.PlacedBuffers.{SoFar}
use Rattle.text_columns.proofs.placing.place_all.Given as goal

abbrev pub invariant-loop-column : goal.invariant-loop-column
invariant-loop-column l = record {
  next : goal.iterator-loop-column.can_next l.column-iterator;
  ends : goal.iterator-loop-column.is_finite l.column-iterator;
  so_far : SoFar l.yielded l.bytes.items l.dictionaries.items l.arrays.items;
  placed : ArePlaced l.yielded l.bytes.items l.dictionaries.items l.arrays.items;
}
