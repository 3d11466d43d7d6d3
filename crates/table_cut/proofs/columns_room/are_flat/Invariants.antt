use Rattle.std.proofs.Common.{◌≡◌, drop}
use Rattle.columns.specs.View.{fields_of}
use Rattle.table_cut.specs.inner.Fit.{are_flat}
use Rattle.table_cut.proofs.columns_room.are_flat.Given as goal

abbrev pub invariant-loop-field : goal.invariant-loop-field
invariant-loop-field l = are_flat (fields_of (drop l.field-index l.fields)) ≡ are_flat (fields_of l.fields)
