use Rattle.std.proofs.Common.{◌≡◌, ◌+◌, drop, length, true}
use Rattle.columns.specs.Sound.{are_sound}
use Rattle.columns.specs.View.{fields_of}
use Rattle.table_cut.specs.inner.Columns.{arrays_from_place}
use Rattle.table_cut.specs.inner.EntrySizes.{AreSizesOf}
use Rattle.table_cut.proofs.entry_sizes.add_sizes.Given as goal

-- those of the columns so far
abbrev pub invariant-loop-place : goal.invariant-loop-place
invariant-loop-place l = record {
  sound : are_sound (fields_of (drop l.place l.fields)) (l.run.from + l.run.len) (arrays_from_place l.place l.run) ≡ true;
  count : l.place ≡ length l.sizes.items;
  known : AreSizesOf l.run l.sizes.items;
}
