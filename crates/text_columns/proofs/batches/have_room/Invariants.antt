use Rattle.std.proofs.Common.{◌≡◌, drop}
use Rattle.std.specs.List.{list_all}
use Rattle.text_columns.specs.inner.Batches.{has_room}
use Rattle.text_columns.proofs.batches.have_room.Given as goal

abbrev pub invariant-loop-builder : goal.invariant-loop-builder
invariant-loop-builder l = list_all has_room (drop l.builder-index l.builders) ≡ list_all has_room l.builders
