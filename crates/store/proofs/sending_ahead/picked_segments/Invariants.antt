-- The segments of the items so far.
use Rattle.std.proofs.Common.{map, take}
use Rattle.catalogue.specs.View.{catalogue_of}
use Rattle.store.specs.inner.Sending.{plain_item, ArePicked}
use Rattle.store.proofs.sending_ahead.picked_segments.Given as goal

abbrev pub invariant-loop-item : goal.invariant-loop-item
invariant-loop-item l = ArePicked (catalogue_of l.list) (map plain_item (take l.item-index l.items)) l.segments.items
