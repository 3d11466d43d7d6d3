-- The digests of the segments so far.
use Rattle.std.proofs.Common.{◌≡◌, map, take}
use Rattle.store.specs.declared.sending.Item.{Item}
use Rattle.store.proofs.sending.digests_of.Given as goal

abbrev pub invariant-loop-item : goal.invariant-loop-item
invariant-loop-item l = l.digests.items ≡ map (λ (x : Item). x.digest) (take l.item-index l.item-items)
