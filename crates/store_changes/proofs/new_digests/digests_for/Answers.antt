use Rattle.store_changes.proofs.NewDigests.{no_digests}
use Rattle.store_changes.proofs.new_digests.digests_for.Goals as goal

pub returns-in-One : goal.returns-in-One
returns-in-One c =
    rw c.in-One.is (no_digests (λ v. v.items) c.args.streams.now c.from_elem.result _ (λ d clone. clone) c.from_elem.ensures.items_if_clones_equal)
