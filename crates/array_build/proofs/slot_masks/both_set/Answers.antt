use Rattle.std.proofs.Common.{List, ℕ, subst}
use Rattle.array_build.proofs.Masks.{both_packed}
use Rattle.array_build.proofs.slot_masks.both_set.Goals as goal
use Rattle.facts.specs.Bytes.{AreBytes}

pub returns : goal.returns
returns c =
    both_packed c.packed_reads_back.ensures c.args.mask.now c.args.other.now c.in_ok-bytes.bytes.items c.args.slots
    (subst (λ (bytes : List ℕ). AreBytes bytes) c.deref.ensures.value c.are_bytes.ensures) c.in_ok-bytes.ensures.length c.in_ok-bytes.ensures.bits
