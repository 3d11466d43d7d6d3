use Rattle.std.specs.Int.{w128, cast_unsigned, to_le_bytes}
use Rattle.std.proofs.Common.{◌+◌, ◌++◌, ◌∙◌, ℕ, ℤ, List, arith, ap, take}
use Rattle.std.proofs.lemmas.Int.{to_z-of_z}
use Rattle.batch_build.proofs.Low.{low_taken}
use Rattle.batch_build.proofs.value_bytes.put_integer.Goals as goal
use borrow.Rule.Slice.PartMut.{Post-is}

pub returns : goal.returns
returns g c =
    let at : ℕ = c.args.at in
    let old : List ℕ = c.args.values.now in
    let after = Post-is at (at + g.row.SIZE) old (omega (arith, c.requires.room)) in
    let stored : ℕ = cast_unsigned w128 c.args.integer in
    let whole = c.to_le_bytes.ensures ∙ ap (λ (z : ℤ). to_le_bytes w128 (cast_unsigned w128 z)) (to_z-of_z w128 c.args.integer c.ranges.integer) in
    let bytes = rw whole at c.copy_from_slice.ensures.after in
    let own = bytes ∙ low_taken g.row.SIZE stored c.requires.size in
    (λ i. take at old ++ (own i ++ after i))
