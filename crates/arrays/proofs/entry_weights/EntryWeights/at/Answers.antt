use Rattle.std.proofs.Common.{◌≡◌, ◌+◌, arith, ◌∙◌}
use Rattle.cells.specs.Weight.{capped_weight}
use Rattle.arrays.proofs.EntryWeights.{sized_count, sized_weight}
use Rattle.arrays.proofs.entry_weights.EntryWeights.at.Goals as goal

pub size-requires : goal.size-requires
size-requires c =
    let all = sized_count c.args.self c.in-Sized.slots c.in-Sized.is in
    let lt = c.requires in
    omega (arith, all, lt)

pub returns-in-Sized : goal.returns-in-Sized
returns-in-Sized c =
    let all = sized_count c.args.self c.in-Sized.slots c.in-Sized.is in
    let lt = c.requires in
    let weight : 1 + c.min.result ≡ capped_weight (1 + c.size.result) = omega (arith, c.min.ensures) in
    weight ∙ sized_weight c.args.self c.in-Sized.slots c.args.number _ c.in-Sized.is (omega (arith, all, lt)) c.size.ensures
