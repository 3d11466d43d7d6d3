use Rattle.std.specs.List.{range_with_len}
use Rattle.std.proofs.Common.{ℕ, ◌+◌, ◌-◌, ◌++◌, ◌∙◌, List, Bool, ap, sym, map}
use Rattle.std.proofs.lemmas.Result.{on_ok_weaker}
use Rattle.array_build.proofs.RunBits.{are_booleans}
use Rattle.array_build.proofs.run_bits.push_run.Goals as goal
use Rattle.bitmap.specs.Bits.{bit}

pub push_mask_bits-requires-clause-within : goal.push_mask_bits-requires-clause-within
push_mask_bits-requires-clause-within c =
    let known = are_booleans c.in-Slots.array c.in-Slots.from c.in-Slots.len c.args.run.now c.in-Slots.is c.requires in
    rw c.bits.ensures known.long

pub returns-in-Slots : goal.returns-in-Slots
returns-in-Slots c =
    let from : ℕ = c.in-Slots.from in
    let known = are_booleans c.in-Slots.array from c.in-Slots.len c.args.run.now c.in-Slots.is c.requires in
    on_ok_weaker c.push_mask_bits.result
    (λ is. is
    ∙ ap (λ (bytes : List ℕ). c.args.bits.now ++ map (bit bytes) (range_with_len from (from + c.in-Slots.len - from))) c.bits.ensures
    ∙ ap (λ (bits : List Bool). c.args.bits.now ++ bits) (sym known.values))
    c.push_mask_bits.ensures
