use Rattle.std.specs.List.{range_with_len}
use Rattle.std.proofs.Common.{◌≡◌, ℕ, ◌+◌, ◌-◌, ◌++◌, ◌∙◌, List, Bool, ap, sym, map, arith}
use Rattle.std.proofs.lemmas.Result.{on_ok_weaker}
use Rattle.array_build.proofs.RunBits.{are_booleans}
use Rattle.array_build.proofs.run_bits.push_flags.Goals as goal
use Rattle.bitmap.specs.Bits.{bit}
use Rattle.columns.specs.Array.{bits_in}
use Rattle.columns.specs.View.{view_array}

pub push_booleans-requires-clause-within : goal.push_booleans-requires-clause-within
push_booleans-requires-clause-within c = (are_booleans c.in-Slots.array c.in-Slots.from c.in-Slots.len c.args.run.now c.in-Slots.is c.requires).within

pub push_booleans-requires-clause-long : goal.push_booleans-requires-clause-long
push_booleans-requires-clause-long c = (are_booleans c.in-Slots.array c.in-Slots.from c.in-Slots.len c.args.run.now c.in-Slots.is c.requires).long

pub returns-in-Slots : goal.returns-in-Slots
returns-in-Slots c =
    let from : ℕ = c.in-Slots.from in
    let len : ℕ = c.in-Slots.len in
    let size : len ≡ from + len - from = omega arith in
    let known = are_booleans c.in-Slots.array from len c.args.run.now c.in-Slots.is c.requires in
    on_ok_weaker c.push_booleans.result
    (λ h. h ∙ ap (λ (n : ℕ). c.args.flags.now.items ++ map (bit (bits_in (view_array c.in-Slots.array))) (range_with_len from n)) size
    ∙ ap (λ (bits : List Bool). c.args.flags.now.items ++ bits) (sym known.values))
    c.push_booleans.ensures
