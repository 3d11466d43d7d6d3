use Rattle.std.specs.Prelude.{replicate}
use Rattle.std.proofs.Common.{◌≡◌, ◌-◌, List, ℕ}
use Rattle.array_build.proofs.RunContents.{offsets_with}
use Rattle.columns.specs.Offsets.{width_of}
use Rattle.array_build.proofs.run_offsets.push_null_offsets.Given as goal

abbrev pub invariant-loop : goal.invariant-loop
invariant-loop l =
    (rest : List ℕ) → offsets_with (width_of l.width) l.offsets.items l.start (replicate (l.count - l.counter) 0) rest ≡ offsets_with (width_of l.width) l.fn.offsets.items l.start (replicate l.count 0) rest
