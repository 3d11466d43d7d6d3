use Rattle.std.proofs.Common.{◌≡◌, ◌+◌, inl, inr, ℕ, ap, arith}
use Rattle.std.proofs.lemmas.Bool.{cases_lt}
use Rattle.columns.specs.CellAt.{number_at}
use Rattle.columns.specs.Offsets.{width_of}
use Rattle.table_cut.proofs.entry_sizes.longest.Goals as goal

pub loop-i-preserved : goal.loop-i-preserved
loop-i-preserved c = λ k lt. elim (cases_lt k c.loop-i.i) [
  | inl less ↦ omega (arith, c.loop-i.invariant k less)
  | inr past ↦ (
      let same : k ≡ c.loop-i.i = omega (arith, lt, past) in
      let start = ap (λ (n : ℕ). number_at (width_of c.args.width) c.args.offsets.now n) same in
      let end = ap (λ (n : ℕ). number_at (width_of c.args.width) c.args.offsets.now (n + 1)) same in
      omega (arith, start, end)
      )
]
