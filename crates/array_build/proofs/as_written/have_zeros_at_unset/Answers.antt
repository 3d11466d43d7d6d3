use Rattle.std.proofs.Common.{ℕ, arith}
use Rattle.bitmap.specs.Bits.{bit}
use Rattle.columns.specs.CellAt.{value_at}
use Rattle.array_build.proofs.Unset.{next_unset}
use Rattle.array_build.proofs.as_written.have_zeros_at_unset.Goals as goal
use Rattle.array_build.specs.inner.Runs.{are_zeros}

pub loop-i-preserved : goal.loop-i-preserved
loop-i-preserved c = record {
  begins = omega (arith, c.loop-i.invariant.begins, c.next_unset-i-in-loop-i.ensures.begins);
  ends = c.next_unset-i-in-loop-i.ensures.ends;
  written = next_unset (bit c.args.validity.now) (λ (k : ℕ). are_zeros (value_at c.args.width c.args.values.now k)) c.args.from c.loop-i.i c.next_unset-i-in-loop-i.result
      c.loop-i.invariant.written (c.is_zero_at.ensures c.if-not-is_zero_at.false) c.next_unset-i-in-loop-i.ensures.alike;
}
