use Rattle.std.specs.Prelude.{◌==◌}
use Rattle.std.proofs.Common.{◌≡◌, ◌+◌, ◌-◌, ℕ, ap, arith}
use Rattle.bitmap.specs.Bits.{bit}
use Rattle.columns.specs.CellAt.{number_at}
use Rattle.columns.specs.Offsets.{width_of}
use Rattle.array_build.proofs.Unset.{next_unset}
use Rattle.array_build.proofs.as_written.have_no_bytes_at_unset.Goals as goal

pub loop-i-preserved : goal.loop-i-preserved
loop-i-preserved c =
    let at : ℕ → ℕ = number_at (width_of c.args.width) c.args.offsets.now in
    let none : at (c.loop-i.i + 1) - at c.loop-i.i ≡ 0 = omega (arith, c.offset_at.ensures, c.offset_at-in-loop-i.ensures, c.if-offset_at.false) in
    record {
      begins = omega (arith, c.loop-i.invariant.begins, c.next_unset-i-in-loop-i.ensures.begins);
      ends = c.next_unset-i-in-loop-i.ensures.ends;
      written = next_unset (bit c.args.validity.now) (λ (k : ℕ). (at (k + 1) - at k) == 0) c.args.from c.loop-i.i c.next_unset-i-in-loop-i.result
          c.loop-i.invariant.written (ap (λ (n : ℕ). n == 0) none) c.next_unset-i-in-loop-i.ensures.alike;
    }
