use Rattle.std.specs.Prelude.{min}
use Rattle.std.proofs.Common.{◌≡◌, ℕ, ◌-◌, refl, arith}
use Rattle.arrays.proofs.Raws.{buffer_within}
use Rattle.arrays.proofs.raw.span_in.Goals as goal

pub returns-clause-bytes : goal.returns-clause-bytes
returns-clause-bytes c = λ bytes.
    let size : ℕ = c.args.body.len in
    let skipped : ℕ = c.min-skipped.result in
    let s : skipped ≡ min size c.args.offset = omega arith in
    let m : c.min.result ≡ min (size - skipped) c.args.len = omega arith in
    rw m (buffer_within bytes c.args.body.start size c.args.offset c.args.len skipped (size - skipped) s refl)
