use Rattle.std.specs.Prelude.{◌/◌, ◌%◌, slice_index}
use Rattle.std.proofs.Common.{inl, inr, ◌≡◌, ℕ, ◌+◌, ◌*◌, ◌-◌, ◌<◌, List, arith}
use Rattle.std.proofs.lemmas.Bool.{cases_lt}
use Rattle.bitmap.proofs.Alike.{all_alike, in_byte, is_whole}
use Rattle.bitmap.proofs.runs.alike_end.Goals as goal

pub returns-then-first-left-clause-alike : goal.returns-then-first-left-clause-alike
returns-then-first-left-clause-alike c = λ i low high.
    let first = c.alike_in_byte-first in
    in_byte c.args.bytes.now c.args.set (c.args.from / 8) (c.args.from % 8) first.result first.ensures.ends first.ensures.alike i (omega (arith, low)) (omega (arith, high, c.min.ensures))

pub returns-then-byte-to-clause-alike : goal.returns-then-byte-to-clause-alike
returns-then-byte-to-clause-alike c =
    let bytes : List ℕ = c.args.bytes.now in
    let from : ℕ = c.args.from in
    let first = c.alike_in_byte-first in
    let last = c.alike_bytes-byte in
    all_alike bytes c.args.set from (from + (8 - from % 8)) last.result c.args.to (omega arith)
    (λ i low high. in_byte bytes c.args.set (from / 8) (from % 8) first.result first.ensures.ends first.ensures.alike i (omega (arith, low)) (omega (arith, high, c.if-first-left.false)))
    last.ensures.alike
    (λ i low high. absurd (omega (arith, low, high, c.if-byte-to.true)))

pub returns-clause-alike : goal.returns-clause-alike
returns-clause-alike c =
    let bytes : List ℕ = c.args.bytes.now in
    let from : ℕ = c.args.from in
    let first = c.alike_in_byte-first in
    let last = c.alike_bytes-byte in
    let end = c.alike_in_byte-last in
    all_alike bytes c.args.set from (from + (8 - from % 8)) last.result (8 * last.result + c.min-2.result) (omega arith)
    (λ i low high. in_byte bytes c.args.set (from / 8) (from % 8) first.result first.ensures.ends first.ensures.alike i (omega (arith, low)) (omega (arith, high, c.if-first-left.false)))
    last.ensures.alike
    (λ i low high. in_byte bytes c.args.set last.result 0 end.result end.ensures.ends end.ensures.alike i (omega (arith, low)) (omega (arith, high, c.min-2.ensures)))

pub returns-clause-longest : goal.returns-clause-longest
returns-clause-longest c = λ before.
    let bytes : List ℕ = c.args.bytes.now in
    let at : ℕ = c.alike_bytes-byte.result in
    let end = c.alike_in_byte-last in
    let m : ℕ = c.min-2.result in
    elim (cases_lt end.result 8) [
      | inl few ↦
          let same : m ≡ end.result = omega (arith, before, c.min-2.ensures) in
          let byte : (8 * at + m) / 8 ≡ at = omega (arith, same, few) in
          let place : (8 * at + m) % 8 ≡ 0 + end.result = omega (arith, same, few) in
          rw (byte, place) (end.ensures.longest (omega (arith, few)))
      | inr full ↦
          let all : end.result ≡ 8 = omega (arith, full, end.ensures.ends) in
          let room : at < c.args.to / 8 = omega (arith, before, c.min-2.ensures, all) in
          absurd (c.alike_bytes-byte.ensures.longest room
          (is_whole (slice_index bytes at) c.args.set (omega arith) (λ j lt. let z : 0 + j ≡ j = omega arith in rw z at (end.ensures.alike j (omega (arith, lt, all))))))
    ]
