use Rattle.std.specs.Prelude.{◌/◌}
use Rattle.std.proofs.Common.{◌≡◌, ◌-◌, ◌∙◌, ℕ, List, ap, arith, drop, length, refl, take}
use Rattle.std.proofs.lemmas.List.{length-drop, take_all}
use Rattle.byteorder.specs.Endian.{little_number}
use Rattle.bitmap.proofs.BitNumbers.{eight_bytes, last_bit, last_bits, next_bit}
use Rattle.bitmap.proofs.reading.next_bits.Goals as goal

-- what is from a byte on is taken whole
rest_is : (k : ℕ) (bits : List ℕ) → take (length bits - k) (drop k bits) ≡ drop k bits
rest_is k bits = take_all (length bits - k) (drop k bits) (omega (arith, length-drop k bits))

pub returns-clause-exact : goal.returns-clause-exact
returns-clause-exact c =
    let bits : List ℕ = c.args.bytes.now in
    let k : ℕ = c.args.from / 8 in
    eight_bytes bits c.args.from c.read_u64.result (λ i. (c.type_inv.bytes i).fits) (c.read_u64.ensures ∙ ap (little_number 8) (rest_is k bits))
    (omega (arith, c.if-rest-lt8.false, length-drop k bits, ap length (rest_is k bits)))

pub returns-clause-bits : goal.returns-clause-bits
returns-clause-bits c = λ j few lt.
    let bits : List ℕ = c.args.bytes.now in
    next_bit bits c.args.from 8 c.read_u64.result (λ i. (c.type_inv.bytes i).fits) (c.read_u64.ensures ∙ ap (little_number 8) (rest_is (c.args.from / 8) bits)) j (omega (arith, few))

pub returns-then-rest-lt8-clause-exact : goal.returns-then-rest-lt8-clause-exact
returns-then-rest-lt8-clause-exact c =
    let bits : List ℕ = c.args.bytes.now in
    last_bits bits _ c.args.from _ c.read_uint.result (λ i. (c.type_inv.bytes i).fits) c.read_uint.ensures (rest_is (c.args.from / 8) bits) refl c.requires (omega (arith, c.if-rest-lt8.true))

pub returns-then-rest-lt8-clause-bits : goal.returns-then-rest-lt8-clause-bits
returns-then-rest-lt8-clause-bits c = λ j few lt.
    let bits : List ℕ = c.args.bytes.now in
    last_bit bits _ c.args.from _ c.read_uint.result (λ i. (c.type_inv.bytes i).fits) c.read_uint.ensures (rest_is (c.args.from / 8) bits) refl c.requires j lt
