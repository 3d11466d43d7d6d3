use mir.Val.{SFits, to_z}
use Rattle.std.specs.Int.{w16, w32, w64, w128}
use Rattle.std.specs.Prelude.{ℤ, pos, negsuc, ◌-ℤ◌, nat_lt, if◌then◌else◌}
use Rattle.std.proofs.Common.{◌≡◌, ◌<◌, ◌-◌, ◌^◌, ℕ, suc, List, get_or, ap, arith, ◌∙◌}
use Rattle.std.proofs.lemmas.Int.{ints, to_z-of_z}
use Rattle.byteorder.specs.Endian.{little_number, twos_complement}
use Rattle.columns.proofs.numbers.first_signed.Goals as goal

signed_16 : (n : ℕ) → n < 2 ^ 16 → to_z w16 n ≡ twos_complement 2 n
signed_16 n lt =
    let negative : negsuc (2 ^ 16 - suc n) ≡ pos n -ℤ pos (2 ^ 16) = omega (arith, ints, lt) in
    ap (λ (z : ℤ). if nat_lt n (2 ^ 15) then pos n else z) negative

signed_32 : (n : ℕ) → n < 2 ^ 32 → to_z w32 n ≡ twos_complement 4 n
signed_32 n lt =
    let negative : negsuc (2 ^ 32 - suc n) ≡ pos n -ℤ pos (2 ^ 32) = omega (arith, ints, lt) in
    ap (λ (z : ℤ). if nat_lt n (2 ^ 31) then pos n else z) negative

signed_64 : (n : ℕ) → n < 2 ^ 64 → to_z w64 n ≡ twos_complement 8 n
signed_64 n lt =
    let negative : negsuc (2 ^ 64 - suc n) ≡ pos n -ℤ pos (2 ^ 64) = omega (arith, ints, lt) in
    ap (λ (z : ℤ). if nat_lt n (2 ^ 63) then pos n else z) negative

pub returns-in-Eight : goal.returns-in-Eight
returns-in-Eight c =
    let whole : SFits w128 c.from.result = record { sfits = c.from.type_inv } in
    let fits : SFits w64 c.read_int.result = record { sfits = c.read_int.type_inv } in
    rw c.in-Eight.is (to_z-of_z w128 _ whole ∙ c.from.ensures ∙ to_z-of_z w64 _ fits ∙ c.read_int.ensures)

pub returns-in-Sixteen : goal.returns-in-Sixteen
returns-in-Sixteen c =
    let bytes : List ℕ = c.args.bytes.now in
    let b : (i : ℕ) → get_or bytes i 0 < 2 ^ 8 = λ i. (c.type_inv.bytes i).fits in
    let below : little_number 2 bytes < 2 ^ 16 = omega (arith, b 0, b 1) in
    let whole : SFits w128 c.from-in-Sixteen.result = record { sfits = c.from-in-Sixteen.type_inv } in
    let fits : SFits w16 c.read_i16.result = record { sfits = c.read_i16.type_inv } in
    rw c.in-Sixteen.is (to_z-of_z w128 _ whole ∙ c.from-in-Sixteen.ensures ∙ to_z-of_z w16 _ fits ∙ c.read_i16.ensures ∙ signed_16 (little_number 2 bytes) below)

pub returns-in-ThirtyTwo : goal.returns-in-ThirtyTwo
returns-in-ThirtyTwo c =
    let bytes : List ℕ = c.args.bytes.now in
    let b : (i : ℕ) → get_or bytes i 0 < 2 ^ 8 = λ i. (c.type_inv.bytes i).fits in
    let below : little_number 4 bytes < 2 ^ 32 = omega (arith, b 0, b 1, b 2, b 3) in
    let whole : SFits w128 c.from-in-ThirtyTwo.result = record { sfits = c.from-in-ThirtyTwo.type_inv } in
    let fits : SFits w32 c.read_i32.result = record { sfits = c.read_i32.type_inv } in
    rw c.in-ThirtyTwo.is (to_z-of_z w128 _ whole ∙ c.from-in-ThirtyTwo.ensures ∙ to_z-of_z w32 _ fits ∙ c.read_i32.ensures ∙ signed_32 (little_number 4 bytes) below)

pub returns-in-SixtyFour : goal.returns-in-SixtyFour
returns-in-SixtyFour c =
    let bytes : List ℕ = c.args.bytes.now in
    let b : (i : ℕ) → get_or bytes i 0 < 2 ^ 8 = λ i. (c.type_inv.bytes i).fits in
    let below : little_number 8 bytes < 2 ^ 64 = omega (arith, b 0, b 1, b 2, b 3, b 4, b 5, b 6, b 7) in
    let whole : SFits w128 c.from-in-SixtyFour.result = record { sfits = c.from-in-SixtyFour.type_inv } in
    let fits : SFits w64 c.read_i64.result = record { sfits = c.read_i64.type_inv } in
    rw c.in-SixtyFour.is (to_z-of_z w128 _ whole ∙ c.from-in-SixtyFour.ensures ∙ to_z-of_z w64 _ fits ∙ c.read_i64.ensures ∙ signed_64 (little_number 8 bytes) below)
