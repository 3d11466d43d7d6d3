use Rattle.std.specs.Int.{byte_at, bytes_low_first}
use Rattle.std.proofs.Common.{◌≡◌, ◌≤◌, ◌+◌, ◌++◌, ◌∙◌, ℕ, zero, suc, List, ◌∷◌, arith, ap, refl, take}
use Rattle.dictionary_codes.proofs.number_bytes.put_number.Goals as goal
use borrow.Rule.Slice.PartMut.{Post-is}

-- the low bytes of a number are the first of all
low_bytes : (i n k x : ℕ) → n ≤ k → take n (bytes_low_first i k x) ≡ bytes_low_first i n x
low_bytes i zero k x le = refl
low_bytes i (suc n) zero x le = absurd (omega arith)
low_bytes i (suc n) (suc k) x le = ap (λ (xs : List ℕ). byte_at i x ∷ xs) (low_bytes (suc i) n k x (omega arith))

pub returns : goal.returns
returns g c =
    let at : ℕ = c.args.at in
    let old : List ℕ = c.args.bytes.now in
    let after = Post-is at (at + g.row.SIZE) old (omega (arith, c.requires.room)) in
    let bytes = rw c.to_le_bytes.ensures at c.copy_from_slice.ensures.after in
    let own = bytes ∙ low_bytes 0 g.row.SIZE 8 c.args.number c.requires.size in
    (λ i. take at old ++ (own i ++ after i))
