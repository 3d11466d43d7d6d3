-- The number of a slot is read from where the slot begins.
use Rattle.std.proofs.Common.{◌≡◌, ◌+◌, ◌-◌, ◌*◌, ◌≤◌, ℕ, List, length, take, drop, ap, ◌∙◌, add-mul, one-mul, arith}
use Rattle.std.proofs.lemmas.List.{length-drop, take_all}
use Rattle.byteorder.specs.Endian.{little_number}
use Rattle.columns.specs.CellAt.{number_at}

-- the bytes before a slot, and its own
pub slot_room : (i w k n : ℕ) → w ≡ k → (i + 1) * k ≤ n → i * w + w ≤ n
slot_room i w k n same room =
    let slots : (i + 1) * k ≡ i * k + k = add-mul i 1 k ∙ ap (λ (x : ℕ). i * k + x) (one-mul k) in
    let bytes : i * w + w ≡ i * k + k = ap (λ (x : ℕ). i * x + x) same in
    omega (arith, slots, bytes, room)

pub slot_number : (k w i n : ℕ) (values : List ℕ) → w ≡ k → n ≡ little_number k (take (length values - i * w) (drop (i * w) values)) → n ≡ number_at k values i
slot_number k w i n values same is =
    is ∙ ap (little_number k) (take_all (length values - i * w) (drop (i * w) values) (omega (arith, length-drop (i * w) values)))
    ∙ ap (λ (x : ℕ). little_number k (drop (i * x) values)) same
