-- What the references of a vector lead to, one by one.
use Rattle.std.proofs.Common.{◌≡◌, ℕ, zero, suc, ◌+◌, ◌*◌, ◌<◌, List, length, slice_index, refl, sym, ap, ◌∙◌, arith}
use Rattle.flatbuf.specs.Lookup.{target, targets}

pub length_targets : (n : ℕ) (bytes : List ℕ) (at : ℕ) → length (targets n bytes at) ≡ n
length_targets zero bytes at = refl
length_targets (suc n) bytes at = ap suc (length_targets n bytes (at + 4))

pub target_at : (n i : ℕ) (bytes : List ℕ) (at : ℕ) → i < n → slice_index (targets n bytes at) i ≡ target bytes (at + 4 * i)
target_at zero i bytes at lt = absurd (omega arith)
target_at (suc n) zero bytes at lt = let here : at + 4 * 0 ≡ at = omega arith in ap (target bytes) (sym here)
target_at (suc n) (suc i) bytes at lt =
    let there : at + 4 + 4 * i ≡ at + 4 * suc i = omega arith in
    target_at n i bytes (at + 4) (omega arith) ∙ ap (target bytes) there
