-- The number of placed buffers.
use Rattle.std.proofs.Common.{◌≡◌, ℕ, suc, ◌+◌, List, [], ◌∷◌, length, refl, ap}
use Rattle.ipc_write.specs.Written.{padded, placed}

pub length-placed : (at : ℕ) (buffers : List (List ℕ)) → length (placed at buffers) ≡ length buffers
length-placed at [] = refl
length-placed at (b ∷ bs) = ap suc (length-placed (at + length (padded b)) bs)
