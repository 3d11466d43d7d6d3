-- Laws of runs that share no sector.
use Rattle.std.proofs.Common.{inl, inr, ⊎_elim, ◌≤◌, ◌<◌, ◌+◌, ℕ, List, [], ◌∷◌, arith}
use Rattle.segments.specs.Runs.{IsApart, ApartFrom, OutOf}
use Rattle.segments.specs.declared.run.Run.{Run}

pub swapped : (a b : Run) → IsApart a b → IsApart b a
swapped a b (inl before) = inr before
swapped a b (inr after) = inl after

-- a sector of a run lies in none of the runs that it is apart from
pub out_of_apart : (run : Run) (runs : List Run) (n : ℕ) → ApartFrom run runs → run.start ≤ n → n < run.start + run.count → OutOf runs n
out_of_apart run [] n apart low high = tt
out_of_apart run (r ∷ rs) n apart low high =
    (⊎_elim (λ (before : run.start + run.count ≤ r.start). inl (omega arith)) (λ (after : r.start + r.count ≤ run.start). inr (omega arith)) apart.0, out_of_apart run rs n apart.1 low high)
