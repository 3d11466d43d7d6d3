-- A walk by its first thing.
use Rattle.std.proofs.Common.{◌≡◌, ℕ, List, [], ◌∷◌, Ok, Err}
use Rattle.flatbuf.specs.declared.FlatError.{FlatError}
use Rattle.flatbuf.specs.Walk.{Thing, run}
use Rattle.flatbuf.specs.laws.Walk.{run_ok, run_err}

-- the first thing is bad
pub first_err : (bytes : List ℕ) (x : Thing) (xs : List Thing) (n : ℕ) (e : FlatError) → run bytes (x ∷ []) n ≡ Err e → run bytes (x ∷ xs) n ≡ Err e
first_err bytes x xs n e h = run_err bytes (x ∷ []) xs n e h

-- the first thing is fine
pub first_ok : (bytes : List ℕ) (x : Thing) (xs : List Thing) (n m : ℕ) → run bytes (x ∷ []) n ≡ Ok m → run bytes (x ∷ xs) n ≡ run bytes xs m
first_ok bytes x xs n m h = run_ok bytes (x ∷ []) xs n m h
