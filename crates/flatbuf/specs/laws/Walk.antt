-- A walk over two lists of things is a walk over the first and then over the second.
use Rattle.std.proofs.Common.{◌≡◌, ℕ, ◌+◌, Bool, true, false, cond, List, [], ◌∷◌, ◌++◌, length, Result, Ok, Err, refl, ap, ◌∙◌, nat_lt, nat_le, ◌&&◌, eqb, ◌%◌}
use Rattle.flatbuf.specs.declared.FlatError.{FlatError}
use Rattle.flatbuf.specs.declared.FlatError.TheVariants.{Bounds, VtableSize, Budget}
use Rattle.flatbuf.specs.declared.limits.TheConstants.{MAX_BUFFER_TABLES}
use Rattle.flatbuf.specs.Walk.{Thing, table, too_deep, span, before_all, vtable_size, missing, run}

abbrev pub goes_on : Result ℕ FlatError → (ℕ → Result ℕ FlatError) → Result ℕ FlatError
goes_on (Ok n) f = f n
goes_on (Err e) f = Err e

on_cond : (b : Bool) (r : Result ℕ FlatError) (f : ℕ → Result ℕ FlatError) (e : FlatError) → cond b (goes_on r f) (Err e) ≡ goes_on (cond b r (Err e)) f
on_cond true r f e = refl
on_cond false r f e = refl

pub run_append : (bytes : List ℕ) (xs ys : List Thing) (n : ℕ) → run bytes (xs ++ ys) n ≡ goes_on (run bytes xs n) (run bytes ys)
unfolding run
run_append bytes [] ys n = refl
run_append bytes (table ∷ xs) ys n = ap (λ r. cond (nat_lt n MAX_BUFFER_TABLES) r (Err Budget)) (run_append bytes xs ys (n + 1)) ∙ on_cond _ (run bytes xs (n + 1)) (run bytes ys) Budget
run_append bytes (too_deep ∷ xs) ys n = refl
run_append bytes (span at len ∷ xs) ys n = ap (λ r. cond (nat_le (at + len) (length bytes)) r (Err Bounds)) (run_append bytes xs ys n) ∙ on_cond _ (run bytes xs n) (run bytes ys) Bounds
run_append bytes (before_all ∷ xs) ys n = refl
run_append bytes (missing ∷ xs) ys n = refl
run_append bytes (vtable_size size ∷ xs) ys n = ap (λ r. cond (nat_le 4 size && eqb (size % 2) 0) r (Err VtableSize)) (run_append bytes xs ys n) ∙ on_cond _ (run bytes xs n) (run bytes ys) VtableSize

-- if the first walk succeeds
pub run_ok : (bytes : List ℕ) (xs ys : List Thing) (n m : ℕ) → run bytes xs n ≡ Ok m → run bytes (xs ++ ys) n ≡ run bytes ys m
run_ok bytes xs ys n m h = run_append bytes xs ys n ∙ ap (λ r. goes_on r (run bytes ys)) h

-- if the first walk fails
pub run_err : (bytes : List ℕ) (xs ys : List Thing) (n : ℕ) (e : FlatError) → run bytes xs n ≡ Err e → run bytes (xs ++ ys) n ≡ Err e
run_err bytes xs ys n e h = run_append bytes xs ys n ∙ ap (λ r. goes_on r (run bytes ys)) h
