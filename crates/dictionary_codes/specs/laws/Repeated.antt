-- Equal items.
use Rattle.std.specs.Prelude.{replicate}
use Rattle.std.specs.List.{flat_map}
use Rattle.std.proofs.Common.{◌≡◌, ℕ, zero, suc, ◌+◌, ◌*◌, List, [], ◌∷◌, ◌++◌, map, refl, ap, ap₂, arith}

pub repeated_more : {X : Type 0} (m n : ℕ) (x : X) → replicate (m + n) x ≡ replicate m x ++ replicate n x
repeated_more zero n x = let e : 0 + n ≡ n = omega arith in ap (λ (k : ℕ). replicate k x) e
repeated_more (suc m) n x = let e : suc m + n ≡ suc (m + n) = omega arith in rw e (ap (λ xs. x ∷ xs) (repeated_more m n x))

-- what each of some equal items has
pub repeated_each : {X A : Type 0} (f : X → List A) (w : ℕ) (x : X) (a : A) (n : ℕ) → f x ≡ replicate w a → flat_map f (replicate n x) ≡ replicate (n * w) a
repeated_each f w x a zero h = let e : 0 * w ≡ 0 = omega arith in rw e refl
repeated_each f w x a (suc n) h =
    let e : suc n * w ≡ w + n * w = omega arith in
    rw (e, repeated_more w (n * w) a) (ap₂ (λ xs ys. xs ++ ys) h (repeated_each f w x a n h))

pub none_each : {X A : Type 0} (f : X → List A) (x : X) (n : ℕ) → f x ≡ [] → flat_map f (replicate n x) ≡ []
none_each f x zero h = refl
none_each f x (suc n) h = rw h (none_each f x n h)

pub repeated_map : {X Y : Type 0} (f : X → Y) (n : ℕ) (x : X) → map f (replicate n x) ≡ replicate n (f x)
repeated_map f zero x = refl
repeated_map f (suc n) x = ap (λ ys. f x ∷ ys) (repeated_map f n x)
