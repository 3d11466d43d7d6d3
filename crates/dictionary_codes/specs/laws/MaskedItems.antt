-- Items and cells under a mask.
use Rattle.std.specs.Prelude.{nat_lt, ◌&&◌, replicate, if◌then◌else◌}
use Rattle.std.specs.List.{list_all, range_with_len}
use Rattle.std.proofs.Common.{◌≡◌, ℕ, zero, suc, ◌+◌, Bool, true, false, List, [], ◌∷◌, ◌++◌, map, length, get_or, refl, ap, ap₂, arith}
use Rattle.std.proofs.lemmas.Bool.Decides.{nat_tests}
use Rattle.dictionary_codes.specs.Masks.{joined, masked_by}

either : {A B : Type 0} (f : A → B) (b : Bool) (x y : A) → f (if b then x else y) ≡ (if b then f x else f y)
either f true x y = refl
either f false x y = refl

-- what each item has
pub masked_map : {A B : Type 0} (f : A → B) (none : A) (bits : List Bool) (xs : List A) → map f (masked_by none bits xs) ≡ masked_by (f none) bits (map f xs)
masked_map f none [] xs = refl
masked_map f none (b ∷ bits) [] = refl
masked_map f none (b ∷ bits) (x ∷ xs) = ap₂ (λ y ys. y ∷ ys) (either f b x none) (masked_map f none bits xs)

pub masked_length : {A : Type 0} (none : A) (bits : List Bool) (xs : List A) → length (masked_by none bits xs) ≡ length xs
masked_length none [] xs = refl
masked_length none (b ∷ bits) [] = refl
masked_length none (b ∷ bits) (x ∷ xs) = ap suc (masked_length none bits xs)

-- masks one after another
pub masked_append : {A : Type 0} (none : A) (bits more : List Bool) (xs ys : List A) → length bits ≡ length xs → masked_by none (bits ++ more) (xs ++ ys) ≡ masked_by none bits xs ++ masked_by none more ys
masked_append none [] more [] ys len = refl
masked_append none [] more (x ∷ xs) ys len = absurd (omega (arith, len))
masked_append none (b ∷ bits) more [] ys len = absurd (omega (arith, len))
masked_append none (b ∷ bits) more (x ∷ xs) ys len = ap (λ zs. (if b then x else none) ∷ zs) (masked_append none bits more xs ys (omega (arith, len)))

-- nothing changes if all bits are set
pub all_kept : {A : Type 0} (none : A) (bits : List Bool) (xs : List A) → length bits ≡ length xs → list_all (λ b. b) bits ≡ true → masked_by none bits xs ≡ xs
all_kept none [] xs len all = refl
all_kept none (b ∷ bits) [] len all = absurd (omega (arith, len))
all_kept none (true ∷ bits) (x ∷ xs) len all = ap (λ ys. x ∷ ys) (all_kept none bits xs (omega (arith, len)) all)
all_kept none (false ∷ bits) (x ∷ xs) len all = cc

-- and all items are one if none is set
pub none_kept : {A : Type 0} (none : A) (n : ℕ) (xs : List A) → n ≡ length xs → masked_by none (replicate n false) xs ≡ replicate n none
none_kept none zero [] len = refl
none_kept none zero (x ∷ xs) len = absurd (omega (arith, len))
none_kept none (suc n) [] len = absurd (omega (arith, len))
none_kept none (suc n) (x ∷ xs) len = ap (λ ys. none ∷ ys) (none_kept none n xs (omega (arith, len)))

-- items that are masked already
pub alike_kept : {A : Type 0} (none : A) (bits : List Bool) (n : ℕ) → masked_by none bits (replicate n none) ≡ replicate n none
alike_kept none [] n = refl
alike_kept none (b ∷ bits) zero = refl
alike_kept none (true ∷ bits) (suc n) = ap (λ ys. none ∷ ys) (alike_kept none bits n)
alike_kept none (false ∷ bits) (suc n) = ap (λ ys. none ∷ ys) (alike_kept none bits n)

both : {A : Type 0} (b o : Bool) (x none : A) → (if b then (if o then x else none) else none) ≡ (if (if b then o else false) then x else none)
both true o x none = refl
both false o x none = refl

-- one mask and then another are both
pub masked_twice : {A : Type 0} (none : A) (bits others : List Bool) (xs : List A) → length bits ≡ length others → masked_by none bits (masked_by none others xs) ≡ masked_by none (joined bits others) xs
masked_twice none [] [] xs len = refl
masked_twice none [] (o ∷ others) xs len = absurd (omega (arith, len))
masked_twice none (b ∷ bits) [] xs len = absurd (omega (arith, len))
masked_twice none (b ∷ bits) (o ∷ others) [] len = refl
masked_twice none (b ∷ bits) (o ∷ others) (x ∷ xs) len = ap₂ (λ y ys. y ∷ ys) (both b o x none) (masked_twice none bits others xs (omega (arith, len)))

-- ---- bits that are set in both

pub others_all : (bits others : List Bool) → length bits ≡ length others → list_all (λ b. b) others ≡ true → joined bits others ≡ bits
others_all [] [] len all = refl
others_all [] (o ∷ others) len all = absurd (omega (arith, len))
others_all (b ∷ bits) [] len all = absurd (omega (arith, len))
others_all (true ∷ bits) (true ∷ others) len all = ap (λ bs. true ∷ bs) (others_all bits others (omega (arith, len)) all)
others_all (false ∷ bits) (true ∷ others) len all = ap (λ bs. false ∷ bs) (others_all bits others (omega (arith, len)) all)
others_all (b ∷ bits) (false ∷ others) len all = cc

pub some_joined : (bits others : List Bool) → length bits ≡ length others → list_all (λ b. b) others ≡ false → list_all (λ b. b) (joined bits others) ≡ false
some_joined [] [] len some = some
some_joined [] (o ∷ others) len some = absurd (omega (arith, len))
some_joined (b ∷ bits) [] len some = absurd (omega (arith, len))
some_joined (true ∷ bits) (true ∷ others) len some = some_joined bits others (omega (arith, len)) some
some_joined (false ∷ bits) (true ∷ others) len some = refl
some_joined (true ∷ bits) (false ∷ others) len some = refl
some_joined (false ∷ bits) (false ∷ others) len some = refl

pub all_alike : (n : ℕ) → list_all (λ b. b) (replicate n true) ≡ true
all_alike zero = refl
all_alike (suc n) = all_alike n

pub all_are_alike : (bits : List Bool) → list_all (λ b. b) bits ≡ true → replicate (length bits) true ≡ bits
all_are_alike [] all = refl
all_are_alike (true ∷ bits) all = ap (λ bs. true ∷ bs) (all_are_alike bits all)
all_are_alike (false ∷ bits) all = cc

joined_bit : (b o : Bool) → (if b then o else false) ≡ (b && o)
joined_bit true o = refl
joined_bit false o = refl

-- each bit of what two masks have in common
pub joined_at : (f g : ℕ → Bool) (from n i : ℕ) → get_or (joined (map f (range_with_len from n)) (map g (range_with_len from n))) i false ≡ (nat_lt i n && (f (from + i) && g (from + i)))
joined_at f g from zero i = let none : nat_lt i 0 ≡ false = grind (arith, nat_tests) in rw none refl
joined_at f g from (suc n) zero =
    let here : from + 0 ≡ from = omega arith in
    let first : nat_lt 0 (suc n) ≡ true = grind (arith, nat_tests) in
    rw (here, first) (joined_bit (f from) (g from))
joined_at f g from (suc n) (suc i) =
    let here : from + suc i ≡ from + 1 + i = omega arith in
    let next : nat_lt (suc i) (suc n) ≡ nat_lt i n = grind (arith, nat_tests) in
    rw (here, next) (joined_at f g (from + 1) n i)
