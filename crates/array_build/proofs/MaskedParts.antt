-- Cells under a mask, part by part.
use Rattle.std.specs.Prelude.{if◌then◌else◌}
use Rattle.std.specs.List.{list_all}
use Rattle.std.proofs.Common.{◌≡◌, ◌+◌, Bool, true, false, List, [], ◌∷◌, ◌++◌, map, length, refl, ap₂, arith}
use Rattle.std.proofs.lemmas.Bool.{and_from, and_parts}
use Rattle.array_build.specs.inner.Masked.{are_below}
use Rattle.dictionary_codes.specs.Masks.{joined, masked}
use Rattle.cells.specs.Cell.{Cell, null, boolean, number, text, bytes, items, parts}
use Rattle.cells.specs.Nulls.{is_there}

-- ---- bits one after another

pub below_append : (bits more own others : List Bool) → length bits ≡ length own → are_below (bits ++ more) (own ++ others) ≡ true
    → (are_below bits own ≡ true) × (are_below more others ≡ true)
below_append [] more [] others len h = (refl, h)
below_append [] more (o ∷ own) others len h = absurd (omega (arith, len))
below_append (b ∷ bits) more [] others len h = absurd (omega (arith, len))
below_append (true ∷ bits) more (o ∷ own) others len h =
    let both = and_parts o (are_below (bits ++ more) (own ++ others)) h in
    let rest = below_append bits more own others (omega (arith, len)) both.1 in
    (and_from o (are_below bits own) both.0 rest.0, rest.1)
below_append (false ∷ bits) more (o ∷ own) others len h = below_append bits more own others (omega (arith, len)) h

-- ---- bits that are set in two masks

pub joined_below : (bits own : List Bool) → length bits ≡ length own → are_below (joined bits own) own ≡ true
joined_below [] [] len = refl
joined_below [] (o ∷ own) len = absurd (omega (arith, len))
joined_below (b ∷ bits) [] len = absurd (omega (arith, len))
joined_below (true ∷ bits) (true ∷ own) len = joined_below bits own (omega (arith, len))
joined_below (true ∷ bits) (false ∷ own) len = joined_below bits own (omega (arith, len))
joined_below (false ∷ bits) (o ∷ own) len = joined_below bits own (omega (arith, len))

-- if all are, all are in each
pub all_joined : (bits own : List Bool) → length bits ≡ length own → list_all (λ b. b) (joined bits own) ≡ true → (list_all (λ b. b) bits ≡ true) × (list_all (λ b. b) own ≡ true)
all_joined [] [] len h = (refl, refl)
all_joined [] (o ∷ own) len h = absurd (omega (arith, len))
all_joined (b ∷ bits) [] len h = absurd (omega (arith, len))
all_joined (true ∷ bits) (true ∷ own) len h = all_joined bits own (omega (arith, len)) h
all_joined (true ∷ bits) (false ∷ own) len h = cc
all_joined (false ∷ bits) (o ∷ own) len h = cc

-- ---- a mask that is set at each cell but nulls

kept : (c : Cell) → (if is_there c then c else null) ≡ c
kept null = refl
kept (boolean b) = refl
kept (number n) = refl
kept (text t) = refl
kept (bytes b) = refl
kept (items cs) = refl
kept (parts cs) = refl

pub masked_itself : (cells : List Cell) → masked (map is_there cells) cells ≡ cells
masked_itself [] = refl
masked_itself (c ∷ cells) = ap₂ (λ (x : Cell) (xs : List Cell). x ∷ xs) (kept c) (masked_itself cells)
