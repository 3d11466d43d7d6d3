-- Columns as a list and back; pairs by their parts.
use Rattle.std.proofs.Common.{◌≡◌, ℕ, List, [], ◌∷◌, refl, ap, ◌∙◌}
use Rattle.arrow_schema.specs.Column.{Pair, Column, Columns, no_column, and_column, columns_of, list_of}

pub columns_list : (cs : Columns) → columns_of (list_of cs) ≡ cs
columns_list no_column = refl
columns_list (and_column c cs) = ap (and_column c) (columns_list cs)

pub columns_listed : (cs : List Column) → list_of (columns_of cs) ≡ cs
columns_listed [] = refl
columns_listed (c ∷ cs) = ap (λ (xs : List Column). c ∷ xs) (columns_listed cs)

pub pair_from_parts : (a b : Pair) → a.0 ≡ b.0 → a.1 ≡ b.1 → a ≡ b
pair_from_parts a b p q =
    ap (λ (k : List ℕ). let r : Pair = (k, a.1) in r) p ∙ ap (λ (v : List ℕ). let r : Pair = (b.0, v) in r) q
