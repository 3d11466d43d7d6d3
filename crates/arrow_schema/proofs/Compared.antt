-- What the tests of two columns decide.
use Rattle.std.proofs.Common.{◌≡◌, ◌≢◌, suc, length, Bool, false, ◌&&◌, List, [], ◌∷◌, map, refl, ap, ◌∙◌}
use Rattle.std.specs.Prelude.{String, string_eq}
use Rattle.std.specs.Global.{Global}
use Rattle.std.specs.Cmp.Lexicographic.{pointwise}
use Rattle.std.proofs.Math.Bool.{and-false}
use Rattle.arrow_schema.specs.declared.types.Field.{Field}
use Rattle.arrow_schema.specs.declared.compare.Detail.{Detail}
use Rattle.arrow_schema.specs.Column.{columns_of}
use Rattle.arrow_schema.specs.View.{pair_of, column_of}
use Rattle.arrow_schema.specs.inner.Alike.{pairs_eq, pair_eq, alike, alike_all}

-- `==` of pairs of texts
pub pairs-map : (xs ys : List (String Global × String Global)) → pointwise (λ p q. string_eq p.0 q.0 && string_eq p.1 q.1) xs ys ≡ pairs_eq (map pair_of xs) (map pair_of ys)
pairs-map [] [] = refl
pairs-map [] (y ∷ ys) = refl
pairs-map (x ∷ xs) [] = refl
pairs-map (x ∷ xs) (y ∷ ys) = ap (λ (b : Bool). pair_eq (pair_of x) (pair_of y) && b) (pairs-map xs ys)

pub alike_of_other_length : (detail : Detail) (xs ys : List Field) → length xs ≢ length ys → alike_all detail (columns_of (map column_of xs)) (columns_of (map column_of ys)) ≡ false
unfolding alike_all
alike_of_other_length detail [] [] h = absurd (h refl)
alike_of_other_length detail (x ∷ xs) [] h = refl
alike_of_other_length detail [] (y ∷ ys) h = refl
alike_of_other_length detail (x ∷ xs) (y ∷ ys) h =
    ap (λ (b : Bool). alike detail (column_of x) (column_of y) && b) (alike_of_other_length detail xs ys (λ e. h (ap suc e))) ∙ and-false (alike detail (column_of x) (column_of y))
