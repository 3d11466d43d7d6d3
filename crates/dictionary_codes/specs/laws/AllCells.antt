-- A test of all cells.
use Rattle.std.specs.List.{list_all}
use Rattle.std.proofs.Common.{◌≡◌, ◌++◌, Bool, true, List, [], ◌∷◌, refl}
use Rattle.std.proofs.lemmas.Bool.{and_parts, and_from}
use Rattle.cells.specs.Cell.{Cell}

pub all_front : (test : Cell → Bool) (xs ys : List Cell) → list_all test (xs ++ ys) ≡ true → (list_all test xs ≡ true) × (list_all test ys ≡ true)
all_front test [] ys h = (refl, h)
all_front test (x ∷ xs) ys h =
    let both = and_parts (test x) (list_all test (xs ++ ys)) h in
    let rest = all_front test xs ys both.1 in
    (and_from (test x) (list_all test xs) both.0 rest.0, rest.1)
