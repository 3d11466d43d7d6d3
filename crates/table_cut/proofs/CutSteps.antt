-- The steps of a cut: a row more is in the piece, or begins the next one.
use Rattle.std.specs.Prelude.{nat_le, sum_by, ◌&&◌, slice_get, Some}
use Rattle.std.proofs.Common.{◌≡◌, ℕ, ◌+◌, ◌<◌, ◌≤◌, Bool, true, false, List, [], ◌∷◌, ◌++◌, length, take, drop, zero, suc, refl, ap, sym, ◌∙◌, arith, length-append, add-one}
use Rattle.facts.specs.laws.Lists.{drop-item}
use Rattle.std.proofs.lemmas.Option.{get_or_from_slice_get}
use Rattle.std.proofs.lemmas.List.{drop-drop}
use Rattle.std.proofs.lemmas.Bool.{le-leb, lt-leb}
use Rattle.std.proofs.lemmas.List.Sums.{sum_by-append, sum_by-cons}
use Rattle.arrow_schema.specs.Column.{PlainSchema}
use Rattle.cells.specs.Cell.{Cell}
use Rattle.cells.specs.Dictionary.{dictionaries_fit}
use Rattle.cells.specs.Weight.{row_weight}
use Rattle.table_cut.specs.Cut.{pieces, pieces_from, within_limits}
use Rattle.table_cut.specs.Piece.{within_piece}

pub first_row : {A : Type 0} (within : List A → Bool) (left rest : List A) (row : A) → left ≡ row ∷ rest → pieces_from within (row ∷ []) rest ≡ pieces within left
first_row within left rest row is = rw is refl

pub one_more : {A : Type 0} (within : List A → Bool) (taken left rest : List A) (row : A) → left ≡ row ∷ rest → within (taken ++ row ∷ []) ≡ true
    → pieces_from within taken left ≡ pieces_from within (taken ++ row ∷ []) rest
one_more within taken left rest row is fits = rw (is, fits) refl

pub no_more : {A : Type 0} (within : List A → Bool) (taken left rest : List A) (row : A) → left ≡ row ∷ rest → within (taken ++ row ∷ []) ≡ false
    → pieces_from within taken left ≡ taken ∷ pieces within left
no_more within taken left rest row is fits = rw (is, fits) refl

pub sum_more : (s : PlainSchema) (taken : List (List Cell)) (row : List Cell) → sum_by (row_weight s) (taken ++ row ∷ []) ≡ sum_by (row_weight s) taken + row_weight s row
sum_more s taken row = sum_by-append (row_weight s) taken (row ∷ []) ∙ rw (sum_by-cons (row_weight s) row []) (omega arith)

pub is_within : (s : PlainSchema) (taken : List (List Cell)) (row : List Cell) → length taken + 1 ≤ 4096 → sum_by (row_weight s) taken + row_weight s row ≤ 16777216
    → dictionaries_fit s (taken ++ row ∷ []) ≡ true → within_piece s (taken ++ row ∷ []) ≡ true
is_within s taken row few light fits =
    rw (length-append taken (row ∷ []), sum_more s taken row, le-leb (length taken + 1) 4096 few, le-leb (sum_by (row_weight s) taken + row_weight s row) 16777216 light, fits) refl

pub has_too_many : (s : PlainSchema) (taken : List (List Cell)) (row : List Cell) → 4096 < length taken + 1 → within_piece s (taken ++ row ∷ []) ≡ false
has_too_many s taken row many = rw (length-append taken (row ∷ []), lt-leb (length taken + 1) 4096 many) refl

and_false : (b c : Bool) → (b && false) && c ≡ false
and_false true c = refl
and_false false c = refl

pub is_too_heavy : (s : PlainSchema) (taken : List (List Cell)) (row : List Cell) → 16777216 < sum_by (row_weight s) taken + row_weight s row → within_piece s (taken ++ row ∷ []) ≡ false
is_too_heavy s taken row heavy =
    rw (sum_more s taken row, lt-leb (sum_by (row_weight s) taken + row_weight s row) 16777216 heavy) (and_false (nat_le (length (taken ++ row ∷ [])) 4096) (dictionaries_fit s (taken ++ row ∷ [])))

pub one_weight : (s : PlainSchema) (row : List Cell) → sum_by (row_weight s) (row ∷ []) ≡ row_weight s row
one_weight s row = sum_by-cons (row_weight s) row [] ∙ omega arith

-- the row at a place stands before what is left
pub row_before : {A : Type 0} (rows : List A) (i : ℕ) (row : A) → i < length rows → slice_get rows i ≡ Some row → drop i rows ≡ row ∷ drop (i + 1) rows
row_before rows i row inside is = drop-item rows i row inside (sym (get_or_from_slice_get rows i row row is))

taken_more : {A : Type 0} (left rest : List A) (n : ℕ) (row : A) → drop n left ≡ row ∷ rest → take (suc n) left ≡ take n left ++ row ∷ []
taken_more left rest zero row is = rw is refl
taken_more {A = A} [] rest (suc n) row is = cc
taken_more {A = A} (x ∷ left) rest (suc n) row is = ap (λ (xs : List A). x ∷ xs) (taken_more left rest n row is)

-- the rows from a place on, and one more
pub one_row_taken : {A : Type 0} (rows rest : List A) (from n : ℕ) (row : A) → drop (from + n) rows ≡ row ∷ rest
    → take (n + 1) (drop from rows) ≡ take n (drop from rows) ++ row ∷ []
one_row_taken rows rest from n row is = rw add-one (taken_more (drop from rows) rest n row (drop-drop n from rows ∙ is))

and_last : (b : Bool) → b && false ≡ false
and_last true = refl
and_last false = refl

pub has_full_dictionary : (s : PlainSchema) (taken : List (List Cell)) (row : List Cell) → dictionaries_fit s (taken ++ row ∷ []) ≡ false → within_piece s (taken ++ row ∷ []) ≡ false
has_full_dictionary s taken row full = rw full (and_last (within_limits (row_weight s) 4096 16777216 (taken ++ row ∷ [])))
