-- The column of an id, id by id.
use Rattle.std.specs.Prelude.{◌==◌, cond, option_map}
use Rattle.std.proofs.Common.{◌≡◌, ℕ, zero, suc, ◌+◌, ◌<◌, Bool, true, false, Option, Some, List, [], ◌∷◌, length, get_or, map, take, drop, refl, ap, sym, ◌∙◌, arith}
use Rattle.std.proofs.lemmas.List.{drop-drop, drop_more}
use Rattle.arrow_schema.specs.Column.{Column}
use Rattle.arrays.specs.Dictionaries.{DictionaryColumn, column_of_id}
use Rattle.arrays.specs.DictionaryColumns.{columns_with, first_alone}

abbrev pub alone_of : Option DictionaryColumn → Option (List Column)
alone_of found = option_map (λ c. c.values ∷ []) found

here : (test : Bool) (c : DictionaryColumn) (rest : Option DictionaryColumn) → test ≡ true → alone_of (cond test (Some c) rest) ≡ Some (c.values ∷ [])
here true c rest h = refl
here false c rest h = absurd cc

later : (test : Bool) (c : DictionaryColumn) (rest : Option DictionaryColumn) → test ≡ false → cond test (Some c) rest ≡ rest
later false c rest h = refl
later true c rest h = absurd cc

none_with : (ids : List ℕ) → columns_with ids [] ≡ []
none_with [] = refl
none_with (id ∷ ids) = refl

first_found : (id x : ℕ) (ids : List ℕ) (values : List Column) → (x == id) ≡ true → alone_of (column_of_id id (columns_with (x ∷ ids) values)) ≡ first_alone values
first_found id x ids [] h = refl
first_found id x ids (v ∷ values) h = here (x == id) (record { id = x; values = v }) (column_of_id id (columns_with ids values)) h

next_found : (id x : ℕ) (ids : List ℕ) (values : List Column) → (x == id) ≡ false → column_of_id id (columns_with (x ∷ ids) values) ≡ column_of_id id (columns_with ids (drop 1 values))
next_found id x ids [] h = ap (column_of_id id) (sym (none_with ids))
next_found id x ids (v ∷ values) h = later (x == id) (record { id = x; values = v }) (column_of_id id (columns_with ids values)) h

-- the id that a loop is at is the one, or another
pub found_here : (id : ℕ) (ids : List ℕ) (values : List Column) (i : ℕ) → i < length ids → (get_or ids i 0 == id) ≡ true
    → alone_of (column_of_id id (columns_with (drop i ids) (drop i values))) ≡ first_alone (drop i values)
found_here id ids values i within h =
    ap (λ (xs : List ℕ). alone_of (column_of_id id (columns_with xs (drop i values)))) (drop_more ids i 0 within)
    ∙ first_found id (get_or ids i 0) (drop (i + 1) ids) (drop i values) h

pub found_later : (id : ℕ) (ids : List ℕ) (values : List Column) (i : ℕ) → i < length ids → (get_or ids i 0 == id) ≡ false
    → column_of_id id (columns_with (drop i ids) (drop i values)) ≡ column_of_id id (columns_with (drop (i + 1) ids) (drop (i + 1) values))
found_later id ids values i within h =
    ap (λ (xs : List ℕ). column_of_id id (columns_with xs (drop i values))) (drop_more ids i 0 within)
    ∙ next_found id (get_or ids i 0) (drop (i + 1) ids) (drop i values) h
    ∙ ap (λ (vs : List Column). column_of_id id (columns_with (drop (i + 1) ids) vs)) (drop-drop 1 i values)

-- ---- the field at a place by itself

-- what is at a place within
pub one_within : {X : Type 0} (f : X → Column) (xs : List X) (i : ℕ) → i < length xs → Some (map f (take 1 (drop i xs))) ≡ first_alone (drop i (map f xs))
one_within f [] i within = absurd (omega arith)
one_within f (x ∷ xs) zero within = refl
one_within f (x ∷ xs) (suc i) within = one_within f xs i (omega arith)
