-- Where a piece ends.
use Rattle.std.specs.Prelude.{nat_le, sum_by}
use Rattle.std.specs.List.{range_with_len, list_all}
use Rattle.std.proofs.Common.{◌≡◌, ◌≢◌, ◌⊎◌, inl, inr, ℕ, zero, suc, ◌+◌, ◌-◌, ◌<◌, ◌≤◌, true, false, List, [], ◌∷◌, ◌++◌, map, length, refl, sym, ap, ◌∙◌, arith, length-append}
use Rattle.std.proofs.lemmas.Bool.{and_parts, and_from, leb-true, le-leb, lt-leb}
use Rattle.std.proofs.lemmas.List.Sums.{sum_by-append, sum_by-cons}
use Rattle.std.proofs.Math.Bool.{and-false}
use Rattle.arrow_schema.specs.Column.{PlainSchema, columns_of}
use Rattle.cells.specs.Cell.{Cell}
use Rattle.cells.specs.Dictionary.{dictionaries_fit}
use Rattle.cells.specs.Row.{is_row}
use Rattle.cells.specs.Weight.{row_weight, table_weight}
use Rattle.columns.specs.Array.{Arrays}
use Rattle.columns.specs.CellAt.{row_at}
use Rattle.table_cut.specs.Cut.{pieces, within_limits}
use Rattle.table_cut.specs.CutRows.{HasNoRoom}
use Rattle.table_cut.specs.Piece.{within_piece}
use Rattle.table_cut.specs.laws.OneRow.{one_within}

-- what is known of pieces: clauses of a law
abbrev pub NextLaw : Type 0
NextLaw = (s : PlainSchema) (piece rest : List (List Cell)) → piece ≢ [] → within_piece s piece ≡ true → HasNoRoom (within_piece s) piece rest
    → pieces (within_piece s) (piece ++ rest) ≡ piece ∷ pieces (within_piece s) rest

-- there are no more rows, or no room for the next one
abbrev pub IsFull : PlainSchema → List (List Cell) → List (List Cell) → Type 0
IsFull s piece [] = Unit {0}
IsFull s piece (row ∷ rows) = ((4096 ≤ length piece) ⊎ (16777216 < table_weight s piece + row_weight s row)) ⊎ (dictionaries_fit s (piece ++ row ∷ []) ≡ false)

too_long : (s : PlainSchema) (rows : List (List Cell)) → 4096 < length rows → within_limits (row_weight s) 4096 16777216 rows ≡ false
too_long s rows h = rw (lt-leb (length rows) 4096 h) refl

too_heavy : (s : PlainSchema) (rows : List (List Cell)) → 16777216 < table_weight s rows → within_limits (row_weight s) 4096 16777216 rows ≡ false
too_heavy s rows h = rw (lt-leb (sum_by (row_weight s) rows) 16777216 h) (and-false (nat_le (length rows) 4096))

too_many_entries : (s : PlainSchema) (rows : List (List Cell)) → dictionaries_fit s rows ≡ false → within_piece s rows ≡ false
too_many_entries s rows h = rw h (and-false (within_limits (row_weight s) 4096 16777216 rows))

past_limits : (s : PlainSchema) (rows : List (List Cell)) → within_limits (row_weight s) 4096 16777216 rows ≡ false → within_piece s rows ≡ false
past_limits s rows h = rw h refl

no_room : (s : PlainSchema) (piece rest : List (List Cell)) → IsFull s piece rest → HasNoRoom (within_piece s) piece rest
no_room s piece [] full = tt
no_room s piece (row ∷ rows) full =
    let more : length (piece ++ row ∷ []) ≡ length piece + 1 = length-append piece (row ∷ []) in
    let both = sum_by-append (row_weight s) piece (row ∷ []) in
    let one = sum_by-cons (row_weight s) row [] in
    elim full [
      | inl past ↦ past_limits s (piece ++ row ∷ []) (elim past [
        | inl many ↦ too_long s (piece ++ row ∷ []) (omega (arith, more, many))
        | inr heavy ↦ too_heavy s (piece ++ row ∷ []) (omega (arith, both, one, heavy))
      ])
      | inr filled ↦ too_many_entries s (piece ++ row ∷ []) filled
    ]

pub cut_here : NextLaw → (s : PlainSchema) (rows piece rest : List (List Cell)) → rows ≡ piece ++ rest → 1 ≤ length piece
    → length piece ≤ 4096 → table_weight s piece ≤ 16777216 → dictionaries_fit s piece ≡ true → IsFull s piece rest → pieces (within_piece s) rows ≡ piece ∷ pieces (within_piece s) rest
cut_here law s rows [] rest is some few light fit full = absurd (omega arith)
cut_here law s rows (row ∷ piece) rest is some few light fit full =
    let there : row ∷ piece ≢ [] = λ h. cc in
    let fits : within_piece s (row ∷ piece) ≡ true
    = and_from _ _ (and_from _ _ (le-leb (length (row ∷ piece)) 4096 few) (le-leb (sum_by (row_weight s) (row ∷ piece)) 16777216 light)) fit in
    ap (pieces (within_piece s)) is ∙ law s (row ∷ piece) rest there fits (no_room s (row ∷ piece) rest full)

-- a row that a table takes is not too heavy, and fills no dictionary
row_light : (s : PlainSchema) (row : List Cell) → is_row s row ≡ true → (row_weight s row ≤ 16777216) × (dictionaries_fit s (row ∷ []) ≡ true)
row_light s row is =
    let fits = and_parts (within_limits (row_weight s) 4096 16777216 (row ∷ [])) (dictionaries_fit s (row ∷ [])) (one_within s row is) in
    let light = leb-true (sum_by (row_weight s) (row ∷ [])) 16777216 (and_parts (nat_le 1 4096) (nat_le (sum_by (row_weight s) (row ∷ [])) 16777216) fits.0).1 in
    let one = sum_by-cons (row_weight s) row [] in
    (omega (arith, light, one), fits.1)

-- so a piece that is full has a row
pub some_taken : (s : PlainSchema) (rows piece rest : List (List Cell)) → rows ≡ piece ++ rest → list_all (is_row s) rows ≡ true → rows ≢ [] → IsFull s piece rest → 1 ≤ length piece
some_taken s rows (row ∷ piece) rest is are there full = omega arith
some_taken s rows [] [] is are there full = absurd (there is)
some_taken s rows [] (row ∷ rest) is are there full =
    let all : list_all (is_row s) (row ∷ rest) ≡ true = sym (ap (list_all (is_row s)) is) ∙ are in
    let alone = row_light s row (and_parts (is_row s row) (list_all (is_row s) rest) all).0 in
    let light = alone.0 in
    let none : table_weight s [] ≡ 0 = refl in
    elim full [
      | inl past ↦ elim past [ inl many ↦ absurd (omega (arith, many)) | inr heavy ↦ absurd (omega (arith, heavy, light, none)) ]
      | inr filled ↦ absurd (let fits = alone.1 in cc)
    ]

-- if n rows of a run are taken, the next one is the next row
abbrev pub IsPastLimits : PlainSchema → List (List Cell) → List Cell → Type 0
IsPastLimits s piece row = ((4096 ≤ length piece) ⊎ (16777216 < table_weight s piece + row_weight s row)) ⊎ (dictionaries_fit s (piece ++ row ∷ []) ≡ false)

first_full : (s : PlainSchema) (piece : List (List Cell)) (arrays : Arrays) (from n : ℕ) (more : List (List Cell)) → 0 < n
    → IsPastLimits s piece (row_at (columns_of s.columns) arrays from) → IsFull s piece (map (row_at (columns_of s.columns) arrays) (range_with_len from n) ++ more)
first_full s piece arrays from zero more some full = absurd (omega arith)
first_full s piece arrays from (suc n) more some full = full

pub run_full : (s : PlainSchema) (piece : List (List Cell)) (arrays : Arrays) (from n k : ℕ) (more : List (List Cell)) → k < n
    → IsPastLimits s piece (row_at (columns_of s.columns) arrays (from + k))
    → IsFull s piece (map (row_at (columns_of s.columns) arrays) (range_with_len (from + k) (n - k)) ++ more)
run_full s piece arrays from n k more lt full = first_full s piece arrays (from + k) (n - k) more (omega arith) full
