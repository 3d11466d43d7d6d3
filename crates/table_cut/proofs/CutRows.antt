-- The pieces of rows are the cut, and there is one cut.
use Rattle.std.specs.Prelude.{nat_le, sum_by}
use Rattle.std.specs.List.{list_all}
use Rattle.std.proofs.Common.{◌≡◌, ◌≢◌, ℕ, Bool, true, false, List, [], ◌∷◌, ◌++◌, length, refl, sym, ap, ◌∙◌, arith, append_assoc, length-append}
use Rattle.std.proofs.lemmas.Bool.{and_parts, and_from, le-leb, leb-true}
use Rattle.std.proofs.lemmas.List.{append-nil}
use Rattle.std.proofs.lemmas.List.Concat.{flat_map-cons}
use Rattle.std.proofs.lemmas.List.Sums.{sum_by-append, list_all-from_AllPass}
use Rattle.arrow_schema.specs.Column.{PlainSchema}
use Rattle.cells.specs.Cell.{Cell, PlainTable}
use Rattle.cells.specs.Dictionary.{dictionaries_fit}
use Rattle.cells.specs.Row.{is_row}
use Rattle.cells.specs.Weight.{row_weight}
use Rattle.table_cut.specs.Cut.{pieces, pieces_from, within_limits}
use Rattle.table_cut.specs.CutRows.{HasNoRoom, joined, AreLongest, IsCut, EachWithin}
use Rattle.table_cut.specs.Piece.{within_piece, pieces_of}
use Rattle.table_cut.specs.laws.Joined.{pieces_joined}
use Rattle.table_cut.specs.laws.OneRow.{one_within}
use Rattle.table_cut.proofs.Fronts.{dictionaries_of_fronts}
use Rattle.values.specs.Table.{IsTable}

joined-cons : {A : Type 0} (piece : List A) (others : List (List A)) → joined (piece ∷ others) ≡ piece ++ joined others
joined-cons piece others = flat_map-cons (λ p. p) piece others

-- one row more makes no list empty
not_empty : {A : Type 0} (taken : List A) (row : A) → taken ++ row ∷ [] ≢ []
not_empty [] row = λ h. cc
not_empty (x ∷ xs) row = λ h. cc

some : {A : Type 0} (row : A) → row ∷ [] ≢ []
some row = λ h. cc

longest_step : {A : Type 0} (within : List A → Bool) (taken : List A) (row : A) (rows : List A) (b : Bool) → within (taken ++ row ∷ []) ≡ b → taken ≢ [] → within taken ≡ true
    → (within (taken ++ row ∷ []) ≡ true → AreLongest within (pieces_from within (taken ++ row ∷ []) rows)) → AreLongest within (pieces_from within (row ∷ []) rows)
    → AreLongest within (pieces_from within taken (row ∷ rows))
longest_step within taken row rows true h there fits more apart = rw h (more h)
longest_step within taken row rows false h there fits more apart =
    let next : joined (pieces_from within (row ∷ []) rows) ≡ row ∷ rows = pieces_joined within (row ∷ rows) in
    let room : HasNoRoom within taken (joined (pieces_from within (row ∷ []) rows)) = rw next h in
    rw h (there, fits, room, apart)

longest_from : {A : Type 0} (within : List A → Bool) (taken rows : List A) → taken ≢ [] → within taken ≡ true → EachWithin within rows → AreLongest within (pieces_from within taken rows)
longest_from within taken [] there fits each = (there, fits, tt, tt)
longest_from within taken (row ∷ rows) there fits each =
    longest_step within taken row rows (within (taken ++ row ∷ [])) refl there fits
    (λ h. longest_from within (taken ++ row ∷ []) rows (not_empty taken row) h each.1)
    (longest_from within (row ∷ []) rows (some row) each.0 each.1)

is_cut : {A : Type 0} (within : List A → Bool) (rows : List A) → EachWithin within rows → IsCut within rows (pieces within rows)
is_cut within [] each = record { whole = refl; longest = tt }
is_cut within (row ∷ rows) each = record {
  whole = pieces_joined within (row ∷ rows);
  longest = longest_from within (row ∷ []) rows (some row) each.0 each.1;
}

-- ---- there is no other

-- what is within the limits has each of its fronts within them
abbrev IsOfFronts : {A : Type 0} → (List A → Bool) → Type 0
IsOfFronts within = (front others : List _) → within (front ++ others) ≡ true → within front ≡ true

filled : {A : Type 0} (within : List A → Bool) (taken more rest : List A) → IsOfFronts within → within (taken ++ more) ≡ true → HasNoRoom within (taken ++ more) rest
    → pieces_from within taken (more ++ rest) ≡ (taken ++ more) ∷ pieces within rest
filled within taken [] [] fronts fits room = rw (append-nil taken) refl
filled within taken [] (row ∷ rest) fronts fits room = let full : within (taken ++ row ∷ []) ≡ false = rw (append-nil taken) at room in rw (full, append-nil taken) refl
filled within taken (row ∷ more) rest fronts fits room =
    let same : (taken ++ row ∷ []) ++ more ≡ taken ++ row ∷ more = append_assoc taken (row ∷ []) more in
    let fits' : within ((taken ++ row ∷ []) ++ more) ≡ true = ap within same ∙ fits in
    let room' : HasNoRoom within ((taken ++ row ∷ []) ++ more) rest = rw same room in
    let has : within (taken ++ row ∷ []) ≡ true = fronts (taken ++ row ∷ []) more fits' in
    rw has (filled within (taken ++ row ∷ []) more rest fronts fits' room' ∙ ap (λ x. x ∷ pieces within rest) same)

one_cut : {A : Type 0} (within : List A → Bool) (ps : List (List A)) → IsOfFronts within → AreLongest within ps → ps ≡ pieces within (joined ps)
one_cut within [] fronts longest = refl
one_cut within ([] ∷ others) fronts longest = absurd (longest.0 refl)
one_cut within ((row ∷ rows) ∷ others) fronts longest =
    let first : pieces_from within (row ∷ []) (rows ++ joined others) ≡ (row ∷ rows) ∷ pieces within (joined others) = filled within (row ∷ []) rows (joined others) fronts longest.1 longest.2 in
    let remaining : others ≡ pieces within (joined others) = one_cut within others fronts longest.3 in
    ap (λ x. (row ∷ rows) ∷ x) remaining ∙ sym first ∙ ap (pieces within) (sym (joined-cons (row ∷ rows) others))

only_cut : {A : Type 0} (within : List A → Bool) (rows : List A) (ps : List (List A)) → IsOfFronts within → IsCut within rows ps → ps ≡ pieces within rows
only_cut within rows ps fronts cut = one_cut within ps fronts cut.longest ∙ ap (pieces within) cut.whole

-- ---- the limits of a piece

limits_of_fronts : {A : Type 0} (weight : A → ℕ) (count total : ℕ) (front others : List A) → within_limits weight count total (front ++ others) ≡ true → within_limits weight count total front ≡ true
limits_of_fronts weight count total front others h =
    let parts = and_parts (nat_le (length (front ++ others)) count) (nat_le (sum_by weight (front ++ others)) total) h in
    let few = leb-true (length (front ++ others)) count parts.0 in
    let light = leb-true (sum_by weight (front ++ others)) total parts.1 in
    let a = length-append front others in
    let s = sum_by-append weight front others in
    rw (le-leb (length front) count (omega (arith, few, a)), le-leb (sum_by weight front) total (omega (arith, light, s))) refl

piece_of_fronts : (s : PlainSchema) → IsOfFronts (within_piece s)
piece_of_fronts s front others h =
    let parts = and_parts (within_limits (row_weight s) 4096 16777216 (front ++ others)) (dictionaries_fit s (front ++ others)) h in
    and_from _ _ (limits_of_fronts (row_weight s) 4096 16777216 front others parts.0) (dictionaries_of_fronts s front others parts.1)

each_within : (s : PlainSchema) (rows : List (List Cell)) → list_all (is_row s) rows ≡ true → EachWithin (within_piece s) rows
each_within s [] are = tt
each_within s (row ∷ rows) are =
    let p = and_parts (is_row s row) (list_all (is_row s) rows) are in
    (one_within s row p.0, each_within s rows p.1)

pub pieces_are_cut : (t : PlainTable) → IsTable t → IsCut (within_piece t.schema) t.rows (pieces_of t)
pieces_are_cut t table = is_cut (within_piece t.schema) t.rows (each_within t.schema t.rows (list_all-from_AllPass (is_row t.schema) t.rows table.rows))

pub no_other_cut : (t : PlainTable) (ps : List (List (List Cell))) → IsCut (within_piece t.schema) t.rows ps → ps ≡ pieces_of t
no_other_cut t ps cut = only_cut (within_piece t.schema) t.rows ps (piece_of_fronts t.schema) cut

pub next_piece : (s : PlainSchema) (piece rest : List (List Cell)) → piece ≢ [] → within_piece s piece ≡ true → HasNoRoom (within_piece s) piece rest
    → pieces (within_piece s) (piece ++ rest) ≡ piece ∷ pieces (within_piece s) rest
next_piece s [] rest some fits room = absurd (some refl)
next_piece s (row ∷ rows) rest some fits room = filled (within_piece s) (row ∷ []) rows rest (piece_of_fronts s) fits room
