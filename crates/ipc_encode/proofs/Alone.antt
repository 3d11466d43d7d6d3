-- Each piece of a cut is the only piece of its own rows.
use Rattle.std.specs.List.{AllByRecursion}
use Rattle.std.proofs.Common.{◌≡◌, Bool, true, false, List, [], ◌∷◌, ◌++◌, refl, sym, ap, ◌∙◌, append_assoc}
use Rattle.std.proofs.lemmas.List.{append-nil}
use Rattle.table_cut.specs.Cut.{pieces, pieces_from}

abbrev pub IsAlone : {A : Type 0} → (List A → Bool) → List A → Type 0
IsAlone within piece = pieces within piece ≡ piece ∷ []

-- rows that begin with these are cut as if these were taken already
abbrev AreTaken : {A : Type 0} → (List A → Bool) → List A → Type 0
AreTaken {A = A} within taken = (more : List A) → pieces within (taken ++ more) ≡ pieces_from within taken more

whole : {A : Type 0} (within : List A → Bool) (taken : List A) → AreTaken within taken → IsAlone within taken
whole within taken are = ap (pieces within) (sym (append-nil taken)) ∙ are []

one_more : {A : Type 0} (within : List A → Bool) (taken : List A) (row : A) → within (taken ++ row ∷ []) ≡ true → AreTaken within taken → AreTaken within (taken ++ row ∷ [])
one_more within taken row fits are more = ap (pieces within) (append_assoc taken (row ∷ []) more) ∙ are (row ∷ more) ∙ rw fits refl

step : {A : Type 0} (within : List A → Bool) (taken : List A) (row : A) (rows : List A) (b : Bool) → within (taken ++ row ∷ []) ≡ b → AreTaken within taken
    → (within (taken ++ row ∷ []) ≡ true → AllByRecursion (IsAlone within) (pieces_from within (taken ++ row ∷ []) rows))
    → AllByRecursion (IsAlone within) (pieces_from within (row ∷ []) rows)
    → AllByRecursion (IsAlone within) (pieces_from within taken (row ∷ rows))
step within taken row rows true h are more apart = rw h (more h)
step within taken row rows false h are more apart = rw h (whole within taken are, apart)

each_from : {A : Type 0} (within : List A → Bool) (taken rows : List A) → AreTaken within taken → AllByRecursion (IsAlone within) (pieces_from within taken rows)
each_from within taken [] are = (whole within taken are, tt)
each_from within taken (row ∷ rows) are =
    step within taken row rows (within (taken ++ row ∷ [])) refl are
    (λ h. each_from within (taken ++ row ∷ []) rows (one_more within taken row h are))
    (each_from within (row ∷ []) rows (λ more. refl))

pub each_alone : {A : Type 0} (within : List A → Bool) (rows : List A) → AllByRecursion (IsAlone within) (pieces within rows)
each_alone within [] = tt
each_alone within (row ∷ rows) = each_from within (row ∷ []) rows (λ more. refl)
