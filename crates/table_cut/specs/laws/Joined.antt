-- The pieces of rows are the rows.
use Rattle.std.proofs.Common.{◌≡◌, Bool, true, false, List, [], ◌∷◌, ◌++◌, refl, ap, ◌∙◌, append_assoc}
use Rattle.table_cut.specs.Cut.{pieces, pieces_from}
use Rattle.table_cut.specs.CutRows.{joined}

joined_step : {A : Type 0} (within : List A → Bool) (taken : List A) (row : A) (rows : List A) (b : Bool) → within (taken ++ row ∷ []) ≡ b
    → joined (pieces_from within (taken ++ row ∷ []) rows) ≡ (taken ++ row ∷ []) ++ rows → joined (pieces_from within (row ∷ []) rows) ≡ row ∷ rows
    → joined (pieces_from within taken (row ∷ rows)) ≡ taken ++ row ∷ rows
joined_step within taken row rows true h more apart = rw h (more ∙ append_assoc taken (row ∷ []) rows)
joined_step within taken row rows false h more apart = rw h (ap (λ x. taken ++ x) apart)

joined_from : {A : Type 0} (within : List A → Bool) (taken rows : List A) → joined (pieces_from within taken rows) ≡ taken ++ rows
joined_from within taken [] = refl
joined_from within taken (row ∷ rows) =
    joined_step within taken row rows (within (taken ++ row ∷ [])) refl (joined_from within (taken ++ row ∷ []) rows) (joined_from within (row ∷ []) rows)

pub pieces_joined : {A : Type 0} (within : List A → Bool) (rows : List A) → joined (pieces within rows) ≡ rows
pieces_joined within [] = refl
pieces_joined within (row ∷ rows) = joined_from within (row ∷ []) rows
