-- Marks of sectors.
use Rattle.std.proofs.Common.{◌≡◌, ◌≢◌, ◌⊎◌, ◌<◌, ◌≤◌, ◌+◌, ℕ, zero, suc, Bool, true, false, if◌then◌else◌, List, [], ◌∷◌, ◌++◌, length, refl, ap, ◌∙◌, arith, ⊎_elim, inl, inr, set, get_or-set_same, get_or-set_other}
use Rattle.std.proofs.lemmas.Bool.{cases_eq}
use Rattle.sector_dev.specs.FileHistory.{marked_at}

-- one more place changes nothing
marked_push : (marks : List Bool) (n : ℕ) → marked_at (marks ++ false ∷ []) n ≡ marked_at marks n
marked_push [] zero = refl
marked_push [] (suc n) = refl
marked_push (m ∷ marks) zero = refl
marked_push (m ∷ marks) (suc n) = marked_push marks n

pub same_marks : (pushed : Bool) (old new : List Bool) → new ≡ (if pushed then old ++ false ∷ [] else old) → (n : ℕ) → marked_at new n ≡ marked_at old n
same_marks true old new is n = ap (λ (marks : List Bool). marked_at marks n) is ∙ marked_push old n
same_marks false old new is n = ap (λ (marks : List Bool). marked_at marks n) is

-- before the first sector of the row is marked
pub marks_kept : (start : ℕ) (old mid : List Bool) → ((n : ℕ) → marked_at mid n ≡ marked_at old n) → (k : ℕ) → ((start ≤ k) × (k < start)) ⊎ (marked_at old k ≡ true) → marked_at mid k ≡ true
marks_kept start old mid same k (inl none) = absurd (omega (arith, none.0, none.1))
marks_kept start old mid same k (inr marked) = same k ∙ marked

earlier : (start n k : ℕ) (P : Type 0) → k ≢ n → ((start ≤ k) × (k < n + 1)) ⊎ P → ((start ≤ k) × (k < n)) ⊎ P
earlier start n k P other (inl row) = inl (row.0, omega (arith, row.1, other))
earlier start n k P other (inr marked) = inr marked

-- one sector more
pub marks_more : (start n : ℕ) (old mid : List Bool) → n < length mid → ((k : ℕ) → ((start ≤ k) × (k < n)) ⊎ (marked_at old k ≡ true) → marked_at mid k ≡ true)
    → (k : ℕ) → ((start ≤ k) × (k < n + 1)) ⊎ (marked_at old k ≡ true) → marked_at (set mid n true) k ≡ true
marks_more start n old mid room before k had =
    ⊎_elim {C = marked_at (set mid n true) k ≡ true}
    (λ (here : k ≡ n). ap (λ (i : ℕ). marked_at (set mid n true) i) here ∙ get_or-set_same mid n true false room)
    (λ (other : k ≢ n). get_or-set_other mid n k true false other ∙ before k (earlier start n k (marked_at old k ≡ true) other had))
    (cases_eq k n)
