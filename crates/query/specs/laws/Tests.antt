-- Tests that each element of a list passes.
use Rattle.std.specs.List.{flat_map, list_all}
use Rattle.std.proofs.Common.{◌≡◌, ℕ, ◌<◌, Bool, true, false, List, [], ◌∷◌, length, get_or, refl, sym, ap, ◌∙◌}
use Rattle.std.proofs.lemmas.Bool.{and_from, and_parts}
use Rattle.std.proofs.lemmas.List.Folds.{list_all_at, list_all-append}

-- what is true of all of a list is true of what stands at a place of it
pub all_here : {X : Type 0} (p : X → Bool) (xs : List X) (i : ℕ) (x : X) → list_all p xs ≡ true → i < length xs → x ≡ get_or xs i x → p x ≡ true
all_here p xs i x h within is = by (p x) refl
  where
    by : (b : Bool) → p x ≡ b → p x ≡ true
    by true e = e
    by false e = absurd (let no = list_all_at p xs i x within (ap p (sym is) ∙ e) in cc)

-- of the elements of each of some lists
pub all_of_flat : {X Y : Type 0} (p : Y → Bool) (g : X → List Y) (xs : List X) → list_all p (flat_map g xs) ≡ true → list_all (λ x. list_all p (g x)) xs ≡ true
all_of_flat p g [] h = refl
all_of_flat p g (x ∷ xs) h =
    let both = and_parts (list_all p (g x)) _ (sym (list_all-append p (g x) (flat_map g xs)) ∙ h) in
    and_from _ _ both.0 (all_of_flat p g xs both.1)

-- two tests are one
pub all_both : {X : Type 0} (p q r : X → Bool) → ((x : X) → p x ≡ true → q x ≡ true → r x ≡ true) → (xs : List X) → list_all p xs ≡ true → list_all q xs ≡ true → list_all r xs ≡ true
all_both p q r each [] h g = refl
all_both p q r each (x ∷ xs) h g =
    let one = and_parts (p x) _ h in
    let other = and_parts (q x) _ g in
    and_from _ _ (each x one.0 other.0) (all_both p q r each xs one.1 other.1)
