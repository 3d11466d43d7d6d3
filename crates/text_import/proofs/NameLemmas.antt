-- Names that are repeated: whether there is one, and where it stands.
use Rattle.std.proofs.Common.{◌≡◌, ℕ, suc, Bool, true, false, ◌||◌, List, [], ◌∷◌, refl, sym, ap, ◌∙◌, true≢false, arith}
use Rattle.std.specs.Prelude.{bytes_eq, is_some, Option, Some, None, option_map, slice_get, if◌then◌else◌}
use Rattle.std.specs.Borrow.{Bor}
use Rattle.std.proofs.lemmas.Slice.Eq.{bytes_eq-Decides}
use Rattle.text_import.specs.Objects.{has_name, repeats}
use Rattle.text_import.specs.ValuePart.{first_repeated}
use Rattle.text_import.specs.Cause.{IsRepeated}

pub any_repeated : (names : List (List ℕ)) → is_some (first_repeated names) ≡ repeats names
any_repeated [] = refl
any_repeated (name ∷ names) = by (has_name names name) (any_repeated names)
  where
    by : (b : Bool) → is_some (first_repeated names) ≡ repeats names → is_some (if b then Some name else first_repeated names) ≡ (b || repeats names)
    by true e = refl
    by false e = e

pub repeated_found : (names : List (List ℕ)) (found : Option (Bor (List ℕ))) → option_map (λ t. t.now) found ≡ first_repeated names → is_some found ≡ repeats names
repeated_found names found is = is_mapped found ∙ ap is_some is ∙ any_repeated names
  where
    is_mapped : (o : Option (Bor (List ℕ))) → is_some o ≡ is_some (option_map (λ (t : Bor (List ℕ)). t.now) o)
    is_mapped None = refl
    is_mapped (Some t) = refl

-- a name has a place among the names
place_of_name : (names : List (List ℕ)) (name : List ℕ) → has_name names name ≡ true → (place : ℕ) × (slice_get names place ≡ Some name)
place_of_name [] name e = absurd (true≢false (sym e))
place_of_name (k ∷ names) name e = by (bytes_eq name k) refl e (place_of_name names name)
  where
    by : (b : Bool) → bytes_eq name k ≡ b → (b || has_name names name) ≡ true → (has_name names name ≡ true → (place : ℕ) × (slice_get names place ≡ Some name))
        → (place : ℕ) × (slice_get (k ∷ names) place ≡ Some name)
    by true is h more = (0, ap Some (sym ((bytes_eq-Decides name k).0 is)))
    by false is h more = (let (place, stands) = more h in (suc place, stands))

pub repeated_there : (names : List (List ℕ)) (name : List ℕ) → first_repeated names ≡ Some name → IsRepeated names name
repeated_there [] name is = absurd cc
repeated_there (k ∷ names) name is = by (has_name names k) refl is (repeated_there names name)
  where
    by : (b : Bool) → has_name names k ≡ b → (if b then Some k else first_repeated names) ≡ Some name → (first_repeated names ≡ Some name → IsRepeated names name)
        → IsRepeated (k ∷ names) name
    by true among is more =
        let same : k ≡ name = cc in
        let (place, stands) = place_of_name names k among in
        rw (← same) (record { first = 0; second = suc place; before = omega arith; stands = refl; again = stands })
    by false among is more =
        let found = more is in
        let before = found.before in
        record { first = suc found.first; second = suc found.second; before = omega arith; stands = found.stands; again = found.again }
