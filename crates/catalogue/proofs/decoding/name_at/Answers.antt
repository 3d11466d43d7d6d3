use Rattle.std.proofs.Common.{◌≡◌, ◌∙◌, ℕ, Bool, true, false, cond, List, Option, Some, None, refl, sym, ap}
use Rattle.std.specs.Str.{IsUtf8}
use Rattle.catalogue.specs.Entries.{is_name}
use Rattle.catalogue.specs.Reading.{sized_at, name_at}
use Rattle.catalogue.proofs.Again.{name_is_utf8}
use Rattle.catalogue.proofs.decoding.name_at.Goals as goal

named : (bytes name rest : List ℕ) → sized_at bytes ≡ Some (name, rest) → is_name name ≡ true → name_at bytes ≡ Some (name, rest)
unfolding name_at
named bytes name rest found is = rw (found, is) refl

refused : {A : Type 0} (b : Bool) (x : Option A) → (b ≡ true → ⊥) → cond b x None ≡ None
refused true x never = absurd (never refl)
refused false x never = refl

-- bytes that are no text are no name
unnamed : (bytes name rest : List ℕ) → sized_at bytes ≡ Some (name, rest) → (IsUtf8 name → ⊥) → name_at bytes ≡ None
unfolding name_at
unnamed bytes name rest found never = rw found (refused (is_name name) (Some (name, rest)) (λ is. never (name_is_utf8 name is)))

pub returns-in_default : goal.returns-in_default
returns-in_default c = unnamed c.args.bytes.now c.in_ok-name.name.now c.in_ok-name.rest.now c.in_ok-name.ensures c.in_default.ensures.cases.0

pub returns : goal.returns
returns c =
    let same = c.in-Ok.ensures.cases.0 in
    let is = ap is_name (sym same) ∙ sym c.is_name.ensures ∙ c.if-not-is_name.false in
    named c.args.bytes.now c.in_ok-name.name.now c.in_ok-name.rest.now c.in_ok-name.ensures is ∙ ap (λ (name : List ℕ). Some (name, c.in_ok-name.rest.now)) (sym same)
