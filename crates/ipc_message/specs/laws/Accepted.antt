-- What is known about a schema that passes its tests.
use Rattle.std.specs.Prelude.{◌≡◌, ℕ, Bool, true, false, not, ◌==◌, List, [], ◌∷◌, find, Option, Some, None, option_map, Ok}
use Rattle.std.specs.List.{list_any, list_all}
use Rattle.std.specs.Str.{is_utf8}
use Rattle.std.proofs.Common.{refl}
use Rattle.std.proofs.lemmas.Bool.{not-false}
use Rattle.facts.specs.laws.Checks.{unless_passed}
use Rattle.ipc_message.specs.declared.fault.Fault.{Fault}
use Rattle.ipc_message.specs.declared.fault.Fault.TheVariants.{BigEndian, TypeNotHeld, BadParameter, SchemaLimit, NotUtf8, DictionaryId, DictionaryOfNested}
use Rattle.ipc_message.specs.Raw.{RawField, RawSchema}
use Rattle.ipc_message.specs.Fields.{every_field}
use Rattle.ipc_message.specs.Framing.{first_some, when, unless}
use Rattle.ipc_message.specs.Checks.{is_unsupported, name_of_type, is_bad, exceeds_limit, texts_of, has_two_types, is_dictionary_of_nested, schema_checks}

pub record IsAccepted (s : RawSchema) : Type 0 where
  pub decoded : list_any is_bad (every_field s) ≡ false
  pub small : exceeds_limit s ≡ false
  pub utf8 : list_all is_utf8 (texts_of s) ≡ true
  pub flat : list_any is_dictionary_of_nested (every_field s) ≡ false

-- no test fails
abbrev pub AllNone : {A : Type 0} → List (Option A) → Type 0
AllNone [] = Unit {0}
AllNone (o ∷ os) = (o ≡ None) × AllNone os

pub all_none : {A : Type 0} (os : List (Option A)) → first_some os ≡ None → AllNone os
all_none [] h = tt
all_none (None ∷ os) h = (refl, all_none os h)
all_none (Some x ∷ os) h = absurd cc

pub when_none : (b : Bool) (f : Fault) → when b f ≡ None → b ≡ false
when_none true f h = absurd cc
when_none false f h = refl

-- if no test fails, then neither the first nor any other does
pub first_none : {A : Type 0} (o : Option A) (os : List (Option A)) → first_some (o ∷ os) ≡ None → (o ≡ None) × (first_some os ≡ None)
first_none None os h = (refl, h)
first_none (Some x) os h = absurd cc

-- the outcome of each test of a schema that passes all of them
pub record FindsNothing (supported : ℕ → Bool) (s : RawSchema) : Type 0 where
  pub big_endian : not (s.endianness == 0) ≡ false
  pub unsupported : find (is_unsupported supported) (every_field s) ≡ None
  pub bad : list_any is_bad (every_field s) ≡ false
  pub large : exceeds_limit s ≡ false
  pub not_utf8 : not (list_all is_utf8 (texts_of s)) ≡ false
  pub two_types : has_two_types (every_field s) ≡ false
  pub nested : list_any is_dictionary_of_nested (every_field s) ≡ false

no_field : (o : Option RawField) (f : RawField → Fault) → option_map f o ≡ None → o ≡ None
no_field None f h = refl
no_field (Some x) f h = absurd cc

pub finds_nothing : (supported : ℕ → Bool) (s : RawSchema) → first_some (schema_checks supported s) ≡ None → FindsNothing supported s
unfolding schema_checks
finds_nothing supported s h =
    let big_endian = first_none _ _ h in
    let unsupported = first_none _ _ big_endian.1 in
    let bad = first_none _ _ unsupported.1 in
    let large = first_none _ _ bad.1 in
    let not_utf8 = first_none _ _ large.1 in
    let two_types = first_none _ _ not_utf8.1 in
    let nested = first_none _ _ two_types.1 in
    record {
      big_endian = when_none _ BigEndian big_endian.0;
      unsupported = no_field _ (λ f. TypeNotHeld (name_of_type f)) unsupported.0;
      bad = when_none _ BadParameter bad.0;
      large = when_none _ SchemaLimit large.0;
      not_utf8 = when_none _ NotUtf8 not_utf8.0;
      two_types = when_none _ DictionaryId two_types.0;
      nested = when_none _ DictionaryOfNested nested.0;
    }

pub accepted : (supported : ℕ → Bool) (s : RawSchema) → first_some (schema_checks supported s) ≡ None → IsAccepted s
accepted supported s h =
    let found = finds_nothing supported s h in
    record { decoded = found.bad; small = found.large; utf8 = not-false _ found.not_utf8; flat = found.nested }

pub accepted_outcome : {A : Type 0} (supported : ℕ → Bool) (s : RawSchema) (x : A) → unless (first_some (schema_checks supported s)) (Ok x) ≡ Ok x → IsAccepted s
accepted_outcome supported s x h = accepted supported s (unless_passed _ (Ok x) x h).0
