-- The position of the test of a field text, before or after a type, and the open enclosures.
use Rattle.std.specs.Prelude.{◌≡◌, ℕ, ◌==◌, length, Bool, true, false, List, [], ◌∷◌, ◌++◌, codes, Option, None, Some, option_map}
use Rattle.std.specs.Option.{option_and_then, option_or}
use Rattle.field_texts.specs.declared.grammar.Enclosure.{Enclosure}
use Rattle.field_texts.specs.declared.grammar.Enclosure.TheVariants as enclosures
use Rattle.field_texts.specs.declared.grammar.Place.{Place}
use Rattle.field_texts.specs.declared.grammar.Place.TheVariants.{BeforeType, AfterType}
use Rattle.arrow_schema.specs.Column.{Column, Columns}
use Rattle.field_texts.specs.FieldText.{plain, nullable_suffix, item_text, more_text}
use Rattle.field_texts.specs.Typed.{IsTypedItem, AreTyped}
use Rattle.field_texts.specs.inner.Scan.{stripped, Opening, flat, list, large_list, fixed_list, struct, opening_at, name_at, after_nullable_suffix}

-- the bracket that closes an enclosure
abbrev pub close_of : Enclosure → List ℕ
close_of enclosures.List = codes ">"
close_of enclosures.FixedList = codes ")"
close_of enclosures.Struct = codes ">"

-- what may come before the bracket: in a struct, further fields
abbrev pub IsInside : Bool → Enclosure → List ℕ → Type 0
IsInside limited enclosures.List text = text ≡ []
IsInside limited enclosures.FixedList text = text ≡ []
IsInside limited enclosures.Struct text = (cs : Columns) × AreTyped limited cs × (text ≡ more_text plain cs)

-- the contents, the bracket, its nullable suffix, and then the rest
pub record Closing (limited : Bool) (one : Enclosure) (Then : List ℕ → Type 0) (text : List ℕ) : Type 0 where
  pub inside : List ℕ
  pub nullable : Bool
  pub rest : List ℕ
  pub is_inside : IsInside limited one inside
  pub text_is : text ≡ inside ++ close_of one ++ nullable_suffix nullable ++ rest
  pub after : Then rest

-- the rest of a field text with these open enclosures, the innermost first
unfoldable pub Closes : Bool → List Enclosure → List ℕ → Type 0
Closes limited [] text = text ≡ []
Closes limited (one ∷ others) text = Closing limited one (Closes limited others) text

-- the same before a type
pub record Goes (limited : Bool) (around : List Enclosure) (text : List ℕ) : Type 0 where
  pub item : Column
  pub rest : List ℕ
  pub typed : IsTypedItem limited item
  pub text_is : text ≡ item_text plain item ++ rest
  pub closes : Closes limited around rest

abbrev pub Stands : Bool → Place → List Enclosure → List ℕ → Type 0
Stands limited BeforeType around text = Goes limited around text
Stands limited AfterType around text = Closes limited around text

-- after the opening of a type: the enclosure that it begins, or none if the type ends there
unfoldable pub begun : Opening → List ℕ → Option (Option Enclosure × List ℕ)
begun (flat kind index) text = Some (None, after_nullable_suffix text)
begun list text = Some (Some enclosures.List, text)
begun large_list text = Some (Some enclosures.List, text)
begun (fixed_list size) text = Some (Some enclosures.FixedList, text)
begun struct text = option_or (option_map (λ rest. (None, after_nullable_suffix rest)) (stripped (codes ">") text)) (option_map (λ p. (Some enclosures.Struct, p.1)) (name_at text))

abbrev pub next_in : Enclosure → List ℕ → Option (Bool × List ℕ)
next_in enclosures.Struct text = option_and_then (λ next. option_map (λ p. (false, p.1)) (name_at next)) (stripped (codes ",") text)
next_in _ text = None

-- after a type: whether its enclosure is closed, or has another field
unfoldable pub continued : Enclosure → List ℕ → Option (Bool × List ℕ)
continued one text = option_or (option_map (λ rest. (true, after_nullable_suffix rest)) (stripped (close_of one) text)) (next_in one text)

-- the position of the test after a step
abbrev pub after_opening : List Enclosure → Option Enclosure × List ℕ → Place × List Enclosure × List ℕ
after_opening around (None, rest) = (AfterType, around, rest)
after_opening around (Some one, rest) = (BeforeType, one ∷ around, rest)

abbrev pub after_part : Enclosure → List Enclosure → Bool × List ℕ → Place × List Enclosure × List ℕ
after_part one others (true, rest) = (AfterType, others, rest)
after_part one others (false, rest) = (BeforeType, one ∷ others, rest)

unfoldable pub step : Bool → Place → List Enclosure → List ℕ → Option (Place × List Enclosure × List ℕ)
step limited BeforeType around text = option_map (after_opening around) (option_and_then (λ p. begun p.0 p.1) (opening_at limited text))
step limited AfterType [] text = None
step limited AfterType (one ∷ others) text = option_map (after_part one others) (continued one text)

-- a type was read, and no enclosure is open
abbrev pub is_over : Place → List Enclosure → Bool
is_over BeforeType around = false
is_over AfterType around = length around == 0
