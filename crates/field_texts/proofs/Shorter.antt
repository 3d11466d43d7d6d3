-- Each step of the test of a field text takes some of it.
use Rattle.std.proofs.Common.{◌≡◌, ◌<◌, ◌≤◌, ◌+◌, ◌*◌, ℕ, Bool, true, false, List, [], ◌∷◌, ◌++◌, length, length-append, ap, arith}
use Rattle.std.specs.Prelude.{Option, None, Some, IfSome, option_map, codes}
use Rattle.std.specs.Option.{option_and_then}
use Rattle.field_texts.specs.declared.grammar.Enclosure.{Enclosure}
use Rattle.field_texts.specs.declared.grammar.Enclosure.TheVariants as enclosures
use Rattle.field_texts.specs.declared.grammar.Place.{Place}
use Rattle.field_texts.specs.declared.grammar.Place.TheVariants.{BeforeType, AfterType}
use Rattle.field_texts.specs.declared.keyword.Keyword.TheVariants as keywords
use Rattle.field_texts.specs.Keywords.{number_text, keyword_text}
use Rattle.field_texts.specs.FieldText.{plain, nullable_suffix, with_dictionary, type_text}
use Rattle.field_texts.specs.Typed.{is_name}
use Rattle.field_texts.specs.inner.Scan.{stripped, name_at, Opening, flat, list, large_list, fixed_list, struct, opening_at, has_nullable_suffix, after_nullable_suffix}
use Rattle.field_texts.specs.inner.Standing.{close_of, begun, next_in, continued, after_opening, after_part, step}
use Rattle.field_texts.proofs.Options.{some_map, some_then, some_or}
use Rattle.field_texts.proofs.KeywordLemmas.{stripped_read}
use Rattle.field_texts.proofs.Openings.{name_read}
use Rattle.field_texts.proofs.Flats.{IsOpening, opening_read}
use Rattle.field_texts.proofs.Steps.{suffix_split}

-- how much is left to read; a type is to come
abbrev pub weight : Place → ℕ → ℕ
weight BeforeType n = 2 * n + 1
weight AfterType n = 2 * n

abbrev pub weight_at : Place × List Enclosure × List ℕ → ℕ
weight_at p = weight p.0 (length p.2)

abbrev Within : ℕ → Place × List Enclosure × List ℕ → Type 0
Within n p = weight_at p < n

without_suffix_shorter : (text : List ℕ) → length (after_nullable_suffix text) ≤ length text
without_suffix_shorter text = omega (arith, ap length (suffix_split text), length-append (nullable_suffix (has_nullable_suffix text)) (after_nullable_suffix text))

name_shorter : (text : List ℕ) → IfSome (name_at text) (λ p. length p.1 < length text)
name_shorter text = known (name_at text) (name_read text)
  where
    known : (o : Option (List ℕ × List ℕ)) → IfSome o (λ p. (is_name p.0 ≡ true) × (text ≡ p.0 ++ 58 ∷ p.1)) → IfSome o (λ p. length p.1 < length text)
    known None h = tt
    known (Some p) h = omega (arith, ap length h.1, length-append p.0 (58 ∷ p.1))

-- what is left after an opening
abbrev left : Opening → ℕ → ℕ
left (flat kind index) n = 2 * n
left _ n = 2 * n + 1

closed_shorter : (text close rest : List ℕ) (n : ℕ) → text ≡ close ++ rest → 1 ≤ length close → 2 * length text ≤ n → 2 * length (after_nullable_suffix rest) < n
closed_shorter text close rest n e some h = omega (arith, h, some, ap length e, length-append close rest, without_suffix_shorter rest)

begun_shorter : (around : List Enclosure) (f : Opening) (text : List ℕ) → IfSome (begun f text) (λ p. weight_at (after_opening around p) ≤ left f (length text))
unfolding begun
begun_shorter around (flat kind index) text = omega (arith, without_suffix_shorter text)
begun_shorter around list text = omega arith
begun_shorter around large_list text = omega arith
begun_shorter around (fixed_list size) text = omega arith
begun_shorter around struct text =
    some_or (option_map (λ rest. (None, after_nullable_suffix rest)) (stripped (codes ">") text)) (option_map (λ p. (Some enclosures.Struct, p.1)) (name_at text)) (λ p. weight_at (after_opening around p) ≤ 2 * length text + 1)
    (some_map (λ rest. (None, after_nullable_suffix rest)) (stripped (codes ">") text) (λ rest. text ≡ 62 ∷ rest) (λ p. weight_at (after_opening around p) ≤ 2 * length text + 1) (stripped_read (codes ">") text)
    (λ rest e. omega (arith, closed_shorter text (62 ∷ []) rest (2 * length text) e (omega arith) (omega arith))))
    (some_map (λ p. (Some enclosures.Struct, p.1)) (name_at text) (λ p. length p.1 < length text) (λ p. weight_at (after_opening around p) ≤ 2 * length text + 1) (name_shorter text) (λ p h. omega (arith, h)))

opening_shorter : (limited : Bool) (text : List ℕ) (f : Opening) (rest : List ℕ) → IsOpening limited text (f, rest) → left f (length rest) < weight BeforeType (length text)
unfolding keyword_text
opening_shorter limited text (flat kind index) rest h = omega (arith, ap length h.4, length-append (with_dictionary index (type_text plain h.0)) rest)
opening_shorter limited text list rest h = omega (arith, ap length h)
opening_shorter limited text large_list rest h = omega (arith, ap length h)
opening_shorter limited text (fixed_list size) rest h = omega (arith, ap length h.2, length-append (keyword_text keywords.FixedList ++ number_text h.0) (44 ∷ rest), length-append (keyword_text keywords.FixedList) (number_text h.0))
opening_shorter limited text struct rest h = omega (arith, ap length h)

before_shorter : (limited : Bool) (around : List Enclosure) (text : List ℕ) → IfSome (step limited BeforeType around text) (Within (weight BeforeType (length text)))
unfolding step
before_shorter limited around text =
    some_map (after_opening around) (option_and_then (λ p. begun p.0 p.1) (opening_at limited text)) (λ q. weight_at (after_opening around q) < weight BeforeType (length text)) (Within (weight BeforeType (length text)))
    (some_then (λ p. begun p.0 p.1) (opening_at limited text) (IsOpening limited text) (λ q. weight_at (after_opening around q) < weight BeforeType (length text)) (opening_read limited text)
    (λ p h. below (begun p.0 p.1) (left p.0 (length p.1)) (weight BeforeType (length text)) (begun_shorter around p.0 p.1) (opening_shorter limited text p.0 p.1 h)))
    (λ q h. h)
  where
    below : (o : Option (Option Enclosure × List ℕ)) (m n : ℕ) → IfSome o (λ q. weight_at (after_opening around q) ≤ m) → m < n → IfSome o (λ q. weight_at (after_opening around q) < n)
    below None m n h k = tt
    below (Some q) m n h k = omega (arith, h, k)

close_some : (one : Enclosure) → 1 ≤ length (close_of one)
close_some enclosures.List = omega arith
close_some enclosures.FixedList = omega arith
close_some enclosures.Struct = omega arith

next_shorter : (one : Enclosure) (others : List Enclosure) (text : List ℕ) → IfSome (next_in one text) (λ p. weight_at (after_part one others p) < 2 * length text)
next_shorter enclosures.List others text = tt
next_shorter enclosures.FixedList others text = tt
next_shorter enclosures.Struct others text =
    some_then (λ next. option_map (λ p. (false, p.1)) (name_at next)) (stripped (codes ",") text) (λ next. text ≡ 44 ∷ next) (λ p. weight_at (after_part enclosures.Struct others p) < 2 * length text) (stripped_read (codes ",") text)
    (λ next e. some_map (λ p. (false, p.1)) (name_at next) (λ p. length p.1 < length next) (λ p. weight_at (after_part enclosures.Struct others p) < 2 * length text) (name_shorter next) (λ p h. omega (arith, h, ap length e)))

after_shorter : (limited : Bool) (around : List Enclosure) (text : List ℕ) → IfSome (step limited AfterType around text) (Within (weight AfterType (length text)))
unfolding step continued
after_shorter limited [] text = tt
after_shorter limited (one ∷ others) text =
    some_map (after_part one others) (continued one text) (λ p. weight_at (after_part one others p) < 2 * length text) (Within (weight AfterType (length text)))
    (some_or (option_map (λ rest. (true, after_nullable_suffix rest)) (stripped (close_of one) text)) (next_in one text) (λ p. weight_at (after_part one others p) < 2 * length text)
    (some_map (λ rest. (true, after_nullable_suffix rest)) (stripped (close_of one) text) (λ rest. text ≡ close_of one ++ rest) (λ p. weight_at (after_part one others p) < 2 * length text) (stripped_read (close_of one) text)
    (λ rest e. closed_shorter text (close_of one) rest (2 * length text) e (close_some one) (omega arith)))
    (next_shorter one others text))
    (λ p h. h)

pub step_shorter : (limited : Bool) (place : Place) (around : List Enclosure) (text : List ℕ) → IfSome (step limited place around text) (Within (weight place (length text)))
step_shorter limited BeforeType around text = before_shorter limited around text
step_shorter limited AfterType around text = after_shorter limited around text
