-- The test of a field text, over all its steps.
use Rattle.std.proofs.Common.{◌≡◌, ◌≢◌, ◌↔◌, ◌<◌, ◌==◌, ℕ, Bool, true, false, List, [], ◌∷◌, length, refl, sym, ap, ◌∙◌, arith}
use Rattle.std.specs.Prelude.{None, Some, reverse}
use Rattle.std.proofs.lemmas.Option.{MatchOption-at_none, MatchOption-at_some}
use Rattle.std.proofs.lemmas.List.{length-reverse}
use Rattle.std.proofs.lemmas.Bool.{both_ways}
use Rattle.std.proofs.lemmas.Bool.Decides.{nat_tests}
use Rattle.field_texts.specs.declared.grammar.Enclosure.{Enclosure}
use Rattle.field_texts.specs.declared.grammar.Place.{Place}
use Rattle.field_texts.specs.declared.grammar.Place.TheVariants.{BeforeType, AfterType}
use Rattle.field_texts.specs.Typed.{IsFieldText}
use Rattle.field_texts.specs.inner.Scan.{name_at}
use Rattle.field_texts.specs.inner.Standing.{Closes, Goes, Stands, is_over, step}
use Rattle.field_texts.proofs.Options.{some_at}
use Rattle.field_texts.proofs.Moves.{StandsAt, before_moves}
use Rattle.field_texts.proofs.Parts.{after_moves, text_moves}
use Rattle.field_texts.proofs.Shorter.{weight, weight_at, step_shorter}

pub never : (T : Type 0) → (T → ⊥) → (false ≡ true) ↔ T
never T h = (λ e. absurd (both_ways false refl e), λ t. absurd (h t))

pub not_text : (limited : Bool) (text : List ℕ) → name_at text ≡ None → (false ≡ true) ↔ IsFieldText limited text
not_text limited text e = never (IsFieldText limited text) (MatchOption-at_none (IsFieldText limited text → ⊥) (λ p. IsFieldText limited text ↔ Goes limited [] p.1) e (text_moves limited text))

pub start : (limited : Bool) (text : List ℕ) (p : List ℕ × List ℕ) → name_at text ≡ Some p → Goes limited [] p.1 ↔ IsFieldText limited text
start limited text p e =
    let h : IsFieldText limited text ↔ Goes limited [] p.1 = MatchOption-at_some (IsFieldText limited text → ⊥) (λ p. IsFieldText limited text ↔ Goes limited [] p.1) p e (text_moves limited text) in (h.1, h.0)

stuck_at : (limited : Bool) (place : Place) (around : List Enclosure) (text : List ℕ) → (place ≡ AfterType → around ≢ []) → step limited place around text ≡ None → Stands limited place around text → ⊥
stuck_at limited BeforeType around text some e = MatchOption-at_none (Goes limited around text → ⊥) (λ p. Goes limited around text ↔ StandsAt limited p) e (before_moves limited around text)
stuck_at limited AfterType [] text some e = absurd (some refl refl)
stuck_at limited AfterType (one ∷ others) text some e =
    MatchOption-at_none (Closes limited (one ∷ others) text → ⊥) (λ p. Closes limited (one ∷ others) text ↔ StandsAt limited p) e (after_moves limited one others text)

not_over : (place : Place) (around : List Enclosure) → is_over place around ≡ false → place ≡ AfterType → reverse around ≢ []
not_over BeforeType around e same = λ none. cc
not_over AfterType around e same = λ none.
    let empty : (length around == 0) ≡ true = let n : length around ≡ 0 = sym (length-reverse around) ∙ ap length none in grind (arith, nat_tests) in both_ways (length around == 0) e empty

pub stuck : (limited : Bool) (place : Place) (around : List Enclosure) (text : List ℕ) (T : Type 0) → is_over place around ≡ false → step limited place (reverse around) text ≡ None → Stands limited place (reverse around) text ↔ T → (false ≡ true) ↔ T
stuck limited place around text T e none h = never T (λ t. stuck_at limited place (reverse around) text (not_over place around e) none (h.1 t))

moved_at : (limited : Bool) (place : Place) (around : List Enclosure) (text : List ℕ) (p : Place × List Enclosure × List ℕ) → step limited place around text ≡ Some p → Stands limited place around text ↔ StandsAt limited p
unfolding step
moved_at limited BeforeType around text p e = MatchOption-at_some (Goes limited around text → ⊥) (λ p. Goes limited around text ↔ StandsAt limited p) p e (before_moves limited around text)
moved_at limited AfterType [] text p e = cc
moved_at limited AfterType (one ∷ others) text p e = MatchOption-at_some (Closes limited (one ∷ others) text → ⊥) (λ p. Closes limited (one ∷ others) text ↔ StandsAt limited p) p e (after_moves limited one others text)

pub moved : (limited : Bool) (place : Place) (around : List Enclosure) (text : List ℕ) (p : Place × List Enclosure × List ℕ) (T : Type 0) → step limited place around text ≡ Some p → Stands limited place around text ↔ T → StandsAt limited p ↔ T
moved limited place around text p T e h =
    let k : Stands limited place around text ↔ StandsAt limited p = moved_at limited place around text p e in (λ s. h.0 (k.1 s), λ t. k.0 (h.1 t))

pub smaller : (limited : Bool) (place : Place) (around : List Enclosure) (text : List ℕ) (p : Place × List Enclosure × List ℕ) → step limited place around text ≡ Some p → weight p.0 (length p.2) < weight place (length text)
smaller limited place around text p e = some_at (step limited place around text) p (λ p. weight_at p < weight place (length text)) (step_shorter limited place around text) e

empty : (A : Type 0) (xs : List A) → (length xs == 0) ≡ true → xs ≡ []
empty A [] e = refl
empty A (x ∷ xs) e = let n : length (x ∷ xs) ≡ 0 = grind (arith, nat_tests) in absurd (omega (arith, n))

pub ended : (limited : Bool) (place : Place) (around : List Enclosure) (text : List ℕ) (T : Type 0) → is_over place around ≡ true → Stands limited place (reverse around) text ↔ T → ((length text == 0) ≡ true) ↔ T
unfolding Closes
ended limited BeforeType around text T e h = cc
ended limited AfterType around text T e h =
    let none : reverse around ≡ [] = ap reverse (empty Enclosure around e) in
    let closes : Closes limited [] text ↔ T = rw none at h in
    (λ z. closes.0 (empty ℕ text z), λ t. ap (λ (xs : List ℕ). length xs == 0) (closes.1 t))
