-- What a field text begins with, there and back.
use Rattle.std.proofs.Common.{◌≡◌, ◌≢◌, ◌<◌, ℕ, zero, suc, ◌==◌, Bool, true, false, List, [], ◌∷◌, ◌++◌, length, get_or, refl, sym, ap, ◌∙◌, arith, cond}
use Rattle.std.specs.Prelude.{Option, None, Some, option_map, IfSome, codes, not, ◌||◌, nat_lt}
use Rattle.std.specs.List.{list_all}
use Rattle.std.proofs.lemmas.List.{append_assoc}
use Rattle.std.proofs.lemmas.Bool.{ne_eqb, both_ways, and_parts}
use Rattle.std.proofs.lemmas.Bool.Decides.{nat_tests}
use Rattle.arrow_schema.specs.declared.limits.TheConstants.{NUMBER_END}
use Rattle.field_texts.specs.Keywords.{number_text}
use Rattle.field_texts.specs.FieldText.{plain, timezone_text}
use Rattle.field_texts.specs.Typed.{IsSize, is_name_byte, is_timezone_byte, is_name}
use Rattle.field_texts.specs.inner.Scan.{stripped, cut_at, is_digit, has_one_form, is_numeral, value, capped_number, is_size, size_at, is_timezone, timezone_within, timezone_or, timezone_at, name_at}
use Rattle.field_texts.proofs.Cutting.{cut_some}
use Rattle.field_texts.proofs.Digits.{value_text, numeral_text, text_value}
use Rattle.field_texts.proofs.Options.{some_map, some_then, some_if}
use Rattle.field_texts.proofs.KeywordLemmas.{stripped_read}

-- what is refused everywhere does not stand there
pub lacks : (p : ℕ → Bool) (delimiter : ℕ) (xs : List ℕ) → p delimiter ≡ false → list_all p xs ≡ true → (i : ℕ) → i < length xs → get_or xs i 0 ≢ delimiter
lacks p delimiter [] out all i h = absurd (omega (arith, h))
lacks p delimiter (x ∷ xs) out all zero h = λ same. both_ways (p x) (ap p same ∙ out) ((and_parts (p x) (list_all p xs) all).0)
lacks p delimiter (x ∷ xs) out all (suc i) h = lacks p delimiter xs out ((and_parts (p x) (list_all p xs) all).1) i (omega (arith, h))

cut_step : (delimiter x : ℕ) (xs : List ℕ) (b : Bool) → (x == delimiter) ≡ b → IfSome (cut_at delimiter xs) (λ p. xs ≡ p.0 ++ delimiter ∷ p.1)
    → IfSome {T = List ℕ × List ℕ} (cond b (Some ([], xs)) (option_map (λ p. (x ∷ p.0, p.1)) (cut_at delimiter xs))) (λ p. x ∷ xs ≡ p.0 ++ delimiter ∷ p.1)
cut_step delimiter x xs true e h = let same : x ≡ delimiter = grind (arith, nat_tests) in ap (λ y. y ∷ xs) same
cut_step delimiter x xs false e h = some_map (λ p. (x ∷ p.0, p.1)) (cut_at delimiter xs) (λ p. xs ≡ p.0 ++ delimiter ∷ p.1) (λ p. x ∷ xs ≡ p.0 ++ delimiter ∷ p.1) h (λ p k. ap (λ (ys : List ℕ). x ∷ ys) k)

cut_read : (delimiter : ℕ) (text : List ℕ) → IfSome (cut_at delimiter text) (λ p. text ≡ p.0 ++ delimiter ∷ p.1)
unfolding cut_at
cut_read delimiter [] = tt
cut_read delimiter (x ∷ xs) = cut_step delimiter x xs (x == delimiter) refl (cut_read delimiter xs)

-- sizes
sized : (limited : Bool) (n : ℕ) → IsSize limited n → (not limited || nat_lt n NUMBER_END) ≡ true
sized true n h = let small : n < NUMBER_END = h refl in grind (arith, nat_tests)
sized false n h = refl

unsized : (limited : Bool) (n : ℕ) → (not limited || nat_lt n NUMBER_END) ≡ true → IsSize limited n
unsized true n e = λ _. grind (arith, nat_tests)
unsized false n e = λ never. absurd (both_ways false refl never)

digits_only : (n delimiter : ℕ) → is_digit delimiter ≡ false → (i : ℕ) → i < length (number_text n) → get_or (number_text n) i 0 ≢ delimiter
unfolding is_numeral
digits_only n delimiter out = lacks is_digit delimiter (number_text n) out ((and_parts _ (has_one_form (number_text n)) (numeral_text n)).0)

pub size_again : (limited : Bool) (delimiter n : ℕ) (rest : List ℕ) → is_digit delimiter ≡ false → IsSize limited n → size_at limited delimiter (number_text n ++ delimiter ∷ rest) ≡ Some (capped_number n, rest)
unfolding size_at
size_again limited delimiter n rest out small = rw (cut_some delimiter (number_text n) rest (digits_only n delimiter out), numeral_text n, value_text n, sized limited n small) refl

pub size_read : (limited : Bool) (delimiter : ℕ) (text : List ℕ) → IfSome (size_at limited delimiter text) (λ p. (n : ℕ) × IsSize limited n × (text ≡ number_text n ++ delimiter ∷ p.1))
unfolding size_at
size_read limited delimiter text =
    some_then (λ p. cond (is_size limited p.0) (Some (capped_number (value p.0), p.1)) None) (cut_at delimiter text) (λ p. text ≡ p.0 ++ delimiter ∷ p.1) (λ p. (n : ℕ) × IsSize limited n × (text ≡ number_text n ++ delimiter ∷ p.1))
    (cut_read delimiter text)
    (λ p h. some_if (is_size limited p.0) (capped_number (value p.0), p.1) (λ p. (n : ℕ) × IsSize limited n × (text ≡ number_text n ++ delimiter ∷ p.1))
    (λ e. (value p.0, unsized limited (value p.0) ((and_parts (is_numeral p.0) _ e).1), h ∙ ap (λ (ds : List ℕ). ds ++ delimiter ∷ p.1) (sym (text_value p.0 ((and_parts (is_numeral p.0) _ e).0))))))

-- timezones
within_again : (timezone rest : List ℕ) → (length timezone == 0) ≡ false → list_all is_timezone_byte timezone ≡ true → timezone_within (timezone ++ 41 ∷ rest) ≡ Some (timezone, rest)
unfolding timezone_within
within_again timezone rest some all = rw (cut_some 41 timezone rest (lacks is_timezone_byte 41 timezone refl all), all, some) refl

timezone_inside : (text : List ℕ) → timezone_at (40 ∷ text) ≡ timezone_within text
unfolding timezone_at stripped
timezone_inside text = refl

pub timezone_again : (timezone rest : List ℕ) → list_all is_timezone_byte timezone ≡ true → stripped (codes "(") rest ≡ None → timezone_at (timezone_text plain timezone ++ rest) ≡ Some (timezone, rest)
unfolding timezone_at
timezone_again [] rest all none = rw none refl
timezone_again (x ∷ xs) rest all none =
    let some : (length (x ∷ xs) == 0) ≡ false = ne_eqb (length (x ∷ xs)) 0 (omega arith) in
    let grouped : timezone_text plain (x ∷ xs) ++ rest ≡ 40 ∷ (x ∷ xs) ++ 41 ∷ rest = ap (λ (ys : List ℕ). 40 ∷ x ∷ ys) (append_assoc xs (41 ∷ []) rest) in
    ap timezone_at grouped ∙ timezone_inside ((x ∷ xs) ++ 41 ∷ rest) ∙ within_again (x ∷ xs) rest some all

text_of_timezone : (timezone rest : List ℕ) → not (length timezone == 0) ≡ true → timezone_text plain timezone ++ rest ≡ 40 ∷ timezone ++ 41 ∷ rest
text_of_timezone [] rest e = cc
text_of_timezone (x ∷ xs) rest e = ap (λ (ys : List ℕ). 40 ∷ x ∷ ys) (append_assoc xs (41 ∷ []) rest)

abbrev pub IsTimezoneText : List ℕ → List ℕ × List ℕ → Type 0
IsTimezoneText text p = (list_all is_timezone_byte p.0 ≡ true) × (text ≡ timezone_text plain p.0 ++ p.1)

pub timezone_read : (text : List ℕ) → IfSome (timezone_at text) (IsTimezoneText text)
unfolding timezone_at timezone_within
timezone_read text = known (stripped (codes "(") text) (stripped_read (codes "(") text)
  where
    known : (o : Option (List ℕ)) → IfSome o (λ rest. text ≡ 40 ∷ rest) → IfSome (timezone_or text o) (IsTimezoneText text)
    known None h = (refl, refl)
    known (Some inside) h =
        some_then (λ p. cond (is_timezone p.0) (Some p) None) (cut_at 41 inside) (λ p. inside ≡ p.0 ++ 41 ∷ p.1) (IsTimezoneText text) (cut_read 41 inside)
        (λ p e. some_if (is_timezone p.0) p (IsTimezoneText text)
        (λ all. ((and_parts _ _ all).0, h ∙ ap (λ (ys : List ℕ). 40 ∷ ys) e ∙ sym (text_of_timezone p.0 p.1 ((and_parts (list_all is_timezone_byte p.0) _ all).1)))))

-- names
pub name_again : (name rest : List ℕ) → is_name name ≡ true → name_at (name ++ 58 ∷ rest) ≡ Some (name, rest)
unfolding name_at
name_again name rest e = rw (cut_some 58 name rest (lacks is_name_byte 58 name refl ((and_parts _ (not (length name == 0)) e).0)), e) refl

pub name_read : (text : List ℕ) → IfSome (name_at text) (λ p. (is_name p.0 ≡ true) × (text ≡ p.0 ++ 58 ∷ p.1))
unfolding name_at
name_read text =
    some_then (λ p. cond (is_name p.0) (Some p) None) (cut_at 58 text) (λ p. text ≡ p.0 ++ 58 ∷ p.1) (λ p. (is_name p.0 ≡ true) × (text ≡ p.0 ++ 58 ∷ p.1)) (cut_read 58 text)
    (λ p h. some_if (is_name p.0) p (λ p. (is_name p.0 ≡ true) × (text ≡ p.0 ++ 58 ∷ p.1)) (λ e. (e, h)))
