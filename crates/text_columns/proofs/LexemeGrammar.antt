-- What the lexer of JSON makes of a line from a place on.
use Rattle.std.specs.List.{prefix_len}
use Rattle.std.specs.Char.{is_ascii_digit}
use Rattle.std.proofs.Common.{◌≡◌, ℕ, suc, ◌+◌, ◌-◌, ◌≤◌, ◌<◌, Bool, true, false, cond, ◌||◌, ◌==◌, List, [], ◌∷◌, ◌++◌, length, take, drop, get_or, Option, Some, None, option_and_then, inl, inr, refl, arith, ap, sym, subst, ◌∙◌, length-drop, append_assoc}
use Rattle.std.proofs.lemmas.Bool.{eqb-true, leb-true, and_parts, ne_eqb, not-true, or_cases, or_parts}
use Rattle.std.proofs.lemmas.List.{append-nil, drop-drop, drop_more, take-append-drop}
use Rattle.json.specs.Token.{Token}
use Rattle.json.specs.Token as tokens
use Rattle.json.specs.Text.{after_backslash, content, plain, prepend}
use Rattle.json.specs.Word.{after_digits, after_exponent, after_fraction, after_minus, after_number, after_whole, ends_word, head, is_operator, is_space, number_before, word}
use Rattle.json.specs.Lex.{Class, Lexeme, Mode, Place, after_key, after_value, begins_colon, between, class, colon, fresh, if_allowed, in_string, in_word, lex, lex_byte, may_begin, may_close, operator, other, place_token, punctuate, quote, backslash, space, string_token, token}
use Rattle.text_columns.specs.inner.Lexemes.{IsLexeme, IsLiteral, IsScalar, is_plain, literal_text}

-- ---- bytes that end a word

or_last : (P : ℕ → Type 0) (x c : ℕ) (b : Bool) → P c → (b ≡ true → P x) → (b || (x == c)) ≡ true → P x
or_last P x c b p f e = elim (or_cases b (x == c) e) [
  | inl h ↦ f h
  | inr h ↦ subst P (sym (eqb-true x c h)) p
]

space_cases : (P : ℕ → Type 0) → P 32 → P 9 → P 10 → P 13 → (x : ℕ) → is_space x ≡ true → P x
space_cases P a b c d x = or_last P x 13 _ d (or_last P x 10 _ c (or_last P x 9 _ b (λ h. subst P (sym (eqb-true x 32 h)) a)))

operator_cases : (P : ℕ → Type 0) → P 123 → P 125 → P 91 → P 93 → P 58 → P 44 → (x : ℕ) → is_operator x ≡ true → P x
operator_cases P a b c d e f x =
    or_last P x 44 _ f (or_last P x 58 _ e (or_last P x 93 _ d (or_last P x 91 _ c (or_last P x 125 _ b (λ h. subst P (sym (eqb-true x 123 h)) a)))))

module _ (P : ℕ → Type 0) (a : P 123) (b : P 125) (c : P 91) (d : P 93) (e : P 58) (f : P 44) (g : P 32) (h : P 9) (i : P 10) (j : P 13) where
  ended_cases : (x : ℕ) → (is_operator x || is_space x) ≡ true → P x
  ended_cases x ends = elim (or_cases (is_operator x) (is_space x) ends) [
    | inl o ↦ operator_cases P a b c d e f x o
    | inr s ↦ space_cases P g h i j x s
  ]

-- ---- spaces

space_passed : (x : ℕ) (xs : List ℕ) → is_space x ≡ true → lex between (x ∷ xs) ≡ lex between xs
unfolding lex
space_passed x xs = space_cases (λ (y : ℕ). lex between (y ∷ xs) ≡ lex between xs) refl refl refl refl x

pub spaces_more : (d : List ℕ) (i : ℕ) → i < length d → is_space (get_or d i 0) ≡ true → lex between (drop (i + 1) d) ≡ lex between (drop i d)
spaces_more d i lt h = sym (ap (lex between) (drop_more d i 0 lt) ∙ space_passed (get_or d i 0) (drop (i + 1) d) h)

-- ---- a byte at a place

pub first_byte : (d : List ℕ) (i c : ℕ) → i < length d → get_or d i 0 ≡ c → drop i d ≡ c ∷ drop (i + 1) d
first_byte d i c lt e = drop_more d i 0 lt ∙ ap (λ (x : ℕ). x ∷ drop (i + 1) d) e

-- ---- strings

prepend-prepend : (a b : List ℕ) (r : Option (List ℕ)) → prepend a (prepend b r) ≡ prepend (a ++ b) r
prepend-prepend a b None = refl
prepend-prepend a b (Some s) = ap Some (sym (append_assoc a b s))

prepend-nil : (r : Option (List ℕ)) → prepend [] r ≡ r
prepend-nil None = refl
prepend-nil (Some s) = refl

plain_byte : (p : Bool) (x n : ℕ) (xs : List ℕ) → p ≡ is_plain x → content plain xs ≡ prepend (take n xs) (content plain (drop n xs))
    → content plain (x ∷ xs) ≡ prepend (take (cond p (1 + n) 0) (x ∷ xs)) (content plain (drop (cond p (1 + n) 0) (x ∷ xs)))
unfolding content
plain_byte false x n xs e ih = sym (prepend-nil _)
plain_byte true x n xs e ih =
    let next : suc n ≡ 1 + n = omega arith in
    let none = or_parts ((x == 34) || (x == 92)) _ (not-true _ (sym e)) in
    let tests = or_parts (x == 34) _ none.0 in
    (λ i. cond (tests.0 i) (Some []) (cond (tests.1 i) (content after_backslash xs) (cond (none.1 i) None (prepend (x ∷ []) (ih i)))))
    ∙ prepend-prepend (x ∷ []) (take n xs) _ ∙ ap (λ k. prepend (take k (x ∷ xs)) (content plain (drop k (x ∷ xs)))) next

-- plain bytes stand for themselves
plain_content : (xs : List ℕ) → content plain xs ≡ prepend (take (prefix_len is_plain xs) xs) (content plain (drop (prefix_len is_plain xs) xs))
plain_content [] = sym (prepend-nil _)
plain_content (x ∷ xs) = plain_byte (is_plain x) x (prefix_len is_plain xs) xs refl (plain_content xs)

string_goes_on : (o s : Bool) (x : ℕ) (xs : List ℕ) (k : Mode → List Lexeme) → lex_byte in_string (cond o operator (cond s space other)) x xs k ≡ k in_string
string_goes_on true s x xs k = refl
string_goes_on false true x xs k = refl
string_goes_on false false x xs k = refl

string_byte : (p : Bool) (x n : ℕ) (xs : List ℕ) → p ≡ is_plain x → lex in_string xs ≡ lex in_string (drop n xs) → lex in_string (x ∷ xs) ≡ lex in_string (drop (cond p (1 + n) 0) (x ∷ xs))
unfolding lex
string_byte false x n xs e ih = refl
string_byte true x n xs e ih =
    let next : suc n ≡ 1 + n = omega arith in
    let none = or_parts ((x == 34) || (x == 92)) _ (not-true _ (sym e)) in
    let tests = or_parts (x == 34) _ none.0 in
    (λ i. lex_byte in_string (cond (tests.0 i) quote (cond (tests.1 i) backslash (cond (is_operator x) operator (cond (is_space x) space other)))) x xs (λ m. lex m xs))
    ∙ string_goes_on (is_operator x) (is_space x) x xs _ ∙ ih ∙ ap (λ k. lex in_string (drop k (x ∷ xs))) next

string_passed : (xs : List ℕ) → lex in_string xs ≡ lex in_string (drop (prefix_len is_plain xs) xs)
string_passed [] = refl
string_passed (x ∷ xs) = string_byte (is_plain x) x (prefix_len is_plain xs) xs refl (string_passed xs)

pub string_lexeme : (d : List ℕ) (from stop : ℕ) → from < length d → get_or d from 0 ≡ 34 → stop ≡ from + 1 + prefix_len is_plain (drop (from + 1) d) → stop < length d → get_or d stop 0 ≡ 34
    → lex between (drop from d) ≡ token (tokens.string (take (stop - (from + 1)) (drop (from + 1) d))) ∷ lex between (drop (stop + 1) d)
unfolding lex content
string_lexeme d from stop lt opens is within closes =
    let xs = drop (from + 1) d in
    let n = prefix_len is_plain xs in
    let size : n ≡ stop - (from + 1) = omega (arith, is) in
    let at_stop : drop n xs ≡ 34 ∷ drop (stop + 1) d = drop-drop n (from + 1) d ∙ ap (λ (k : ℕ). drop k d) (sym is) ∙ first_byte d stop 34 within closes in
    let found : content plain xs ≡ Some (take (stop - (from + 1)) xs) =
    plain_content xs ∙ ap (λ (ys : List ℕ). prepend (take n xs) (content plain ys)) at_stop ∙ ap Some (append-nil (take n xs)) ∙ ap (λ (k : ℕ). Some (take k xs)) size in
    let behind : lex in_string xs ≡ lex between (drop (stop + 1) d) = string_passed xs ∙ ap (lex in_string) at_stop in
    ap (lex between) (first_byte d from 34 lt opens) ∙ (λ i. token (string_token (found i)) ∷ behind i)

-- ---- numbers

digit_class : (x : ℕ) → is_ascii_digit x ≡ true → class x ≡ other
digit_class x h =
    let low : 48 ≤ x = leb-true 48 x (and_parts _ _ h).0 in
    let high : x ≤ 57 = leb-true x 57 (and_parts _ _ h).1 in
    rw (
      ne_eqb x 34 (λ e. omega arith),
      ne_eqb x 92 (λ e. omega arith),
      ne_eqb x 123 (λ e. omega arith),
      ne_eqb x 125 (λ e. omega arith),
      ne_eqb x 91 (λ e. omega arith),
      ne_eqb x 93 (λ e. omega arith),
      ne_eqb x 58 (λ e. omega arith),
      ne_eqb x 44 (λ e. omega arith),
      ne_eqb x 32 (λ e. omega arith),
      ne_eqb x 9 (λ e. omega arith),
      ne_eqb x 10 (λ e. omega arith),
      ne_eqb x 13 (λ e. omega arith),
    ) refl

word_byte : (p : Bool) (x n : ℕ) (xs : List ℕ) → p ≡ is_ascii_digit x → lex in_word xs ≡ lex in_word (drop n xs) → lex in_word (x ∷ xs) ≡ lex in_word (drop (cond p (1 + n) 0) (x ∷ xs))
unfolding lex
word_byte false x n xs e ih = refl
word_byte true x n xs e ih =
    let next : suc n ≡ 1 + n = omega arith in
    ap (λ (c : Class). lex_byte in_word c x xs (λ m. lex m xs)) (digit_class x (sym e)) ∙ ih ∙ ap (λ k. lex in_word (drop k (x ∷ xs))) next

digits_passed : (xs : List ℕ) → lex in_word xs ≡ lex in_word (drop (prefix_len is_ascii_digit xs) xs)
digits_passed [] = refl
digits_passed (x ∷ xs) = word_byte (is_ascii_digit x) x (prefix_len is_ascii_digit xs) xs refl (digits_passed xs)

word_ended : (r : List ℕ) → ends_word r ≡ true → lex in_word r ≡ lex between r
unfolding lex
word_ended [] h = refl
word_ended (x ∷ xs) h = ended_cases (λ (y : ℕ). lex in_word (y ∷ xs) ≡ lex between (y ∷ xs)) refl refl refl refl refl refl refl refl refl refl x h

-- what ends a word is no point and no exponent
whole_number : (r : List ℕ) → ends_word r ≡ true → option_and_then after_exponent (after_fraction r) ≡ Some r
whole_number r h =
    let point : (head r == 46) ≡ false = ended_cases (λ (y : ℕ). (y == 46) ≡ false) refl refl refl refl refl refl refl refl refl refl (head r) h in
    let power : ((head r == 101) || (head r == 69)) ≡ false = ended_cases (λ (y : ℕ). ((y == 101) || (y == 69)) ≡ false) refl refl refl refl refl refl refl refl refl refl (head r) h in
    rw point (rw power refl)

digits_taken : (u : List ℕ) (n : ℕ) → n ≡ prefix_len is_ascii_digit u → 0 < n → (head u ≡ 48 → n ≡ 1) → after_whole u ≡ Some (drop n u)
digits_taken u n is some zero = by (head u == 48) refl
  where
    by : (b : Bool) → (head u == 48) ≡ b → cond b (Some (drop 1 u)) (after_digits u) ≡ Some (drop n u)
    by true e = ap (λ (k : ℕ). Some (drop k u)) (sym (zero (eqb-true (head u) 48 e)))
    by false e = (λ i. cond (ne_eqb (prefix_len is_ascii_digit u) 0 (λ z. omega (arith, is)) i) None (Some (drop (sym is i) u)))

-- digits, with a minus or not, before what ends a word
module _ (t u : List ℕ) (n : ℕ) (after : u ≡ after_minus t) (is : n ≡ prefix_len is_ascii_digit u) (some : 0 < n) (zero : head u ≡ 48 → n ≡ 1) (ends : ends_word (drop n u) ≡ true) where
  number_found : after_number t ≡ Some (drop n u)
  unfolding after_number
  number_found =
      ap (λ (v : List ℕ). option_and_then after_exponent (option_and_then after_fraction (after_whole v))) (sym after)
      ∙ ap (λ (o : Option (List ℕ)). option_and_then after_exponent (option_and_then after_fraction o)) (digits_taken u n is some zero)
      ∙ whole_number (drop n u) ends

  number_word : (x : ℕ) (xs : List ℕ) → t ≡ x ∷ xs → (x ≡ 116 → ⊥) → (x ≡ 102 → ⊥) → (x ≡ 110 → ⊥) → word t ≡ tokens.number (take (length t - length (drop n u)) t)
  unfolding word
  number_word x xs front not_t not_f not_n =
      let first : head t ≡ x = ap head front in
      let no_t : (head t == 116) ≡ false = ne_eqb (head t) 116 (λ e. not_t (sym first ∙ e)) in
      let no_f : (head t == 102) ≡ false = ne_eqb (head t) 102 (λ e. not_f (sym first ∙ e)) in
      let no_n : (head t == 110) ≡ false = ne_eqb (head t) 110 (λ e. not_n (sym first ∙ e)) in
      rw (no_t, no_f, no_n) (ap (number_before t) number_found ∙ ap (λ (b : Bool). cond b (tokens.number (take (length t - length (drop n u)) t)) tokens.bad) ends)

digit_front : (x n : ℕ) (xs : List ℕ) → n ≡ prefix_len is_ascii_digit (x ∷ xs) → 0 < n → is_ascii_digit x ≡ true
digit_front x n xs is some = by (is_ascii_digit x) (subst (λ (k : ℕ). 0 < k) is some)
  where
    by : (b : Bool) → 0 < cond b (1 + prefix_len is_ascii_digit xs) 0 → b ≡ true
    by true h = refl
    by false h = absurd (omega arith)

number_lexeme : (t u : List ℕ) (n : ℕ) → u ≡ after_minus t → n ≡ prefix_len is_ascii_digit u → 0 < n → (head u ≡ 48 → n ≡ 1) → ends_word (drop n u) ≡ true
    → lex between t ≡ token (tokens.number (take (length t - length (drop n u)) t)) ∷ lex between (drop n u)
unfolding lex
number_lexeme [] u n after is some zero ends = (let none : prefix_len is_ascii_digit u ≡ 0 = ap (prefix_len is_ascii_digit) after in absurd (omega (arith, is)))
number_lexeme (x ∷ xs) u n after is some zero ends = by (x == 45) refl
  where
    rest : lex in_word u ≡ lex between (drop n u)
    rest = digits_passed u ∙ ap (λ (k : ℕ). lex in_word (drop k u)) (sym is) ∙ word_ended (drop n u) ends

    by : (b : Bool) → (x == 45) ≡ b → lex between (x ∷ xs) ≡ token (tokens.number (take (length (x ∷ xs) - length (drop n u)) (x ∷ xs))) ∷ lex between (drop n u)
    by true e =
        let minus = eqb-true x 45 e in
        let own : u ≡ xs = after ∙ ap (λ (b : Bool). cond b xs (x ∷ xs)) e in
        ap (λ (c : Class). lex_byte between c x xs (λ m. lex m xs)) (ap class minus)
        ∙ (λ i. token (number_word (x ∷ xs) u n after is some zero ends x xs refl (λ z. omega (arith, minus)) (λ z. omega (arith, minus)) (λ z. omega (arith, minus)) i) ∷ (ap (lex in_word) (sym own) ∙ rest) i)
    by false e =
        let own : u ≡ x ∷ xs = after ∙ ap (λ (b : Bool). cond b xs (x ∷ xs)) e in
        let digit = digit_front x n xs (is ∙ ap (prefix_len is_ascii_digit) own) some in
        let kind = digit_class x digit in
        let low : 48 ≤ x = leb-true 48 x (and_parts _ _ digit).0 in
        let high : x ≤ 57 = leb-true x 57 (and_parts _ _ digit).1 in
        let inside : lex in_word xs ≡ lex in_word u = sym (ap (lex in_word) own ∙ ap (λ (c : Class). lex_byte in_word c x xs (λ m. lex m xs)) kind) in
        ap (λ (c : Class). lex_byte between c x xs (λ m. lex m xs)) kind
        ∙ (λ i. token (number_word (x ∷ xs) u n after is some zero ends x xs refl (λ z. omega arith) (λ z. omega arith) (λ z. omega arith) i) ∷ (inside ∙ rest) i)

pub head_at : (d : List ℕ) (i : ℕ) → i < length d → head (drop i d) ≡ get_or d i 0
head_at d i lt = ap head (drop_more d i 0 lt)

pub number_at : (d : List ℕ) (from first end : ℕ) → from < length d → drop first d ≡ after_minus (drop from d) → end ≡ first + prefix_len is_ascii_digit (drop first d) → (end ≡ first → ⊥) → end ≤ length d
    → ends_word (drop end d) ≡ true → (get_or d first 0 ≡ 48 → end ≤ first + 1)
    → lex between (drop from d) ≡ token (tokens.number (take (end - from) (drop from d))) ∷ lex between (drop end d)
number_at d from first end lt after is some high ends zero =
    let u = drop first d in
    let n = prefix_len is_ascii_digit u in
    let behind : drop n u ≡ drop end d = drop-drop n first d ∙ ap (λ (k : ℕ). drop k d) (sym is) in
    let zeros : head u ≡ 48 → n ≡ 1 = λ e. (let one = zero (sym (head_at d first (omega (arith, is))) ∙ e) in omega (arith, is)) in
    let size : length (drop from d) - length (drop n u) ≡ end - from = omega (arith, length-drop from d, ap length behind, length-drop end d) in
    number_lexeme (drop from d) u n after refl (omega (arith, is)) zeros (ap ends_word behind ∙ ends)
    ∙ (λ i. token (tokens.number (take (size i) (drop from d))) ∷ lex between (behind i))

-- ---- literals

true_lexeme : (t r : List ℕ) → t ≡ 116 ∷ 114 ∷ 117 ∷ 101 ∷ r → ends_word r ≡ true → lex between t ≡ token (tokens.boolean true) ∷ lex between r
unfolding lex word
true_lexeme t r is h = ap (lex between) is ∙ (λ i. token (cond (h i) (tokens.boolean true) tokens.bad) ∷ word_ended r h i)

false_lexeme : (t r : List ℕ) → t ≡ 102 ∷ 97 ∷ 108 ∷ 115 ∷ 101 ∷ r → ends_word r ≡ true → lex between t ≡ token (tokens.boolean false) ∷ lex between r
unfolding lex word
false_lexeme t r is h = ap (lex between) is ∙ (λ i. token (cond (h i) (tokens.boolean false) tokens.bad) ∷ word_ended r h i)

null_lexeme : (t r : List ℕ) → t ≡ 110 ∷ 117 ∷ 108 ∷ 108 ∷ r → ends_word r ≡ true → lex between t ≡ token tokens.null ∷ lex between r
unfolding lex word
null_lexeme t r is h = ap (lex between) is ∙ (λ i. token (cond (h i) tokens.null tokens.bad) ∷ word_ended r h i)

literal_lexeme : (k : Token) (t r : List ℕ) → 0 < length (literal_text k) → t ≡ literal_text k ++ r → ends_word r ≡ true → lex between t ≡ token k ∷ lex between r
literal_lexeme (tokens.boolean true) t r some is h = true_lexeme t r is h
literal_lexeme (tokens.boolean false) t r some is h = false_lexeme t r is h
literal_lexeme tokens.null t r some is h = null_lexeme t r is h
literal_lexeme _ t r some is h = absurd (omega arith)

pub literal_is_scalar : (k : Token) → 0 < length (literal_text k) → IsScalar k
literal_is_scalar (tokens.string s) some = tt
literal_is_scalar (tokens.number s) some = tt
literal_is_scalar (tokens.boolean b) some = tt
literal_is_scalar tokens.null some = tt
literal_is_scalar _ some = absurd (omega arith)

pub literal_here : (d name : List ℕ) (from end : ℕ) (k : Token) → IsLiteral name k → end ≡ from + length name → end ≤ length d → take (end - from) (drop from d) ≡ name → ends_word (drop end d) ≡ true
    → IsLexeme d from end k
literal_here d name from end k literal is high same ends =
    let some : 0 < length (literal_text k) = omega (arith, literal.1, ap length literal.0) in
    let place : from + (end - from) ≡ end = omega (arith, is) in
    let behind : drop (end - from) (drop from d) ≡ drop end d = drop-drop (end - from) from d ∙ ap (λ (n : ℕ). drop n d) place in
    let whole : drop from d ≡ literal_text k ++ drop end d = sym (take-append-drop (end - from) (drop from d)) ∙ (λ i. (same ∙ literal.0) i ++ behind i) in
    record { low = omega (arith, is, literal.1); high = high; first = literal_lexeme k (drop from d) (drop end d) some whole ends }

-- ---- what commas and colons make of lexemes

allowed : (b : Bool) (t : Token) (k : Place → List Token) (next : Place) → b ≡ true → if_allowed b t k next ≡ t ∷ k next
allowed b t k next e = ap (λ (x : Bool). if_allowed x t k next) e

pub scalar_first : (p : Place) (t : Token) (ls : List Lexeme) → IsScalar t → may_begin p ≡ true → begins_colon ls ≡ false → punctuate p (token t ∷ ls) ≡ t ∷ punctuate after_value ls
unfolding punctuate
scalar_first p (tokens.string s) ls h may e = ap (λ (b : Bool). place_token p (tokens.string s) b (λ n. punctuate n ls)) e ∙ allowed (may_begin p) (tokens.string s) (λ n. punctuate n ls) after_value may
scalar_first p (tokens.number s) ls h may e = allowed (may_begin p) (tokens.number s) (λ n. punctuate n ls) after_value may
scalar_first p (tokens.boolean b) ls h may e = allowed (may_begin p) (tokens.boolean b) (λ n. punctuate n ls) after_value may
scalar_first p tokens.null ls h may e = allowed (may_begin p) tokens.null (λ n. punctuate n ls) after_value may
scalar_first p _ ls h may e = absurd h

pub key_first : (p : Place) (s : List ℕ) (ls : List Lexeme) → may_begin p ≡ true → punctuate p (token (tokens.string s) ∷ colon ∷ ls) ≡ tokens.key s ∷ punctuate fresh ls
unfolding punctuate
key_first p s ls may = allowed (may_begin p) (tokens.key s) (λ n. punctuate n (colon ∷ ls)) after_key may

pub array_first : (p : Place) (ls : List Lexeme) → may_begin p ≡ true → punctuate p (token tokens.begin_array ∷ ls) ≡ tokens.begin_array ∷ punctuate fresh ls
unfolding punctuate
array_first p ls may = allowed (may_begin p) tokens.begin_array (λ n. punctuate n ls) fresh may

pub object_first : (p : Place) (ls : List Lexeme) → may_begin p ≡ true → punctuate p (token tokens.begin_object ∷ ls) ≡ tokens.begin_object ∷ punctuate fresh ls
unfolding punctuate
object_first p ls may = allowed (may_begin p) tokens.begin_object (λ n. punctuate n ls) fresh may

pub end_array_first : (p : Place) (ls : List Lexeme) → may_close p ≡ true → punctuate p (token tokens.end_array ∷ ls) ≡ tokens.end_array ∷ punctuate after_value ls
unfolding punctuate
end_array_first p ls may = allowed (may_close p) tokens.end_array (λ n. punctuate n ls) after_value may

pub end_object_first : (p : Place) (ls : List Lexeme) → may_close p ≡ true → punctuate p (token tokens.end_object ∷ ls) ≡ tokens.end_object ∷ punctuate after_value ls
unfolding punctuate
end_object_first p ls may = allowed (may_close p) tokens.end_object (λ n. punctuate n ls) after_value may
