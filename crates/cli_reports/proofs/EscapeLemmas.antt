-- Bytes with escapes in place of control characters.
use Rattle.std.proofs.Common.{◌≡◌, ◌∙◌, ◌<◌, ◌≤◌, ◌+◌, ◌-◌, ◌++◌, ◌&&◌, ◌==◌, ℕ, zero, suc, Bool, true, false, not, List, [], ◌∷◌, length, take, drop, refl, sym, ap, subst, arith, cond, append_assoc, true≢false}
use Rattle.std.specs.Prelude.{◌/◌, ◌%◌, nat_lt, nat_le, if◌then◌else◌, slice_index, Option, Result, Ok, Err, IfOk}
use Rattle.std.specs.Io.{WritesAtMost}
use Rattle.std.specs.Io.KnownBytes.{Appends, WriteAppends}
use Rattle.std.proofs.lemmas.List.{length-take-le, take-take}
use Rattle.std.proofs.Common.{eqb-true, ltb-true, ltb-false, append-nil}
use Rattle.std.proofs.lemmas.Bool.{and_parts}
use Rattle.cli_reports.specs.Escaped.{are_clean, are_control, control_length, escape, escaped, hex_digit, is_delete, shown_bytes}

-- ---- a byte that begins no control character stays

one_plain : (b : Bool) (xs ys : List ℕ) → ◌≡◌ {A = ℕ} (if b then 1 else 0) 0 → (if b then xs else ys) ≡ ys
one_plain true xs ys e = absurd cc
one_plain false xs ys e = refl

two_plain : (b c : Bool) (xs ys zs : List ℕ) → ◌≡◌ {A = ℕ} (if b then 1 else (if c then 2 else 0)) 0 → (if b then xs else (if c then ys else zs)) ≡ zs
two_plain true c xs ys zs e = absurd cc
two_plain false true xs ys zs e = absurd cc
two_plain false false xs ys zs e = refl

plain_first : (b : ℕ) (rest : List ℕ) → control_length (b ∷ rest) ≡ 0 → escaped (b ∷ rest) ≡ b ∷ escaped rest
unfolding escaped control_length
plain_first b [] e = one_plain (is_delete b) (escape b) (b ∷ []) e
plain_first b (c ∷ rest) e = two_plain (is_delete b) (are_control b c) _ _ _ e

-- some bytes before the first control character
pub plain_front : (n : ℕ) (bytes : List ℕ) → ((k : ℕ) → k < n → control_length (drop k bytes) ≡ 0) → escaped bytes ≡ take n bytes ++ escaped (drop n bytes)
plain_front zero bytes plain = refl
plain_front (suc n) [] plain = refl
plain_front (suc n) (b ∷ rest) plain =
    plain_first b rest (plain 0 (omega arith))
    ∙ ap (λ (xs : List ℕ). b ∷ xs) (plain_front n rest (λ k h. plain (suc k) (omega (arith, h))))

-- ---- escapes have no control character

no_delete : (x : ℕ) → x < 127 → is_delete x ≡ false
no_delete x small = by_test (x == 127) refl
  where
    by_test : (b : Bool) → (x == 127) ≡ b → (x == 127) ≡ false
    by_test true e = let is : x ≡ 127 = eqb-true x 127 e in absurd (omega (arith, is, small))
    by_test false e = e

no_lead : (x y : ℕ) → x < 127 → are_control x y ≡ false
no_lead x y small = by_test (x == 194) refl
  where
    by_test : (b : Bool) → (x == 194) ≡ b → are_control x y ≡ false
    by_test true e = let is : x ≡ 194 = eqb-true x 194 e in absurd (omega (arith, is, small))
    by_test false e = rw e refl

before_escape : (b : ℕ) → are_control b 92 ≡ false
before_escape b = by_test (b == 194) refl
  where
    by_test : (t : Bool) → (b == 194) ≡ t → are_control b 92 ≡ false
    by_test true e = rw e refl
    by_test false e = rw e refl

-- a byte does not begin a control character with the first of these
abbrev Apart : ℕ → List ℕ → Type 0
Apart b [] = Unit {0}
Apart b (x ∷ xs) = are_control b x ≡ false

apart_small : (b : ℕ) (xs : List ℕ) → b < 127 → Apart b xs
apart_small b [] small = tt
apart_small b (x ∷ xs) small = no_lead b x small

clean_cons : (b : ℕ) (xs : List ℕ) → is_delete b ≡ false → Apart b xs → are_clean xs ≡ true → are_clean (b ∷ xs) ≡ true
unfolding are_clean
clean_cons b [] d a c = rw d refl
clean_cons b (x ∷ xs) d a c = rw (d, a, c) refl

small_digit : (m : ℕ) → m < 16 → hex_digit m < 127
small_digit m small = by_test (nat_lt m 10) refl
  where
    by_test : (b : Bool) → nat_lt m 10 ≡ b → hex_digit m < 127
    by_test true e = rw e (omega (arith, small))
    by_test false e = rw e (omega (arith, small))

clean_escape : (n : ℕ) (xs : List ℕ) → n < 160 → are_clean xs ≡ true → are_clean (escape n ++ xs) ≡ true
clean_escape n xs small c =
    let high : hex_digit (n / 16) < 127 = small_digit (n / 16) (omega (arith, small)) in
    let low : hex_digit (n % 16) < 127 = small_digit (n % 16) (omega arith) in
    let last = clean_cons (hex_digit (n % 16)) xs (no_delete (hex_digit (n % 16)) low) (apart_small (hex_digit (n % 16)) xs low) c in
    let fourth : 48 < 127 = omega arith in
    let both = clean_cons (hex_digit (n / 16)) (hex_digit (n % 16) ∷ xs) (no_delete (hex_digit (n / 16)) high) (no_lead (hex_digit (n / 16)) (hex_digit (n % 16)) high) last in
    clean_cons 92 _ refl refl (clean_cons 117 _ refl refl (clean_cons 48 _ refl refl (clean_cons 48 _ refl (no_lead 48 (hex_digit (n / 16)) fourth) both)))

clean_empty : are_clean [] ≡ true
unfolding are_clean
clean_empty = refl

deleted : (b : ℕ) → is_delete b ≡ true → b < 160
deleted b e = let is : b ≡ 127 = eqb-true b 127 e in omega (arith, is)

second : (b c : ℕ) → are_control b c ≡ true → c < 160
second b c e = ltb-true c 160 (and_parts (nat_le 128 c) (nat_lt c 160) (and_parts (b == 194) _ e).1).1

one_clean : (b : ℕ) (d : Bool) → is_delete b ≡ d → are_clean (if d then escape b else b ∷ []) ≡ true
one_clean b true e = subst (λ (xs : List ℕ). are_clean xs ≡ true) (append-nil (escape b)) (clean_escape b [] (deleted b e) (clean_empty))
one_clean b false e = clean_cons b [] e tt clean_empty

one_apart : (b c : ℕ) (d : Bool) → are_control b c ≡ false → Apart b (if d then escape c else c ∷ [])
one_apart b c true apart = before_escape b
one_apart b c false apart = apart

two_apart : (b c e : ℕ) (xs ys zs : List ℕ) (d k : Bool) → are_control b c ≡ false
    → Apart b (if d then escape c ++ xs else (if k then escape e ++ ys else c ∷ zs))
two_apart b c e xs ys zs true k apart = before_escape b
two_apart b c e xs ys zs false true apart = before_escape b
two_apart b c e xs ys zs false false apart = apart

apart_escaped : (b c : ℕ) (rest : List ℕ) → are_control b c ≡ false → Apart b (escaped (c ∷ rest))
unfolding escaped
apart_escaped b c [] apart = one_apart b c (is_delete c) apart
apart_escaped b c (e ∷ rest) apart = two_apart b c e _ _ _ (is_delete c) (are_control c e) apart

two_clean : (b c : ℕ) (xs ys : List ℕ) (d k : Bool) → is_delete b ≡ d → are_control b c ≡ k → are_clean xs ≡ true → are_clean ys ≡ true
    → (are_control b c ≡ false → Apart b xs) → are_clean (if d then escape b ++ xs else (if k then escape c ++ ys else b ∷ xs)) ≡ true
two_clean b c xs ys true k delete control first others apart = clean_escape b xs (deleted b delete) first
two_clean b c xs ys false true delete control first others apart = clean_escape c ys (second b c control) others
two_clean b c xs ys false false delete control first others apart = clean_cons b xs delete (apart control) first

pub clean : (bytes : List ℕ) → are_clean (escaped bytes) ≡ true
unfolding escaped
clean [] = clean_empty
clean (b ∷ []) = one_clean b (is_delete b) refl
clean (b ∷ c ∷ rest) =
    two_clean b c (escaped (c ∷ rest)) (escaped rest) (is_delete b) (are_control b c) refl refl (clean (c ∷ rest)) (clean rest) (apart_escaped b c rest)

-- one byte more
pub next_plain : (bytes : List ℕ) (n : ℕ) → ((k : ℕ) → k < n → control_length (drop k bytes) ≡ 0) → control_length (drop n bytes) ≡ 0
    → (k : ℕ) → k < n + 1 → control_length (drop k bytes) ≡ 0
next_plain bytes n before at k below = by_test (nat_lt k n) refl
  where
    by_test : (b : Bool) → nat_lt k n ≡ b → control_length (drop k bytes) ≡ 0
    by_test true e = before k (ltb-true k n e)
    by_test false e =
        let above = ltb-false k n e in
        let same : n ≡ k = omega (arith, above, below) in
        subst (λ (i : ℕ). control_length (drop i bytes) ≡ 0) same at

-- ---- what is written of a text

one_fits : (d : Bool) → (if d then 1 else 0) ≤ 1
one_fits true = omega arith
one_fits false = omega arith

two_fit : (d k : Bool) (n : ℕ) → (if d then 1 else (if k then 2 else 0)) ≤ suc (suc n)
two_fit true k n = omega arith
two_fit false true n = omega arith
two_fit false false n = omega arith

pub control_fits : (bytes : List ℕ) → control_length bytes ≤ length bytes
unfolding control_length
control_fits [] = omega arith
control_fits (b ∷ []) = one_fits (is_delete b)
control_fits (b ∷ c ∷ rest) = two_fit (is_delete b) (are_control b c) (length rest)

one_escape : (d : Bool) (b n : ℕ) → (if d then 1 else 0) ≡ n → 0 < n
    → (if d then escape b else b ∷ []) ≡ escape (slice_index (b ∷ []) (n - 1)) ++ escaped (drop n (b ∷ []))
unfolding escaped
one_escape true b n is some =
    subst (λ (k : ℕ). escape b ≡ escape (slice_index (b ∷ []) (k - 1)) ++ escaped (drop k (b ∷ []))) is refl
one_escape false b n is some = absurd (omega (arith, is, some))

two_escape : (d k : Bool) (b c : ℕ) (rest : List ℕ) (n : ℕ) → (if d then 1 else (if k then 2 else 0)) ≡ n → 0 < n
    → (if d then escape b ++ escaped (c ∷ rest) else (if k then escape c ++ escaped rest else b ∷ escaped (c ∷ rest)))
    ≡ escape (slice_index (b ∷ c ∷ rest) (n - 1)) ++ escaped (drop n (b ∷ c ∷ rest))
two_escape true k b c rest n is some =
    subst (λ (m : ℕ). escape b ++ escaped (c ∷ rest) ≡ escape (slice_index (b ∷ c ∷ rest) (m - 1)) ++ escaped (drop m (b ∷ c ∷ rest))) is refl
two_escape false true b c rest n is some =
    subst (λ (m : ℕ). escape c ++ escaped rest ≡ escape (slice_index (b ∷ c ∷ rest) (m - 1)) ++ escaped (drop m (b ∷ c ∷ rest))) is refl
two_escape false false b c rest n is some = absurd (omega (arith, is, some))

-- the character at the start is an escape
pub escaped_first : (bytes : List ℕ) (n : ℕ) → control_length bytes ≡ n → 0 < n
    → escaped bytes ≡ escape (slice_index bytes (n - 1)) ++ escaped (drop n bytes)
unfolding escaped control_length
escaped_first [] n is some = absurd (omega (arith, is, some))
escaped_first (b ∷ []) n is some = one_escape (is_delete b) b n is some
escaped_first (b ∷ c ∷ rest) n is some = two_escape (is_delete b) (are_control b c) b c rest n is some

-- what is written of the bytes before the first of these characters is a front of the text
pub shown_front : {E : Type 0} (result : Result ℕ E) (bytes : List ℕ) (plain : ℕ) (before after : Option (List ℕ)) → plain ≤ length bytes
    → ((k : ℕ) → k < plain → control_length (drop k bytes) ≡ 0) → WritesAtMost result (take plain bytes) → WriteAppends before after result (take plain bytes)
    → IfOk result (λ n. (shown : List ℕ) × (escaped bytes ≡ shown ++ escaped (drop n bytes)) × Appends before after shown)
shown_front (Err e) bytes plain before after fits none few wrote = tt
shown_front (Ok n) bytes plain before after fits none few wrote =
    let size : length (take plain bytes) ≡ plain = length-take-le plain bytes fits in
    let within : n ≤ plain = subst (λ (k : ℕ). n ≤ k) size few in (
      take n bytes,
      plain_front n bytes (λ k h. none k (omega (arith, h, within))),
      subst (λ (xs : List ℕ). Appends before after xs) (take-take n plain bytes within) wrote,
    )
