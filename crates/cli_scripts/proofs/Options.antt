-- Words are at most three options with their values.
use Rattle.std.proofs.Common.{◌≡◌, ◌≢◌, ◌≤◌, ◌+◌, ◌*◌, ℕ, Bool, true, false, if◌then◌else◌, List, [], ◌∷◌, length, codes, Option, Some, None, bytes_eq, refl, sym, ap, arith}
use Rattle.std.specs.Option.{option_and_then}
use Rattle.cli_scripts.specs.Appending.{PlainOptions, no_options, once, with_option, options_of}

-- ---- how many options there are

abbrev one : Option (List ℕ) → ℕ
one None = 0
one (Some value) = 1

abbrev count : PlainOptions → ℕ
count options = one options.form + (one options.null_text + one options.dates)

one_at_most : (value : Option (List ℕ)) → one value ≤ 1
one_at_most None = omega arith
one_at_most (Some value) = omega arith

few : (options : PlainOptions) → count options ≤ 3
few options = let form = one_at_most options.form in let null_text = one_at_most options.null_text in let dates = one_at_most options.dates in omega arith

-- ---- one more

added : (before : Option (List ℕ)) (with options : PlainOptions) → once before with ≡ Some options → (before ≡ None) × (with ≡ options)
unfolding once
added None with options is = (refl, cc)
added (Some value) with options is = absurd cc

one_more : (value : List ℕ) (others options : PlainOptions) (a b c : Bool)
    → (if a then once others.form (record others { form = Some value }) else if b then once others.null_text (record others { null_text = Some value })
    else if c then once others.dates (record others { dates = Some value }) else None) ≡ Some options → count options ≡ count others + 1
one_more value others options true b c is =
    let both = added others.form (record others { form = Some value }) options is in
    let before : one others.form ≡ 0 = ap one both.0 in
    let after : 1 + (one others.null_text + one others.dates) ≡ count options = ap count both.1 in omega arith
one_more value others options false true c is =
    let both = added others.null_text (record others { null_text = Some value }) options is in
    let before : one others.null_text ≡ 0 = ap one both.0 in
    let after : one others.form + (1 + one others.dates) ≡ count options = ap count both.1 in omega arith
one_more value others options false false true is =
    let both = added others.dates (record others { dates = Some value }) options is in
    let before : one others.dates ≡ 0 = ap one both.0 in
    let after : one others.form + (one others.null_text + 1) ≡ count options = ap count both.1 in omega arith
one_more value others options false false false is = absurd cc

-- a word that is none of the three
pub no_option : (option value : List ℕ) (others : PlainOptions) → bytes_eq option (codes "--as") ≡ false → bytes_eq option (codes "--null") ≡ false
    → bytes_eq option (codes "--dates") ≡ false → None ≡ with_option option value others
unfolding with_option
no_option option value others form null_text dates = rw (form, null_text, dates) refl

-- ---- how many words they are

counted : (words : List (List ℕ)) (options : PlainOptions) → options_of words ≡ Some options → length words ≡ 2 * count options
unfolding options_of with_option
counted [] options is = let same : no_options ≡ options = cc in ap (λ (o : PlainOptions). 2 * count o) same
counted (word ∷ []) options is = absurd cc
counted (option ∷ value ∷ more) options is = by (options_of more) (counted more) is where
  by : (found : Option PlainOptions) → ((others : PlainOptions) → found ≡ Some others → length more ≡ 2 * count others) → option_and_then (with_option option value) found ≡ Some options
      → length (option ∷ value ∷ more) ≡ 2 * count options
  by None rest is = absurd cc
  by (Some others) rest is =
      let shorter = rest others refl in
      let longer = one_more value others options (bytes_eq option (codes "--as")) (bytes_eq option (codes "--null")) (bytes_eq option (codes "--dates")) is in omega arith

-- words of another number are no options
pub no_options_of : (words : List (List ℕ)) → ((n : ℕ) → n ≤ 3 → length words ≢ 2 * n) → None ≡ options_of words
no_options_of words wrong = by (options_of words) refl where
  by : (found : Option PlainOptions) → options_of words ≡ found → None ≡ found
  by None here = refl
  by (Some options) here = absurd (wrong (count options) (few options) (counted words options here))
