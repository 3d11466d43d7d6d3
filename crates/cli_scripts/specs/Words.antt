-- The words of a line of a script. A single space stands between two of them, so a word may be empty. A word that begins with a quotation mark goes on to
-- the mark that closes it, and may have spaces; two marks within it are one mark of the word.
use Rattle.std.specs.Prelude.{◌≡◌, ◌⊎◌, ◌==◌, ℕ, Bool, true, false, List, [], ◌∷◌, ◌++◌, length, take, ◌-◌, codes, Option, Some, None, option_map, unwrap_or, slice_get, if◌then◌else◌}
use Rattle.std.specs.List.{slice_split}
use Rattle.std.specs.Option.{option_and_then}
use Rattle.std.specs.Str.{is_utf8}
use Rattle.field_texts.specs.inner.Scan.{cut_at, stripped}

-- a quotation mark
abbrev pub mark : List ℕ
mark = codes "\""

-- the word whose opening mark is passed, up to the mark that closes it, and what follows that one
unfoldable pub quoted : List ℕ → Option (List ℕ × List ℕ)
quoted [] = None
quoted (b ∷ []) = if b == 34 then Some ([], []) else None
quoted (b ∷ c ∷ rest) =
    if b == 34 then (if 34 == c then option_map (λ p. (34 ∷ p.0, p.1)) (quoted rest) else Some ([], c ∷ rest))
    else option_map (λ p. (b ∷ p.0, p.1)) (quoted (c ∷ rest))

-- what follows a word: nothing at the end of the line, or what stands after a space
unfoldable pub after_word : List ℕ → Option (Option (List ℕ))
after_word [] = Some None
after_word (b ∷ rest) = option_map Some (stripped (codes " ") (b ∷ rest))

abbrev pub closed_word : List ℕ × List ℕ → Option (List ℕ × Option (List ℕ))
closed_word parts = option_map (λ rest. (parts.0, rest)) (after_word parts.1)

-- a word without a mark at its start, and what stands after the space that ends it, if one does
abbrev pub split_word : List ℕ → Option (List ℕ × List ℕ) → List ℕ × Option (List ℕ)
split_word line None = (line, None)
split_word line (Some parts) = (parts.0, Some parts.1)

-- the first word of a line, by what follows the mark at its start, if it has one
abbrev pub first_word : List ℕ → Option (List ℕ) → Option (List ℕ × Option (List ℕ))
first_word line None = Some (split_word line (cut_at 32 line))
first_word line (Some text) = option_and_then closed_word (quoted text)

-- the first word of a line, and what stands after the space that ends it, if one does; or none, if its mark is not closed, or something else than a space
-- follows the mark that closes it
unfoldable pub word_at : List ℕ → Option (List ℕ × Option (List ℕ))
word_at line = first_word line (stripped mark line)

-- the words of a line
unfoldable pub AreWords : List ℕ → List (List ℕ) → Type 0
AreWords line [] = ⊥
AreWords line (word ∷ []) = word_at line ≡ Some (word, None)
AreWords line (word ∷ next ∷ words) = (rest : List ℕ) × (word_at line ≡ Some (word, Some rest)) × AreWords rest (next ∷ words)

-- ---- how words are written, so that they are read again

-- each mark of a word twice
unfoldable pub doubled : List ℕ → List ℕ
doubled [] = []
doubled (b ∷ bytes) = if b == 34 then 34 ∷ 34 ∷ doubled bytes else b ∷ doubled bytes

-- a word in quotation marks
abbrev pub written : List ℕ → List ℕ
written word = 34 ∷ doubled word ++ 34 ∷ []

-- words in quotation marks, with a single space between two of them
unfoldable pub written_line : List (List ℕ) → List ℕ
written_line [] = []
written_line (word ∷ []) = written word
written_line (word ∷ next ∷ words) = written word ++ 32 ∷ written_line (next ∷ words)

-- ---- what is read

-- a line has these words, or none
abbrev pub ReadsWords : List ℕ → Option (List (List ℕ)) → Type 0
ReadsWords line (Some words) = AreWords line words
ReadsWords line None = (words : List (List ℕ)) → AreWords line words → ⊥

-- a line is UTF-8 and has these words; or it is not, or has none
abbrev pub HasWords : List ℕ → Option (List (List ℕ)) → Type 0
HasWords line (Some words) = (is_utf8 line ≡ true) × AreWords line words
HasWords line None = (is_utf8 line ≡ false) ⊎ ReadsWords line None

-- ---- the lines of a script

-- the last part is empty
abbrev pub ends_empty : List (List ℕ) → Bool
ends_empty parts = unwrap_or (option_map (λ (part : List ℕ). length part == 0) (slice_get parts (length parts - 1))) false

-- the lines, each ended by a line feed, which the last one may lack
unfoldable pub lines_of : List ℕ → List (List ℕ)
lines_of script = let parts = slice_split (λ b. b == 10) script in if ends_empty parts then take (length parts - 1) parts else parts

-- there is a last line, and it has its line feed: the script is not cut off within a line or before the first one
abbrev pub is_ended : (script : List ℕ) → Bool
is_ended script = unwrap_or (option_map (λ (b : ℕ). b == 10) (slice_get script (length script - 1))) false

-- each line has its words, or none
abbrev pub HaveWords : List (List ℕ) → List (Option (List (List ℕ))) → Type 0
HaveWords [] [] = Unit {0}
HaveWords (line ∷ lines) (words ∷ more) = HasWords line words × HaveWords lines more
HaveWords [] (words ∷ more) = ⊥
HaveWords (line ∷ lines) [] = ⊥
