-- Lists of digests: lines of 64 hexadecimal digits.
use Rattle.std.specs.Prelude.{◌≡◌, ◌⊎◌, ◌<◌, ◌+◌, ◌==◌, ℕ, List, [], ◌∷◌, ◌++◌, length, take, get_or, Ok}
use Rattle.std.specs.List.{slice_split}
use Rattle.hex.specs.Hex.{decode_of}
use Rattle.table_archive.specs.declared.digests.DigestsError.{DigestsError}
use Rattle.table_archive.specs.declared.digests.DigestsError.TheVariants.{BadLine, OutOfMemory}

-- the line states this digest, with letters of either case
pub record StatesDigest (line digest : List ℕ) : Type 0 where
  pub long : length line ≡ 64
  pub means : decode_of line ≡ Ok digest

abbrev pub IsDigestLine : List ℕ → Type 0
IsDigestLine line = (digest : List ℕ) × StatesDigest line digest

-- each line states the digest at its place
abbrev pub StateDigests : (lines digests : List (List ℕ)) → Type 0
StateDigests [] [] = Unit {0}
StateDigests (line ∷ lines) (digest ∷ digests) = StatesDigest line digest × StateDigests lines digests
StateDigests _ _ = ⊥

-- what stands before, between and after the line feeds
abbrev pub parts_of : List ℕ → List (List ℕ)
parts_of text = slice_split (λ b. b == 10) text

-- the lines of a text state these digests; nothing follows the last line feed, which may lack
pub record ListsDigests (text : List ℕ) (digests : List (List ℕ)) : Type 0 where
  pub lines : List (List ℕ)
  pub split : (parts_of text ≡ lines) ⊎ (parts_of text ≡ lines ++ [] ∷ [])
  pub state : StateDigests lines digests

-- the first line of a text that states no digest, counted from 1
pub record IsBadLine (text : List ℕ) (number : ℕ) : Type 0 where
  pub place : ℕ
  pub counted : number ≡ place + 1
  pub among : place < length (parts_of text)
  pub digests : List (List ℕ)
  pub before : StateDigests (take place (parts_of text)) digests
  pub bad : ¬ IsDigestLine (get_or (parts_of text) place [])
  pub more : get_or (parts_of text) place [] ≡ [] → place + 1 < length (parts_of text)

abbrev pub RefusesDigests : List ℕ → DigestsError → Type 0
RefusesDigests text (BadLine number) = IsBadLine text number
RefusesDigests text OutOfMemory = Unit {0}
