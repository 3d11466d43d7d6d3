-- What is kept of the dictionaries of a stream: lists of arrays, each begun by a batch that is no delta, and for each id the list that is in effect.
-- A list that is no longer in effect is kept, since arrays that were read before refer to it.
use Rattle.std.specs.List.{list_all}
use Rattle.std.specs.Prelude.{true, ◌≡◌, ℕ, Bool, ◌==◌, ◌≤◌, ◌<◌, List, [], ◌∷◌, map, length, take, get_or, Option, Some, None, if◌then◌else◌}
use Rattle.columns.specs.declared.array.PlacedArray.{PlacedArray}
use Rattle.columns.specs.declared.array.Dictionary.{Dictionary}
use Rattle.columns.specs.declared.array.DictionaryPart.{DictionaryPart}
use Rattle.columns.specs.View.{array_in, arrays_in, no_dictionary}
use Rattle.columns.specs.Within.{is_within_by, stands_within}
use Rattle.columns.specs.Array.{Array}
use Rattle.dictionary.specs.declared.current.CurrentList.{CurrentList}
use Rattle.dictionary.specs.InEffect.{DictionaryBatch, in_effect}

pub record Kept : Type 0 where
  pub lists : List (List PlacedArray)
  pub numbers : List CurrentList

abbrev pub lists_of : List Dictionary → List (List PlacedArray)
lists_of dictionaries = map (λ d. d.arrays.items) dictionaries

-- the number of the list of an id
abbrev pub number_in : ℕ → List CurrentList → Option ℕ
number_in id [] = None
number_in id (c ∷ numbers) = if c.id == id then Some c.number else number_in id numbers

abbrev pub list_at : List (List PlacedArray) → Option ℕ → List PlacedArray
list_at lists None = []
list_at lists (Some n) = get_or lists n []

-- the arrays in effect for an id, as they are kept
abbrev pub arrays_for : Kept → ℕ → List PlacedArray
arrays_for k id = list_at k.lists (number_in id k.numbers)

-- for each id the kept arrays are those in effect after these batches
abbrev pub HasInEffect : List ℕ → Kept → List DictionaryBatch → Type 0
HasInEffect bytes k before = (id : ℕ) → map (array_in bytes no_dictionary) (arrays_for k id) ≡ in_effect id before

-- the arrays that a part knows are those in effect for an id, whichever batches came before
abbrev pub IsInEffect : Kept → ℕ → DictionaryPart → Type 0
IsInEffect k id part = (bytes : List ℕ) (before : List DictionaryBatch) (lists : List Dictionary) → HasInEffect bytes k before → lists_of lists ≡ k.lists
    → arrays_in bytes lists part ≡ in_effect id before

-- the same for the parts of several ids, in order
abbrev pub AreInEffect : Kept → List ℕ → List DictionaryPart → Type 0
AreInEffect k ids parts = (bytes : List ℕ) (before : List DictionaryBatch) (lists : List Dictionary) → HasInEffect bytes k before → lists_of lists ≡ k.lists
    → map (arrays_in bytes lists) parts ≡ map (λ id. in_effect id before) ids

-- all arrays end within n bytes
abbrev pub are_kept_within : (size : ℕ) → Kept → Bool
are_kept_within size k = list_all (list_all (is_within_by size (λ p. true))) k.lists

-- they still do after an array is kept that does so itself
abbrev pub StaysWithin : Kept → PlacedArray → Kept → Type 0
StaysWithin old a new = (size : ℕ) → are_kept_within size old ≡ true → is_within_by size (λ p. true) a ≡ true → are_kept_within size new ≡ true

-- parts whose arrays exist, and end within any size that all kept arrays end within
abbrev pub AreWithin : Kept → List DictionaryPart → Type 0
AreWithin k parts = (size : ℕ) (lists : List Dictionary) → lists_of lists ≡ k.lists → are_kept_within size k ≡ true → list_all (stands_within size lists) parts ≡ true

abbrev pub batch_of : (id : ℕ) → (is_delta : Bool) → Array → DictionaryBatch
batch_of id is_delta a = record { id = id; is_delta = is_delta; array = a }

-- the arrays that a part of a dictionary knows
abbrev pub known_arrays : List (List PlacedArray) → DictionaryPart → List PlacedArray
known_arrays lists part = take part.count (get_or lists part.number [])

-- the list has all arrays of the part
abbrev pub IsPart : List (List PlacedArray) → DictionaryPart → Type 0
IsPart lists part = part.count ≤ length (get_or lists part.number [])

-- every part that existed still exists, with the same arrays
abbrev pub KeepsParts : List (List PlacedArray) → List (List PlacedArray) → Type 0
KeepsParts old new = (part : DictionaryPart) → IsPart old part → IsPart new part × (known_arrays new part ≡ known_arrays old part)

-- each number refers to a list, and no two ids share one
pub record AreApart (lists : List (List PlacedArray)) (numbers : List CurrentList) : Type 0 where
  pub within : (id n : ℕ) → number_in id numbers ≡ Some n → n < length lists
  pub apart : (i j n : ℕ) → number_in i numbers ≡ Some n → number_in j numbers ≡ Some n → i ≡ j
