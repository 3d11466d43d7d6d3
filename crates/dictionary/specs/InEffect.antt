-- The arrays of a dictionary after some dictionary batches (Arrow columnar format, "Dictionary Messages"): a batch that is no delta begins it anew,
-- and a delta is appended. Its entries are those of these arrays, one after another.
use Rattle.std.specs.Prelude.{ℕ, Bool, not, ◌&&◌, ◌==◌, List, [], ◌∷◌, ◌++◌, if◌then◌else◌}
use Rattle.columns.specs.Array.{Array}

-- a dictionary batch that was read: the id of its dictionary, whether it is a delta, and the array of its values
pub record DictionaryBatch : Type 0 where
  pub id : ℕ
  pub is_delta : Bool
  pub array : Array

abbrev pub has_id : ℕ → DictionaryBatch → Bool
has_id id b = b.id == id

-- the batch begins the dictionary of this id anew
abbrev pub replaces : ℕ → DictionaryBatch → Bool
replaces id b = has_id id b && not b.is_delta

-- the arrays of an id after one more batch
abbrev pub after_batch : ℕ → List Array → DictionaryBatch → List Array
after_batch id arrays b = if has_id id b then (if b.is_delta then arrays ++ b.array ∷ [] else b.array ∷ []) else arrays

-- and after several more, in order
abbrev pub after_batches : ℕ → List Array → List DictionaryBatch → List Array
after_batches id arrays [] = arrays
after_batches id arrays (b ∷ batches) = after_batches id (after_batch id arrays b) batches

-- before its first batch an id has no arrays
abbrev pub in_effect : ℕ → List DictionaryBatch → List Array
in_effect id batches = after_batches id [] batches
