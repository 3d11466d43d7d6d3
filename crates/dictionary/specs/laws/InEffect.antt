-- The arrays in effect, batch by batch.
use Rattle.std.specs.Prelude.{◌≡◌, ℕ, List, [], ◌∷◌, ◌++◌, refl}
use Rattle.columns.specs.Array.{Array}
use Rattle.dictionary.specs.InEffect.{DictionaryBatch, after_batch, after_batches, in_effect}

-- after some batches and one more
pub after_more : (id : ℕ) (arrays : List Array) (before : List DictionaryBatch) (b : DictionaryBatch) (batches : List DictionaryBatch)
    → after_batches id arrays (before ++ b ∷ batches) ≡ after_batches id (after_batch id (after_batches id arrays before) b) batches
after_more id arrays [] b batches = refl
after_more id arrays (x ∷ before) b batches = after_more id (after_batch id arrays x) before b batches

pub in_effect_more : (id : ℕ) (before : List DictionaryBatch) (b : DictionaryBatch) → in_effect id (before ++ b ∷ []) ≡ after_batch id (in_effect id before) b
in_effect_more id before b = after_more id [] before b []
