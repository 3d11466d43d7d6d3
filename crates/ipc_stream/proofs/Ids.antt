-- The ids of columns with dictionaries that have values too.
use Rattle.std.proofs.Common.{◌≡◌, ℕ, ◌<◌, ◌≤◌, List, [], ◌∷◌, length, map, take, refl, ap, arith}
use Rattle.arrow_schema.specs.View.{column_of}
use Rattle.arrow_schema.specs.declared.types.Field.{Field}
use Rattle.dictionary.specs.InEffect.{DictionaryBatch, in_effect}
use Rattle.arrays.specs.Dictionaries.{dictionaries_after}
use Rattle.arrays.specs.DictionaryColumns.{columns_with}

pub all_values : (ids : List ℕ) (values : List Field) (before : List DictionaryBatch) → length values < length ids
    → map (λ id. in_effect id before) (take (length values) ids) ≡ dictionaries_after before (columns_with ids (map column_of values))
all_values [] [] before h = refl
all_values [] (f ∷ values) before h = absurd (omega (arith, h))
all_values (id ∷ ids) [] before h = refl
all_values (id ∷ ids) (f ∷ values) before h = ap (λ arrays. in_effect id before ∷ arrays) (all_values ids values before (omega (arith, h)))

pub all_ids : (ids : List ℕ) (values : List Field) (before : List DictionaryBatch) → length ids ≤ length values
    → map (λ id. in_effect id before) (take (length ids) ids) ≡ dictionaries_after before (columns_with ids (map column_of values))
all_ids [] [] before h = refl
all_ids [] (f ∷ values) before h = refl
all_ids (id ∷ ids) [] before h = absurd (omega (arith, h))
all_ids (id ∷ ids) (f ∷ values) before h = ap (λ arrays. in_effect id before ∷ arrays) (all_ids ids values before (omega (arith, h)))
