-- Batches that were read stay as they are where dictionaries are added, and where bytes follow.
use Rattle.std.specs.Prelude.{◌&&◌, nat_le}
use Rattle.std.specs.List.{list_all}
use Rattle.std.proofs.Common.{◌≡◌, ℕ, ◌≤◌, true, List, [], ◌∷◌, ◌++◌, map, length, take, refl, ap, ◌∙◌}
use Rattle.std.proofs.lemmas.Bool.{and_parts, and_from, leb-true, le-leb}
use Rattle.arrow_schema.specs.Column.{Columns}
use Rattle.columns.specs.Array.{arrays_of}
use Rattle.columns.specs.CellAt.{rows_in}
use Rattle.columns.specs.Sound.{are_sound}
use Rattle.columns.specs.View.{array_in, arrays_in, arrays_numbered, placed_arrays}
use Rattle.columns.specs.Within.{is_within_by, stands_within, is_placed_within}
use Rattle.columns.specs.declared.array.Dictionary.{Dictionary}
use Rattle.columns.specs.declared.array.DictionaryPart.{DictionaryPart}
use Rattle.columns.specs.declared.array.PlacedArray.{PlacedArray}
use Rattle.columns.specs.laws.Grown.{array_grown}
use Rattle.columns.specs.laws.Longer.{within_more}
use Rattle.dictionary.specs.Kept.{lists_of, KeepsParts}
use Rattle.values.specs.declared.table_part.Batch.{Batch}
use Rattle.ipc_stream.specs.Progress.{placed_rows, are_batches_sound, are_batches_within}

-- ---- arrays

all_arrays_stay : (bytes more : List ℕ) (old new : List Dictionary) (arrays : List PlacedArray) → KeepsParts (lists_of old) (lists_of new)
    → list_all (is_placed_within (length bytes) old) arrays ≡ true
    → map (array_in (bytes ++ more) (arrays_in (bytes ++ more) new)) arrays ≡ map (array_in bytes (arrays_in bytes old)) arrays
all_arrays_stay bytes more old new [] keeps end = refl
all_arrays_stay bytes more old new (a ∷ arrays) keeps end =
    let parts = and_parts (is_placed_within (length bytes) old a) (list_all (is_placed_within (length bytes) old) arrays) end in
    λ j. array_grown bytes more old new a (λ part there. (keeps part there).1) parts.0 j ∷ all_arrays_stay bytes more old new arrays keeps parts.1 j

arrays_stay : (bytes more : List ℕ) (old new : List Dictionary) (arrays : List PlacedArray) → KeepsParts (lists_of old) (lists_of new)
    → list_all (is_placed_within (length bytes) old) arrays ≡ true → placed_arrays (bytes ++ more) new arrays ≡ placed_arrays bytes old arrays
arrays_stay bytes more old new arrays keeps end = ap arrays_of (all_arrays_stay bytes more old new arrays keeps end)

plain_ends : (size larger : ℕ) → size ≤ larger → (a : PlacedArray) → is_within_by size (λ p. true) a ≡ true → is_within_by larger (λ p. true) a ≡ true
plain_ends size larger le a ends = within_more size larger le (λ p. true) (λ p. true) (λ part stands. refl) a ends

pub plains_end : (size larger : ℕ) → size ≤ larger → (arrays : List PlacedArray) → list_all (is_within_by size (λ p. true)) arrays ≡ true
    → list_all (is_within_by larger (λ p. true)) arrays ≡ true
plains_end size larger le [] end = refl
plains_end size larger le (a ∷ arrays) end =
    let parts = and_parts (is_within_by size (λ p. true) a) (list_all (is_within_by size (λ p. true)) arrays) end in
    and_from _ _ (plain_ends size larger le a parts.0) (plains_end size larger le arrays parts.1)

part_stays : (size larger : ℕ) (old new : List Dictionary) (part : DictionaryPart) → size ≤ larger → KeepsParts (lists_of old) (lists_of new)
    → stands_within size old part ≡ true → stands_within larger new part ≡ true
part_stays size larger old new part le keeps stands =
    let parts = and_parts (nat_le part.count (length (arrays_numbered old part.number))) _ stands in
    let kept = keeps part (leb-true part.count (length (arrays_numbered old part.number)) parts.0) in
    and_from (nat_le part.count (length (arrays_numbered new part.number))) _ (le-leb part.count (length (arrays_numbered new part.number)) kept.0)
    (ap (list_all (is_within_by larger (λ p. true))) kept.1 ∙ plains_end size larger le (take part.count (arrays_numbered old part.number)) parts.1)

array_ends : (size larger : ℕ) (old new : List Dictionary) (a : PlacedArray) → size ≤ larger → KeepsParts (lists_of old) (lists_of new)
    → is_placed_within size old a ≡ true → is_placed_within larger new a ≡ true
array_ends size larger old new a le keeps ends =
    within_more size larger le (stands_within size old) (stands_within larger new) (λ part stands. part_stays size larger old new part le keeps stands) a ends

arrays_end : (size larger : ℕ) (old new : List Dictionary) (arrays : List PlacedArray) → size ≤ larger → KeepsParts (lists_of old) (lists_of new)
    → list_all (is_placed_within size old) arrays ≡ true → list_all (is_placed_within larger new) arrays ≡ true
arrays_end size larger old new [] le keeps end = refl
arrays_end size larger old new (a ∷ arrays) le keeps end =
    let parts = and_parts (is_placed_within size old a) (list_all (is_placed_within size old) arrays) end in
    and_from _ _ (array_ends size larger old new a le keeps parts.0) (arrays_end size larger old new arrays le keeps parts.1)

-- ---- batches

pub batches_end : (size larger : ℕ) (old new : List Dictionary) (batches : List Batch) → size ≤ larger → KeepsParts (lists_of old) (lists_of new)
    → are_batches_within size old batches ≡ true → are_batches_within larger new batches ≡ true
batches_end size larger old new [] le keeps end = refl
batches_end size larger old new (b ∷ batches) le keeps end =
    let parts = and_parts (list_all (is_placed_within size old) b.arrays.items) (are_batches_within size old batches) end in
    and_from _ _ (arrays_end size larger old new b.arrays.items le keeps parts.0) (batches_end size larger old new batches le keeps parts.1)

pub batches_stay_sound : (columns : Columns) (bytes more : List ℕ) (old new : List Dictionary) (batches : List Batch) → KeepsParts (lists_of old) (lists_of new)
    → are_batches_within (length bytes) old batches ≡ true → are_batches_sound columns (bytes ++ more) new batches ≡ are_batches_sound columns bytes old batches
batches_stay_sound columns bytes more old new [] keeps end = refl
batches_stay_sound columns bytes more old new (b ∷ batches) keeps end =
    let parts = and_parts (list_all (is_placed_within (length bytes) old) b.arrays.items) (are_batches_within (length bytes) old batches) end in
    λ j. are_sound columns b.rows (arrays_stay bytes more old new b.arrays.items keeps parts.0 j) && batches_stay_sound columns bytes more old new batches keeps parts.1 j

pub batches_keep_rows : (columns : Columns) (bytes more : List ℕ) (old new : List Dictionary) (batches : List Batch) → KeepsParts (lists_of old) (lists_of new)
    → are_batches_within (length bytes) old batches ≡ true → placed_rows columns (bytes ++ more) new batches ≡ placed_rows columns bytes old batches
batches_keep_rows columns bytes more old new [] keeps end = refl
batches_keep_rows columns bytes more old new (b ∷ batches) keeps end =
    let parts = and_parts (list_all (is_placed_within (length bytes) old) b.arrays.items) (are_batches_within (length bytes) old batches) end in
    λ j. rows_in columns (arrays_stay bytes more old new b.arrays.items keeps parts.0 j) b.rows ++ batches_keep_rows columns bytes more old new batches keeps parts.1 j
