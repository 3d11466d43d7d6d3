-- What a column and those after it take.
use Rattle.std.specs.List.{flat_map}
use Rattle.std.proofs.Common.{◌≡◌, ◌+◌, ◌∷◌, ℕ, List, map, drop, length, length-append, ap, arith, ◌∙◌}
use Rattle.std.proofs.lemmas.Grind.{flat_map-append}
use Rattle.arrow_schema.specs.declared.types.Field.{Field}
use Rattle.arrow_schema.specs.Column.{Column, Columns, and_column, columns_of}
use Rattle.arrow_schema.specs.View.{column_of}
use Rattle.columns.specs.Array.{no_array, empty_array}
use Rattle.columns.specs.Tests.{Typed, arrays_at, every_array}
use Rattle.columns.specs.Buffers.{column_buffers}
use Rattle.columns.specs.FromBuffers.{node_count, buffer_count, dictionary_count, own_index}
use Rattle.arrays.specs.inner.Counted.{capped, buffers_among, dictionaries_among}

pub next_nodes : (c : Column) (cs : Columns) → length (every_array (and_column c cs) no_array) ≡ node_count c + length (every_array cs no_array)
unfolding every_array
next_nodes c cs = length-append (arrays_at c empty_array) (every_array cs no_array)

pub next_buffers : (c : Column) (cs : Columns) → buffers_among (every_array (and_column c cs) no_array) ≡ buffer_count c + buffers_among (every_array cs no_array)
unfolding every_array
next_buffers c cs =
    ap length (flat_map-append (λ (t : Typed). column_buffers t.column t.array) (arrays_at c empty_array) (every_array cs no_array))
    ∙ length-append (flat_map (λ (t : Typed). column_buffers t.column t.array) (arrays_at c empty_array)) (flat_map (λ (t : Typed). column_buffers t.column t.array) (every_array cs no_array))

pub next_dictionaries : (c : Column) (cs : Columns) → dictionaries_among (every_array (and_column c cs) no_array) ≡ dictionary_count c + dictionaries_among (every_array cs no_array)
unfolding every_array
next_dictionaries c cs =
    ap length (flat_map-append (λ (t : Typed). own_index t.column) (arrays_at c empty_array) (every_array cs no_array))
    ∙ length-append (flat_map (λ (t : Typed). own_index t.column) (arrays_at c empty_array)) (flat_map (λ (t : Typed). own_index t.column) (every_array cs no_array))

-- ---- a field that is gone through

pub field_nodes : (fs : List Field) (i : ℕ) (f : Field) → drop i fs ≡ f ∷ drop (i + 1) fs
    → length (every_array (columns_of (map column_of (drop i fs))) no_array) ≡ node_count (column_of f) + length (every_array (columns_of (map column_of (drop (i + 1) fs))) no_array)
field_nodes fs i f item =
    ap (λ (gs : List Field). length (every_array (columns_of (map column_of gs)) no_array)) item ∙ next_nodes (column_of f) (columns_of (map column_of (drop (i + 1) fs)))

pub field_buffers : (fs : List Field) (i : ℕ) (f : Field) → drop i fs ≡ f ∷ drop (i + 1) fs
    → buffers_among (every_array (columns_of (map column_of (drop i fs))) no_array) ≡ buffer_count (column_of f) + buffers_among (every_array (columns_of (map column_of (drop (i + 1) fs))) no_array)
field_buffers fs i f item =
    ap (λ (gs : List Field). buffers_among (every_array (columns_of (map column_of gs)) no_array)) item ∙ next_buffers (column_of f) (columns_of (map column_of (drop (i + 1) fs)))

pub field_dictionaries : (fs : List Field) (i : ℕ) (f : Field) → drop i fs ≡ f ∷ drop (i + 1) fs
    → dictionaries_among (every_array (columns_of (map column_of (drop i fs))) no_array)
    ≡ dictionary_count (column_of f) + dictionaries_among (every_array (columns_of (map column_of (drop (i + 1) fs))) no_array)
field_dictionaries fs i f item =
    ap (λ (gs : List Field). dictionaries_among (every_array (columns_of (map column_of gs)) no_array)) item ∙ next_dictionaries (column_of f) (columns_of (map column_of (drop (i + 1) fs)))

-- the sum so far, and what is left
pub next_counted : (whole total before part left own new : ℕ) → capped (total + before) ≡ whole → before ≡ part + left → own ≡ capped part → new ≡ capped (total + own)
    → (capped (new + left) ≡ whole) × (new ≡ capped new)
next_counted whole total before part left own new sums more is total_is = (omega (arith, sums, more, is, total_is), omega (arith, total_is))
