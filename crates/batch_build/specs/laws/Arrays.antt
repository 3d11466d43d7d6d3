-- The array of each type, as what is added to a batch for it.
use Rattle.std.specs.Prelude.{Option, Some, None}
use Rattle.std.proofs.Common.{◌≡◌, ℕ, ◌/◌, Bool, List, [], ◌∷◌, ◌++◌, map, length, refl, ap, sym, ◌∙◌, append_assoc}
use Rattle.std.specs.List.{flat_map}
use Rattle.std.proofs.lemmas.List.{append-nil, length-map}
use Rattle.bitmap.specs.Bits.{packed}
use Rattle.arrow_schema.specs.Column.{Index, Pair, DateKind, TimeKind, Kind, Column, Columns, nulls, booleans, integers, dates, timestamps, texts, large_texts, binaries, large_binaries, fixed_binaries, lists, large_lists, fixed_lists, structs, column}
use Rattle.cells.specs.Cell.{Cell}
use Rattle.cells.specs.Dictionary.{item_list, part_list}
use Rattle.cells.specs.Fit.{date_bits}
use Rattle.columns.specs.Array.{Array}
use Rattle.columns.specs.Buffers.{Node, node_of, column_buffers, typed_dictionaries}
use Rattle.columns.specs.Built.{built, built_kind, is_set, integer_bytes, fixed_bytes, contents_of, offsets_of, list_offsets, fixed_items, validity_of}
use Rattle.columns.specs.Offsets.{width_of}
use Rattle.columns.specs.Tests.{Typed, arrays_at, arrays_below, typed}
use Rattle.columns.specs.declared.numbers.OffsetWidth.{OffsetWidth}
use Rattle.columns.specs.declared.numbers.OffsetWidth.TheVariants.{Four, Eight}
use Rattle.columns.specs.Borrowed.{borrowed_cell}
use Rattle.columns.specs.declared.borrowed.ValueRef.{ValueRef}
use Rattle.batch_build.specs.Batch.{PlainBatch, dictionary_of, with_arrays, plain_column, built_at, built_below}
use Rattle.batch_build.specs.Nodes.{with_node, with_buffer, with_slots, node_of_cells, text_kind, binary_kind, list_kind}
use Rattle.batch_build.specs.laws.Joined.{more_arrays}

abbrev pub with_buffers : PlainBatch → List (List ℕ) → PlainBatch
with_buffers p [] = p
with_buffers p (b ∷ bs) = with_buffers (with_buffer p b) bs

-- the batch with a node, some buffers and nothing else
abbrev added : PlainBatch → Node → List (List ℕ) → PlainBatch
added p node bs = record { nodes = p.nodes ++ node ∷ []; buffers = p.buffers ++ bs; dictionaries = p.dictionaries }

all_added : (p : PlainBatch) (node : Node) (bs cs : List (List ℕ)) → with_buffers (added p node bs) cs ≡ added p node (bs ++ cs)
unfolding with_buffer
all_added p node bs [] = ap (added p node) (sym (append-nil bs))
all_added p node bs (c ∷ cs) =
    ap (λ (xs : List (List ℕ)). with_buffers (record { nodes = p.nodes ++ node ∷ []; buffers = xs; dictionaries = p.dictionaries }) cs) (append_assoc p.buffers bs (c ∷ []))
    ∙ all_added p node (bs ++ c ∷ []) cs ∙ ap (added p node) (append_assoc bs (c ∷ []) cs)

-- an array is its node, its validity bitmap and its other buffers, where it has no dictionary
one_array : (p : PlainBatch) (t : Typed) (cells : List Cell) (bs : List (List ℕ)) → node_of t ≡ node_of_cells cells → column_buffers t.column t.array ≡ validity_of cells ∷ bs
    → typed_dictionaries t ≡ [] → with_buffers (with_slots p cells) bs ≡ with_arrays p (t ∷ [])
unfolding with_arrays with_node with_buffer
one_array p t cells bs node buffers none =
    let ds : p.dictionaries ≡ p.dictionaries ++ map dictionary_of (typed_dictionaries t ++ []) =
    sym (append-nil p.dictionaries) ∙ ap (λ (xs : List Typed). p.dictionaries ++ map dictionary_of xs) (sym (append-nil (typed_dictionaries t) ∙ none)) in
    let bufs : validity_of cells ∷ bs ≡ column_buffers t.column t.array ++ [] = sym (append-nil (column_buffers t.column t.array) ∙ buffers) in
    all_added p (node_of_cells cells) (validity_of cells ∷ []) bs
    ∙ (λ i. record { nodes = p.nodes ++ sym node i ∷ []; buffers = p.buffers ++ bufs i; dictionaries = ds i })

-- an array, and then those below it
and_below : (p : PlainBatch) (t : Typed) (below : List Typed) (q : PlainBatch) → q ≡ with_arrays p (t ∷ []) → with_arrays q below ≡ with_arrays p (t ∷ below)
and_below p t below q h = ap (λ x. with_arrays x below) h ∙ more_arrays p (t ∷ []) below

abbrev own : Kind → List Cell → Typed
own kind cells = typed (plain_column kind None) (built_kind kind cells)

pub nulls_of : (p : PlainBatch) (cells : List Cell) → with_node p (record { slots = length cells; null_count = length cells }) ≡ with_arrays p (built_at (plain_column nulls None) cells)
unfolding with_arrays with_node built built_kind arrays_at arrays_below
nulls_of p cells = λ i. record {
  nodes = p.nodes ++ record { slots = length cells; null_count = length cells } ∷ [];
  buffers = sym (append-nil p.buffers) i;
  dictionaries = sym (append-nil p.dictionaries) i;
}

pub nulls_are : (p : PlainBatch) (cells : List ValueRef)
    → with_node p (record { slots = length cells; null_count = length cells }) ≡ with_arrays p (built_at (plain_column nulls None) (map borrowed_cell cells))
nulls_are p cells =
    ap (λ (n : ℕ). with_node p (record { slots = n; null_count = n })) (sym (length-map cells borrowed_cell)) ∙ nulls_of p (map borrowed_cell cells)

pub booleans_are : (p : PlainBatch) (cells : List Cell) → with_buffer (with_slots p cells) (packed (map is_set cells)) ≡ with_arrays p (built_at (plain_column booleans None) cells)
unfolding built built_kind arrays_at arrays_below
booleans_are p cells = one_array p (own booleans cells) cells (packed (map is_set cells) ∷ []) refl refl refl

pub integers_are : (bits : ℕ) (signed : Bool) (p : PlainBatch) (cells : List Cell)
    → with_buffer (with_slots p cells) (flat_map (integer_bytes (bits / 8)) cells) ≡ with_arrays p (built_at (plain_column (integers bits signed) None) cells)
unfolding built built_kind arrays_at arrays_below
integers_are bits signed p cells = one_array p (own (integers bits signed) cells) cells (flat_map (integer_bytes (bits / 8)) cells ∷ []) refl refl refl

pub dates_are : (unit : DateKind) (p : PlainBatch) (cells : List Cell)
    → with_buffer (with_slots p cells) (flat_map (integer_bytes (date_bits unit / 8)) cells) ≡ with_arrays p (built_at (plain_column (dates unit) None) cells)
unfolding built built_kind arrays_at arrays_below
dates_are unit p cells = one_array p (own (dates unit) cells) cells (flat_map (integer_bytes (date_bits unit / 8)) cells ∷ []) refl refl refl

pub timestamps_are : (unit : TimeKind) (timezone : List ℕ) (p : PlainBatch) (cells : List Cell)
    → with_buffer (with_slots p cells) (flat_map (integer_bytes 8) cells) ≡ with_arrays p (built_at (plain_column (timestamps unit timezone) None) cells)
unfolding built built_kind arrays_at arrays_below
timestamps_are unit timezone p cells = one_array p (own (timestamps unit timezone) cells) cells (flat_map (integer_bytes 8) cells ∷ []) refl refl refl

pub fixed_binaries_are : (width : ℕ) (p : PlainBatch) (cells : List Cell)
    → with_buffer (with_slots p cells) (flat_map (fixed_bytes width) cells) ≡ with_arrays p (built_at (plain_column (fixed_binaries width) None) cells)
unfolding built built_kind arrays_at arrays_below
fixed_binaries_are width p cells = one_array p (own (fixed_binaries width) cells) cells (flat_map (fixed_bytes width) cells ∷ []) refl refl refl

-- a batch with the array of texts or binaries
abbrev pub with_contents : OffsetWidth → PlainBatch → List Cell → PlainBatch
with_contents width p cells =
    with_buffer (with_buffer (with_slots p cells) (offsets_of (width_of width) (map (λ c. length (contents_of c)) cells))) (flat_map contents_of cells)

pub texts_are : (width : OffsetWidth) (p : PlainBatch) (cells : List Cell) → with_contents width p cells ≡ with_arrays p (built_at (plain_column (text_kind width) None) cells)
unfolding built built_kind arrays_at arrays_below
texts_are Four p cells = one_array p (own texts cells) cells (offsets_of 4 (map (λ c. length (contents_of c)) cells) ∷ flat_map contents_of cells ∷ []) refl refl refl
texts_are Eight p cells = one_array p (own large_texts cells) cells (offsets_of 8 (map (λ c. length (contents_of c)) cells) ∷ flat_map contents_of cells ∷ []) refl refl refl

pub binaries_are : (width : OffsetWidth) (p : PlainBatch) (cells : List Cell) → with_contents width p cells ≡ with_arrays p (built_at (plain_column (binary_kind width) None) cells)
unfolding built built_kind arrays_at arrays_below
binaries_are Four p cells = one_array p (own binaries cells) cells (offsets_of 4 (map (λ c. length (contents_of c)) cells) ∷ flat_map contents_of cells ∷ []) refl refl refl
binaries_are Eight p cells = one_array p (own large_binaries cells) cells (offsets_of 8 (map (λ c. length (contents_of c)) cells) ∷ flat_map contents_of cells ∷ []) refl refl refl

-- ---- arrays that have others below them

pub lists_are : (width : OffsetWidth) (item : Column) (p : PlainBatch) (cells : List Cell)
    → with_arrays (with_buffer (with_slots p cells) (list_offsets (width_of width) cells)) (built_at item (flat_map item_list cells))
    ≡ with_arrays p (built_at (plain_column (list_kind width item) None) cells)
unfolding built built_kind arrays_at arrays_below
lists_are Four item p cells = and_below p (own (lists item) cells) _ _ (one_array p (own (lists item) cells) cells (list_offsets 4 cells ∷ []) refl refl refl)
lists_are Eight item p cells = and_below p (own (large_lists item) cells) _ _ (one_array p (own (large_lists item) cells) cells (list_offsets 8 cells ∷ []) refl refl refl)

pub fixed_lists_are : (size : ℕ) (item : Column) (p : PlainBatch) (cells : List Cell)
    → with_arrays (with_slots p cells) (built_at item (flat_map (fixed_items size) cells)) ≡ with_arrays p (built_at (plain_column (fixed_lists size item) None) cells)
unfolding built built_kind arrays_at arrays_below
fixed_lists_are size item p cells = and_below p (own (fixed_lists size item) cells) _ _ (one_array p (own (fixed_lists size item) cells) cells [] refl refl refl)

pub structs_are : (columns : Columns) (p : PlainBatch) (cells : List Cell)
    → with_arrays (with_slots p cells) (built_below columns (map part_list cells)) ≡ with_arrays p (built_at (plain_column (structs columns) None) cells)
unfolding built built_kind arrays_at arrays_below
structs_are columns p cells = and_below p (own (structs columns) cells) _ _ (one_array p (own (structs columns) cells) cells [] refl refl refl)

-- ---- the name of a column, and its pairs, are in no node and no buffer

same_array : (p : PlainBatch) (t u : Typed) → node_of t ≡ node_of u → column_buffers t.column t.array ≡ column_buffers u.column u.array
    → typed_dictionaries t ≡ typed_dictionaries u → (below : List Typed) → with_arrays p (t ∷ below) ≡ with_arrays p (u ∷ below)
unfolding with_arrays
same_array p t u node buffers ds below = λ i. record {
  nodes = p.nodes ++ node i ∷ map node_of below;
  buffers = p.buffers ++ (buffers i ++ flat_map (λ x. column_buffers x.column x.array) below);
  dictionaries = p.dictionaries ++ map dictionary_of (ds i ++ flat_map typed_dictionaries below);
}

same_node : (name : List ℕ) (nullable : Bool) (kind : Kind) (dictionary : Option Index) (pairs : List Pair) (a : Array)
    → node_of (typed (column name nullable kind dictionary pairs) a) ≡ node_of (typed (plain_column kind dictionary) a)
same_node name nullable nulls None pairs a = refl
same_node name nullable nulls (Some index) pairs a = refl
same_node name nullable _ dictionary pairs a = refl

pub any_name : (p : PlainBatch) (name : List ℕ) (nullable : Bool) (kind : Kind) (dictionary : Option Index) (pairs : List Pair) (cells : List Cell)
    → with_arrays p (built_at (plain_column kind dictionary) cells) ≡ with_arrays p (built_at (column name nullable kind dictionary pairs) cells)
unfolding built arrays_at
any_name p name nullable kind None pairs cells = same_array p _ _ (sym (same_node name nullable kind None pairs (built_kind kind cells))) refl refl _
any_name p name nullable kind (Some index) pairs cells =
    same_array p _ _ (sym (same_node name nullable kind (Some index) pairs (built (column name nullable kind (Some index) pairs) cells))) refl refl []
