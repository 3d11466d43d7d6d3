-- The messages that are written stand at the front of what follows them, with the headers that were written.
use Rattle.std.specs.Prelude.{sum_by}
use Rattle.std.proofs.Common.{◌≡◌, ℕ, Bool, ◌+◌, ◌-◌, ◌%◌, ◌*◌, ◌^◌, ◌<◌, ◌≤◌, List, [], ◌∷◌, ◌++◌, map, length, drop, replicate, Some, None, Ok, refl, arith, sym, ap, ◌∙◌, length-append}
use Rattle.std.proofs.lemmas.List.{length-map}
use Rattle.std.proofs.lemmas.List.Sums.{sum_by-cons, sum_by-append}
use Rattle.std.proofs.Math.Seq.{drop-append_seam}
use Rattle.byteorder.specs.Endian.{little_bytes}
use Rattle.byteorder.specs.Numbers.{length-bytes_low_first}
use Rattle.flatbuf.specs.Lookup.{target}
use Rattle.flatbuf.specs.Tree.{Tree}
use Rattle.flatbuf.specs.Held.{Has, Fits, FitsStructs}
use Rattle.flatbuf.specs.Laid.{metadata, start, laid, gap}
use Rattle.arrow_schema.specs.Column.{Kind, Column, Columns, nulls, booleans, integers, dates, timestamps, texts, large_texts, binaries, large_binaries, fixed_binaries, lists, large_lists, fixed_lists, structs, column, no_column, and_column, columns_of, PlainSchema}
use Rattle.arrow_schema.specs.Limits.{IsWithinLimits, pairs_in}
use Rattle.arrow_schema.specs.Preorder.{preorder, preorder_below, preorder_all, every_column}
use Rattle.ipc_message.specs.declared.header_type.TheConstants.{SCHEMA, DICTIONARY_BATCH, RECORD_BATCH}
use Rattle.ipc_message.specs.Framing.{continuation_marker, message, next_message, taken, type_of}
use Rattle.ipc_message.specs.Raw.{RawNode, schema_header, dictionary_header, batch_header}
use Rattle.ipc_message.specs.Header.{header}
use Rattle.ipc_write.specs.declared.contents.TheConstants.{MAX_BATCH_BUFFERS}
use Rattle.ipc_write.specs.Decoded.{raw_schema}
use Rattle.ipc_write.specs.Trees.{schema_tree, dictionary_tree, batch_tree, message_tree, node_pair, buffer_pair}
use Rattle.ipc_write.specs.Walked.{HoldsTimes, type_tables, tables_of, tables_below, tables_of_all, IsHeaderType}
use Rattle.ipc_write.specs.Written.{framed, envelope, message_bytes, padded, body, placed, batch_of, dictionary_batch_of, schema_message, dictionary_message, batch_message, schema_envelope, dictionary_envelope, batch_envelope, IsWritableBatch}
use Rattle.ipc_write.specs.laws.Written.{length-placed}
use Rattle.ipc_write.proofs.Room.{Sizes, schema_fits, batch_fits, batch_room, dictionary_batch_fits, dictionary_batch_room}
use Rattle.ipc_write.proofs.MessageRead.{NextMessages, next_message_again, type_read}
use Rattle.ipc_write.proofs.HeaderRead.{schema_header_read, dictionary_header_read, batch_header_read}

-- written metadata has its root, as flatbuf tells it
abbrev pub Roots : Type 0
Roots = (t : Tree) → length (metadata t) < 2 ^ 31 → Fits t → Has (metadata t) (target (metadata t) 0) t

-- ---- lengths

four_more : (size rest : List ℕ) → length size ≡ 4 → 4 ≤ length (size ++ rest)
four_more size rest four = omega (arith, length-append size rest, four)

long_metadata : (t : Tree) → 4 ≤ length (metadata t)
unfolding metadata
long_metadata t = four_more (little_bytes 4 (start 4 t)) (laid 4 t ++ replicate (gap 8 (4 + length (laid 4 t))) 0) (length-bytes_low_first 0 4 (start 4 t))

length_sized : (size m b : List ℕ) → length size ≡ 4 → length (continuation_marker ++ (size ++ (m ++ b))) ≡ 8 + length m + length b
length_sized size m b four = omega (arith, four, length-append size (m ++ b), length-append m b)

length_framed : (m b : List ℕ) → length (framed m b) ≡ 8 + length m + length b
length_framed m b = length_sized (little_bytes 4 (length m)) m b (length-bytes_low_first 0 4 (length m))

-- ---- any message

-- what a message needs to be read again
pub record IsReadable (type : ℕ) (tree : Tree) (b : List ℕ) : Type 0 where
  pub fits : Fits (message_tree type tree (length b))
  pub small : length (envelope type tree b).metadata ≤ 16777216
  pub short : length b < 2 ^ 63

has : Roots → (type : ℕ) (tree : Tree) (b : List ℕ) → IsReadable type tree b → Has (envelope type tree b).metadata (target (envelope type tree b).metadata 0) (message_tree type tree (length b))
has roots type tree b good = roots (message_tree type tree (length b)) (omega (arith, good.small)) good.fits

stands : Roots → NextMessages → (type : ℕ) (tree : Tree) (b rest : List ℕ) → IsHeaderType type → IsReadable type tree b → next_message (message_bytes type tree b ++ rest) ≡ Ok (message (envelope type tree b))
stands roots next_messages type tree b rest known good =
    next_message_again next_messages (envelope type tree b).metadata b rest type tree known (long_metadata (message_tree type tree (length b))) good.small good.short (has roots type tree b good)

type_again : Roots → (type : ℕ) (tree : Tree) (b : List ℕ) → IsReadable type tree b → type_of (envelope type tree b).metadata ≡ type
type_again roots type tree b good = type_read (envelope type tree b).metadata type (length b) tree (has roots type tree b good)

after : (type : ℕ) (tree : Tree) (b rest : List ℕ) → drop (taken (message (envelope type tree b))) (message_bytes type tree b ++ rest) ≡ rest
after type tree b rest =
    ap (λ (n : ℕ). drop n (message_bytes type tree b ++ rest)) (sym (length_framed (envelope type tree b).metadata b)) ∙ drop-append_seam (message_bytes type tree b) rest

-- ---- the schema

schema_written : (s : PlainSchema) → schema_message s ≡ message_bytes SCHEMA (schema_tree s) []
unfolding schema_message
schema_written s = refl

schema_readable : (s : PlainSchema) → IsWithinLimits s → length (schema_envelope s).metadata ≤ 16777216 → IsReadable SCHEMA (schema_tree s) []
schema_readable s limits small = record { fits = schema_fits s limits; small = small; short = omega arith }

pub schema_short : (s : PlainSchema) → length (schema_envelope s).metadata ≤ 16777216 → length (schema_message s) < 2 ^ 32
unfolding schema_message
schema_short s small = omega (arith, small, length_framed (schema_envelope s).metadata [])

pub schema_next_message : Roots → NextMessages → (s : PlainSchema) (rest : List ℕ) → IsWithinLimits s → length (schema_envelope s).metadata ≤ 16777216 → next_message (schema_message s ++ rest) ≡ Ok (message (schema_envelope s))
schema_next_message roots next_messages s rest limits small =
    ap (λ (bytes : List ℕ). next_message (bytes ++ rest)) (schema_written s)
    ∙ stands roots next_messages SCHEMA (schema_tree s) [] rest refl (schema_readable s limits small)

pub schema_type : Roots → (s : PlainSchema) → IsWithinLimits s → length (schema_envelope s).metadata ≤ 16777216 → type_of (schema_envelope s).metadata ≡ SCHEMA
schema_type roots s limits small = type_again roots SCHEMA (schema_tree s) [] (schema_readable s limits small)

pub schema_after : (s : PlainSchema) (rest : List ℕ) → drop (taken (message (schema_envelope s))) (schema_message s ++ rest) ≡ rest
schema_after s rest = ap (λ (bytes : List ℕ). drop (taken (message (schema_envelope s))) (bytes ++ rest)) (schema_written s) ∙ after SCHEMA (schema_tree s) [] rest

-- the tables that are entered for a column without its children, at most
abbrev own_tables : Column → ℕ
own_tables c = 4 + pairs_in c

type_tables_few : (kind : Kind) → type_tables kind ≤ 1
type_tables_few nulls = omega arith
type_tables_few booleans = omega arith
type_tables_few (integers bits signed) = omega arith
type_tables_few (dates unit) = omega arith
type_tables_few (timestamps unit timezone) = omega arith
type_tables_few texts = omega arith
type_tables_few large_texts = omega arith
type_tables_few binaries = omega arith
type_tables_few large_binaries = omega arith
type_tables_few (fixed_binaries width) = omega arith
type_tables_few (lists item) = omega arith
type_tables_few (large_lists item) = omega arith
type_tables_few (fixed_lists size item) = omega arith
type_tables_few (structs parts) = omega arith

mutual
  unfolding preorder preorder_below preorder_all

  tables_few : (c : Column) → tables_of c ≤ sum_by own_tables (preorder c)
  tables_few (column name nullable kind None pairs) =
      omega (arith, sum_by-cons own_tables (column name nullable kind None pairs) (preorder_below kind), type_tables_few kind, tables_few_below kind)
  tables_few (column name nullable kind (Some index) pairs) =
      omega (arith, sum_by-cons own_tables (column name nullable kind (Some index) pairs) (preorder_below kind), type_tables_few kind, tables_few_below kind)

  tables_few_below : (kind : Kind) → tables_below kind ≤ sum_by own_tables (preorder_below kind)
  tables_few_below nulls = omega arith
  tables_few_below booleans = omega arith
  tables_few_below (integers bits signed) = omega arith
  tables_few_below (dates unit) = omega arith
  tables_few_below (timestamps unit timezone) = omega arith
  tables_few_below texts = omega arith
  tables_few_below large_texts = omega arith
  tables_few_below binaries = omega arith
  tables_few_below large_binaries = omega arith
  tables_few_below (fixed_binaries width) = omega arith
  tables_few_below (lists item) = tables_few item
  tables_few_below (large_lists item) = tables_few item
  tables_few_below (fixed_lists size item) = tables_few item
  tables_few_below (structs parts) = tables_few_all parts

  tables_few_all : (cs : Columns) → tables_of_all cs ≤ sum_by own_tables (preorder_all cs)
  tables_few_all no_column = omega arith
  tables_few_all (and_column c cs) = omega (arith, tables_few c, tables_few_all cs, sum_by-append own_tables (preorder c) (preorder_all cs))

all_tables : (cs : List Column) → sum_by own_tables cs ≡ 4 * length cs + sum_by pairs_in cs
all_tables [] = omega arith
all_tables (c ∷ cs) = omega (arith, all_tables cs, sum_by-cons own_tables c cs, sum_by-cons pairs_in c cs)

pub schema_read_again : Roots → (supported : ℕ → Bool) (s : PlainSchema) → HoldsTimes supported → IsWithinLimits s → length (schema_envelope s).metadata ≤ 16777216
    → header supported (schema_envelope s).metadata ≡ Ok (schema_header (raw_schema s))
schema_read_again roots supported s holds limits small =
    let tables = tables_few_all (columns_of s.columns) in
    let all = all_tables (every_column s) in
    schema_header_read supported (schema_envelope s).metadata 0 s holds (omega (arith, limits.levels)) (omega (arith, tables, all, limits.fields, limits.pairs)) (has roots SCHEMA (schema_tree s) [] (schema_readable s limits small))

-- ---- batches

placed_fit : (at : ℕ) (buffers : List (List ℕ)) → at + length (body buffers) < 2 ^ 64 → FitsStructs (map buffer_pair (placed at buffers))
placed_fit at [] small = tt
placed_fit at (b ∷ bs) small =
    let whole = length-append (padded b) (body bs) in
    let filled = length-append b (replicate ((8 - length b % 8) % 8) 0) in
    (omega (arith, small, whole), omega (arith, small, whole, filled), placed_fit (at + length (padded b)) bs (omega (arith, small, whole)))

buffers_fit : (rows : ℕ) (nodes : List RawNode) (buffers : List (List ℕ)) → IsWritableBatch rows nodes buffers → FitsStructs (map buffer_pair (placed 0 buffers))
buffers_fit rows nodes buffers fits = placed_fit 0 buffers (omega (arith, fits.room.short_body))

few_ranges : (buffers : List (List ℕ)) → length buffers ≤ MAX_BATCH_BUFFERS → length (map buffer_pair (placed 0 buffers)) ≤ MAX_BATCH_BUFFERS
few_ranges buffers few = omega (arith, few, length-map (placed 0 buffers) buffer_pair, length-placed 0 buffers)

-- ---- a record batch

batch_written : (rows : ℕ) (nodes : List RawNode) (buffers : List (List ℕ)) → batch_message rows nodes buffers ≡ message_bytes RECORD_BATCH (batch_tree (batch_of rows nodes buffers)) (body buffers)
unfolding batch_message
batch_written rows nodes buffers = refl

pub batch_small : Sizes → (rows : ℕ) (nodes : List RawNode) (buffers : List (List ℕ)) → IsWritableBatch rows nodes buffers → length (batch_envelope rows nodes buffers).metadata ≤ 16777216
batch_small size rows nodes buffers fits =
    let room = batch_room size rows (length (body buffers)) (map node_pair nodes) (map buffer_pair (placed 0 buffers)) in
    omega (arith, room, length-map nodes node_pair, few_ranges buffers fits.room.few_buffers, fits.room.few_nodes)

pub batch_tree_fits : (rows : ℕ) (nodes : List RawNode) (buffers : List (List ℕ)) → IsWritableBatch rows nodes buffers → Fits (message_tree RECORD_BATCH (batch_tree (batch_of rows nodes buffers)) (length (body buffers)))
batch_tree_fits rows nodes buffers fits =
    batch_fits rows (length (body buffers)) (map node_pair nodes) (map buffer_pair (placed 0 buffers)) fits.rows_fit (omega (arith, fits.room.short_body)) fits.nodes_fit (buffers_fit rows nodes buffers fits)

batch_readable : (rows : ℕ) (nodes : List RawNode) (buffers : List (List ℕ)) → IsWritableBatch rows nodes buffers → length (batch_envelope rows nodes buffers).metadata ≤ 16777216
    → IsReadable RECORD_BATCH (batch_tree (batch_of rows nodes buffers)) (body buffers)
batch_readable rows nodes buffers fits small = record { fits = batch_tree_fits rows nodes buffers fits; small = small; short = omega (arith, fits.room.short_body) }

pub batch_next_message : Roots → NextMessages → (rows : ℕ) (nodes : List RawNode) (buffers : List (List ℕ)) (rest : List ℕ) → IsWritableBatch rows nodes buffers → length (batch_envelope rows nodes buffers).metadata ≤ 16777216
    → next_message (batch_message rows nodes buffers ++ rest) ≡ Ok (message (batch_envelope rows nodes buffers))
batch_next_message roots next_messages rows nodes buffers rest fits small =
    ap (λ (bytes : List ℕ). next_message (bytes ++ rest)) (batch_written rows nodes buffers)
    ∙ stands roots next_messages RECORD_BATCH (batch_tree (batch_of rows nodes buffers)) (body buffers) rest refl (batch_readable rows nodes buffers fits small)

pub batch_type : Roots → (rows : ℕ) (nodes : List RawNode) (buffers : List (List ℕ)) → IsWritableBatch rows nodes buffers → length (batch_envelope rows nodes buffers).metadata ≤ 16777216 → type_of (batch_envelope rows nodes buffers).metadata ≡ RECORD_BATCH
batch_type roots rows nodes buffers fits small = type_again roots RECORD_BATCH (batch_tree (batch_of rows nodes buffers)) (body buffers) (batch_readable rows nodes buffers fits small)

pub batch_read_again : Roots → (supported : ℕ → Bool) (rows : ℕ) (nodes : List RawNode) (buffers : List (List ℕ)) → IsWritableBatch rows nodes buffers → length (batch_envelope rows nodes buffers).metadata ≤ 16777216
    → header supported (batch_envelope rows nodes buffers).metadata ≡ Ok (batch_header (batch_of rows nodes buffers))
batch_read_again roots supported rows nodes buffers fits small =
    batch_header_read supported (batch_envelope rows nodes buffers).metadata (length (body buffers)) (batch_of rows nodes buffers) refl fits.nodes_fit (buffers_fit rows nodes buffers fits)
    (has roots RECORD_BATCH (batch_tree (batch_of rows nodes buffers)) (body buffers) (batch_readable rows nodes buffers fits small))

pub batch_after : (rows : ℕ) (nodes : List RawNode) (buffers : List (List ℕ)) (rest : List ℕ) → drop (taken (message (batch_envelope rows nodes buffers))) (batch_message rows nodes buffers ++ rest) ≡ rest
batch_after rows nodes buffers rest =
    ap (λ (bytes : List ℕ). drop (taken (message (batch_envelope rows nodes buffers))) (bytes ++ rest)) (batch_written rows nodes buffers)
    ∙ after RECORD_BATCH (batch_tree (batch_of rows nodes buffers)) (body buffers) rest

-- ---- a dictionary batch

dictionary_written : (id : ℕ) (is_delta : Bool) (rows : ℕ) (nodes : List RawNode) (buffers : List (List ℕ))
    → dictionary_message id is_delta rows nodes buffers ≡ message_bytes DICTIONARY_BATCH (dictionary_tree (dictionary_batch_of id is_delta rows nodes buffers)) (body buffers)
unfolding dictionary_message
dictionary_written id is_delta rows nodes buffers = refl

pub dictionary_small : Sizes → (id : ℕ) (is_delta : Bool) (rows : ℕ) (nodes : List RawNode) (buffers : List (List ℕ)) → IsWritableBatch rows nodes buffers → length (dictionary_envelope id is_delta rows nodes buffers).metadata ≤ 16777216
dictionary_small size id is_delta rows nodes buffers fits =
    let room = dictionary_batch_room size id is_delta rows (length (body buffers)) (map node_pair nodes) (map buffer_pair (placed 0 buffers)) in
    omega (arith, room, length-map nodes node_pair, few_ranges buffers fits.room.few_buffers, fits.room.few_nodes)

pub dictionary_tree_fits : (id : ℕ) (is_delta : Bool) (rows : ℕ) (nodes : List RawNode) (buffers : List (List ℕ)) → id < 2 ^ 64 → IsWritableBatch rows nodes buffers
    → Fits (message_tree DICTIONARY_BATCH (dictionary_tree (dictionary_batch_of id is_delta rows nodes buffers)) (length (body buffers)))
dictionary_tree_fits id is_delta rows nodes buffers known fits =
    dictionary_batch_fits id is_delta rows (length (body buffers)) (map node_pair nodes) (map buffer_pair (placed 0 buffers)) known fits.rows_fit (omega (arith, fits.room.short_body)) fits.nodes_fit (buffers_fit rows nodes buffers fits)

dictionary_readable : (id : ℕ) (is_delta : Bool) (rows : ℕ) (nodes : List RawNode) (buffers : List (List ℕ)) → id < 2 ^ 64 → IsWritableBatch rows nodes buffers
    → length (dictionary_envelope id is_delta rows nodes buffers).metadata ≤ 16777216 → IsReadable DICTIONARY_BATCH (dictionary_tree (dictionary_batch_of id is_delta rows nodes buffers)) (body buffers)
dictionary_readable id is_delta rows nodes buffers known fits small =
    record { fits = dictionary_tree_fits id is_delta rows nodes buffers known fits; small = small; short = omega (arith, fits.room.short_body) }

pub dictionary_next_message : Roots → NextMessages → (id : ℕ) (is_delta : Bool) (rows : ℕ) (nodes : List RawNode) (buffers : List (List ℕ)) (rest : List ℕ) → id < 2 ^ 64 → IsWritableBatch rows nodes buffers
    → length (dictionary_envelope id is_delta rows nodes buffers).metadata ≤ 16777216 → next_message (dictionary_message id is_delta rows nodes buffers ++ rest) ≡ Ok (message (dictionary_envelope id is_delta rows nodes buffers))
dictionary_next_message roots next_messages id is_delta rows nodes buffers rest known fits small =
    ap (λ (bytes : List ℕ). next_message (bytes ++ rest)) (dictionary_written id is_delta rows nodes buffers)
    ∙ stands roots next_messages DICTIONARY_BATCH (dictionary_tree (dictionary_batch_of id is_delta rows nodes buffers)) (body buffers) rest refl (dictionary_readable id is_delta rows nodes buffers known fits small)

pub dictionary_type : Roots → (id : ℕ) (is_delta : Bool) (rows : ℕ) (nodes : List RawNode) (buffers : List (List ℕ)) → id < 2 ^ 64 → IsWritableBatch rows nodes buffers
    → length (dictionary_envelope id is_delta rows nodes buffers).metadata ≤ 16777216 → type_of (dictionary_envelope id is_delta rows nodes buffers).metadata ≡ DICTIONARY_BATCH
dictionary_type roots id is_delta rows nodes buffers known fits small =
    type_again roots DICTIONARY_BATCH (dictionary_tree (dictionary_batch_of id is_delta rows nodes buffers)) (body buffers) (dictionary_readable id is_delta rows nodes buffers known fits small)

pub dictionary_read_again : Roots → (supported : ℕ → Bool) (id : ℕ) (is_delta : Bool) (rows : ℕ) (nodes : List RawNode) (buffers : List (List ℕ)) → id < 2 ^ 64 → IsWritableBatch rows nodes buffers
    → length (dictionary_envelope id is_delta rows nodes buffers).metadata ≤ 16777216
    → header supported (dictionary_envelope id is_delta rows nodes buffers).metadata ≡ Ok (dictionary_header (dictionary_batch_of id is_delta rows nodes buffers))
dictionary_read_again roots supported id is_delta rows nodes buffers known fits small =
    dictionary_header_read supported (dictionary_envelope id is_delta rows nodes buffers).metadata (length (body buffers)) (dictionary_batch_of id is_delta rows nodes buffers) refl fits.nodes_fit (buffers_fit rows nodes buffers fits)
    (has roots DICTIONARY_BATCH (dictionary_tree (dictionary_batch_of id is_delta rows nodes buffers)) (body buffers) (dictionary_readable id is_delta rows nodes buffers known fits small))

pub dictionary_after : (id : ℕ) (is_delta : Bool) (rows : ℕ) (nodes : List RawNode) (buffers : List (List ℕ)) (rest : List ℕ)
    → drop (taken (message (dictionary_envelope id is_delta rows nodes buffers))) (dictionary_message id is_delta rows nodes buffers ++ rest) ≡ rest
dictionary_after id is_delta rows nodes buffers rest =
    ap (λ (bytes : List ℕ). drop (taken (message (dictionary_envelope id is_delta rows nodes buffers))) (bytes ++ rest)) (dictionary_written id is_delta rows nodes buffers)
    ∙ after DICTIONARY_BATCH (dictionary_tree (dictionary_batch_of id is_delta rows nodes buffers)) (body buffers) rest
