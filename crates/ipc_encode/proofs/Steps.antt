-- The messages of what was built, and the steps over the pieces of a table.
use Rattle.std.specs.Prelude.{nat_le, sum_by, true, false}
use Rattle.std.specs.List.{AllByRecursion, flat_map}
use Rattle.std.proofs.Common.{◌≡◌, ◌≤◌, ◌+◌, ℕ, List, [], ◌∷◌, ◌++◌, map, length, refl, sym, subst, ap, ◌∙◌, arith, append_assoc}
use Rattle.std.proofs.lemmas.Bool.{and_parts, leb-true}
use Rattle.std.proofs.lemmas.List.{length-map, append-nil}
use Rattle.std.proofs.lemmas.List.Concat.{flat_map-cons}
use Rattle.arrow_schema.specs.Column.{Columns, PlainSchema, columns_of}
use Rattle.arrow_schema.specs.Preorder.{preorder_all}
use Rattle.ipc_canonical.specs.Canonical.{canonical, entries_message, entries_messages, piece_messages, rows_messages}
use Rattle.ipc_canonical.specs.Pieces.{IsPieceOf}
use Rattle.ipc_canonical.specs.laws.FewColumns.{dictionaries_have_few}
use Rattle.batch_build.specs.Batch.{PlainBatch, buffers_in, dictionary_of, node_in, dictionary_in, batch_in, with_arrays, batch_of, built_below}
use Rattle.ipc_canonical.specs.PieceStreams.{piece_stream, piece_streams, piece_counts}
use Rattle.ipc_encode.specs.View.{with_schema}
use Rattle.batch_build.specs.declared.batch.BuiltBatch.{BuiltBatch}
use Rattle.ipc_encode.specs.inner.Messages.{built_messages, built_batch, entries_of_piece, batch_of_piece, AreFew, HasFew}
use Rattle.cells.specs.Cell.{Cell, PlainTable}
use Rattle.cells.specs.Dictionary.{dictionaries_fit}
use Rattle.cells.specs.Weight.{row_weight, table_weight}
use Rattle.columns.specs.Alone.{cells_weight, own_column, own_array, IsBuiltAlone}
use Rattle.columns.specs.Array.{slots_in}
use Rattle.columns.specs.Buildable.{can_build_rows}
use Rattle.columns.specs.Buffers.{Node, node_of, nodes_of, column_buffers, buffers_of, typed_dictionaries, dictionaries_of}
use Rattle.columns.specs.Built.{built_parts}
use Rattle.columns.specs.Tests.{Typed}
use Rattle.ipc_message.specs.Raw.{RawNode}
use Rattle.table_cut.specs.Cut.{pieces, within_limits}
use Rattle.ipc_write.specs.Trees.{raw_node as written_node}
use Rattle.ipc_write.specs.Written.{schema_message, dictionary_message, batch_message, end_of_stream, HasRoom, IsWritableBatch}
use Rattle.table_cut.specs.Piece.{within_piece}
use Rattle.ipc_canonical.specs.WrittenBatch.{raw_node, raw_nodes, IsWritable}

-- ---- the messages of what was built

pub entries_built : (id : ℕ) (ts : List Typed) → entries_messages id ts ≡ built_messages id (map dictionary_of ts)
entries_built id [] = refl
entries_built id (t ∷ ts) = ap (λ (x : List ℕ). entries_message id t ++ x) (entries_built (id + 1) ts)

-- what is known of a dictionary's batch: a clause of a law
abbrev pub EntriesLaw : Type 0
EntriesLaw = (t : Typed) → IsBuiltAlone 16777216 t → length (preorder_all (own_column t)) ≤ 2048
    → IsWritableBatch (slots_in t.array) (raw_nodes (own_column t) (own_array t)) (buffers_of (own_column t) (own_array t))

-- a message has as much room for nodes as they are written
room_of : (nodes : List Node) (buffers : List (List ℕ)) → HasRoom (length (map raw_node nodes)) buffers → AreFew nodes buffers
room_of nodes buffers room = subst (λ (n : ℕ). HasRoom n buffers) (length-map nodes raw_node) room

-- and for those of the code
pub code_room : (nodes : List (ℕ × ℕ)) (buffers : List (List ℕ)) → AreFew (map node_in nodes) buffers → HasRoom (length nodes) buffers
code_room nodes buffers few = subst (λ (n : ℕ). HasRoom n buffers) (length-map nodes node_in) few

one_few : EntriesLaw → (t : Typed) → IsBuiltAlone 16777216 t → length (preorder_all (own_column t)) ≤ 2048 → HasFew (dictionary_of t)
one_few law t alone few = room_of (nodes_of (own_column t) (own_array t)) (buffers_of (own_column t) (own_array t)) (law t alone few).room

pub all_few : EntriesLaw → (ts : List Typed) → AllByRecursion (IsBuiltAlone 16777216) ts → AllByRecursion (λ t. length (preorder_all (own_column t)) ≤ 2048) ts
    → AllByRecursion HasFew (map dictionary_of ts)
all_few law [] alone few = tt
all_few law (t ∷ ts) alone few = (one_few law t alone.0 few.0, all_few law ts alone.1 few.1)

-- ---- the pieces that are left

-- what stands, and the messages of the pieces that are left, with one piece more
pub next_written : {A : Type 0} (f : A → List ℕ) (old new end all : List ℕ) (piece : A) (cut rest : List A) → cut ≡ piece ∷ rest → new ≡ old ++ f piece
    → old ++ (flat_map f cut ++ end) ≡ all → new ++ (flat_map f rest ++ end) ≡ all
next_written f old new end all piece cut rest next pushed was =
    ap (λ (x : List ℕ). x ++ (flat_map f rest ++ end)) pushed
    ∙ append_assoc old (f piece) (flat_map f rest ++ end)
    ∙ ap (λ (x : List ℕ). old ++ x) (sym (append_assoc (f piece) (flat_map f rest) end) ∙ ap (λ (x : List ℕ). x ++ end) (sym (flat_map-cons f piece rest) ∙ ap (flat_map f) (sym next)))
    ∙ was

-- what was made of each piece, with one piece more
pub next_made : {A B : Type 0} (f : A → B) (old new all : List B) (made : B) (piece : A) (cut rest : List A) → cut ≡ piece ∷ rest → new ≡ old ++ made ∷ [] → made ≡ f piece
    → old ++ map f cut ≡ all → new ++ map f rest ≡ all
next_made f old new all made piece cut rest next pushed is was =
    ap (λ x. x ++ map f rest) pushed
    ∙ append_assoc old (made ∷ []) (map f rest)
    ∙ ap (λ x. old ++ x ∷ map f rest) is
    ∙ ap (λ x. old ++ map f x) (sym next)
    ∙ was

-- ---- a piece of what was built

pub nodes_built : (b : BuiltBatch) (ts : List Typed) → batch_in b ≡ batch_of ts → map node_in b.nodes.items ≡ map node_of ts
unfolding batch_in with_arrays
nodes_built b ts is = ap (λ (p : PlainBatch). p.nodes) is

pub buffers_built : (b : BuiltBatch) (ts : List Typed) → batch_in b ≡ batch_of ts → buffers_in b.buffers.items ≡ flat_map (λ t. column_buffers t.column t.array) ts
unfolding batch_in with_arrays
buffers_built b ts is = ap (λ (p : PlainBatch). p.buffers) is

pub dictionaries_built : (b : BuiltBatch) (ts : List Typed) → batch_in b ≡ batch_of ts → map dictionary_in b.dictionaries.items ≡ map dictionary_of (flat_map typed_dictionaries ts)
unfolding batch_in with_arrays
dictionaries_built b ts is = ap (λ (p : PlainBatch). p.dictionaries) is

nodes_are : (nodes : List (ℕ × ℕ)) → map written_node nodes ≡ map raw_node (map node_in nodes)
nodes_are [] = refl
nodes_are (n ∷ ns) = ap (λ (x : List RawNode). written_node n ∷ x) (nodes_are ns)

pub entries_are : (id slots : ℕ) (nodes : List (ℕ × ℕ)) (buffers : List (List ℕ))
    → dictionary_message id false slots (map written_node nodes) buffers ≡ dictionary_message id false slots (map raw_node (map node_in nodes)) buffers
entries_are id slots nodes buffers = ap (λ (ns : List RawNode). dictionary_message id false slots ns buffers) (nodes_are nodes)

pub batch_is : (rows : ℕ) (nodes : List (ℕ × ℕ)) (buffers : List (List ℕ)) → batch_message rows (map written_node nodes) buffers ≡ batch_message rows (map raw_node (map node_in nodes)) buffers
batch_is rows nodes buffers = ap (λ (ns : List RawNode). batch_message rows ns buffers) (nodes_are nodes)

-- ---- limits of a piece

limits : (s : PlainSchema) (rows : List (List Cell)) → within_piece s rows ≡ true → (length rows ≤ 4096) × (table_weight s rows ≤ 16777216)
limits s rows h =
    let both = and_parts (nat_le (length rows) 4096) (nat_le (sum_by (row_weight s) rows) 16777216) (and_parts (within_limits (row_weight s) 4096 16777216 rows) (dictionaries_fit s rows) h).0 in
    (leb-true (length rows) 4096 both.0, leb-true (sum_by (row_weight s) rows) 16777216 both.1)

pub few_rows : (s : PlainSchema) (rows : List (List Cell)) → within_piece s rows ≡ true → length rows ≤ 4096
few_rows s rows h = (limits s rows h).0

pub light : (s : PlainSchema) (rows : List (List Cell)) → within_piece s rows ≡ true → table_weight s rows ≤ 16777216
light s rows h = (limits s rows h).1

-- ---- what the batch of a piece may have

-- what is known of a record batch: a clause of a law
abbrev pub BatchLaw : Type 0
BatchLaw = (columns : Columns) (rows : List (List Cell)) → IsWritable columns rows
    → IsWritableBatch (length rows) (raw_nodes columns (built_parts columns rows)) (buffers_of columns (built_parts columns rows))

pub batch_few : BatchLaw → (s : PlainSchema) (rows : List (List Cell)) → IsPieceOf s rows → cells_weight (columns_of s.columns) rows ≤ 16777216
    → AreFew (map node_of (built_below (columns_of s.columns) rows)) (buffers_of (columns_of s.columns) (built_parts (columns_of s.columns) rows))
batch_few law s rows piece weighs =
    let cs : Columns = columns_of s.columns in
    let few = few_rows s rows piece.within in
    let w = law cs rows (record { can = piece.built; few_columns = piece.table.schema.fields; few_rows = omega (arith, few); weighs = weighs }) in
    room_of (map node_of (built_below cs rows)) (buffers_of cs (built_parts cs rows)) w.room

-- ---- the batch of a piece

-- what is known of what is written: clauses of laws
pub record PieceLaws : Type 0 where
  pub weight : (s : PlainSchema) (rows : List (List Cell)) → cells_weight (columns_of s.columns) rows ≤ table_weight s rows
  pub alone : (most : ℕ) (columns : Columns) (rows : List (List Cell)) → can_build_rows columns rows ≡ true → cells_weight columns rows ≤ most
      → AllByRecursion (IsBuiltAlone most) (dictionaries_of columns (built_parts columns rows))
  pub batch : BatchLaw
  pub entries : EntriesLaw

-- what was built of a piece: its messages are those of the piece, and have room
pub record IsBuiltPiece (s : PlainSchema) (rows : List (List Cell)) (b : BuiltBatch) : Type 0 where
  pub entries : built_messages 0 (map dictionary_in b.dictionaries.items) ≡ entries_of_piece s rows
  pub batch : built_batch (length rows) (map node_in b.nodes.items) (buffers_in b.buffers.items) ≡ batch_of_piece s rows
  pub few_entries : AllByRecursion HasFew (map dictionary_in b.dictionaries.items)
  pub few_rows : AreFew (map node_in b.nodes.items) (buffers_in b.buffers.items)

pub built_piece : PieceLaws → (s : PlainSchema) (rows : List (List Cell)) (b : BuiltBatch) → IsPieceOf s rows → batch_in b ≡ batch_of (built_below (columns_of s.columns) rows)
    → IsBuiltPiece s rows b
built_piece laws s rows b piece is =
    let cs : Columns = columns_of s.columns in
    let ts : List Typed = built_below cs rows in
    let ds : List Typed = dictionaries_of cs (built_parts cs rows) in
    let cells = laws.weight s rows in
    let small = light s rows piece.within in
    let weighs : cells_weight cs rows ≤ 16777216 = omega (arith, cells, small) in
    let nodes : map node_in b.nodes.items ≡ map node_of ts = nodes_built b ts is in
    let buffers : buffers_in b.buffers.items ≡ buffers_of cs (built_parts cs rows) = buffers_built b ts is in
    let dictionaries : map dictionary_in b.dictionaries.items ≡ map dictionary_of ds = dictionaries_built b ts is in
    record {
      entries = ap (built_messages 0) dictionaries ∙ sym (entries_built 0 ds);
      batch = λ i. built_batch (length rows) (nodes i) (buffers i);
      few_entries = subst (AllByRecursion HasFew) (sym dictionaries) (all_few laws.entries ds (laws.alone 16777216 cs rows piece.built weighs) (dictionaries_have_few 2048 cs (built_parts cs rows) piece.table.schema.fields));
      few_rows = rw (nodes, buffers) (batch_few laws.batch s rows piece weighs);
    }

-- ---- the stream of a piece

pub one_stream : (s : PlainSchema) (rows : List (List Cell)) → pieces (within_piece s) rows ≡ rows ∷ []
    → piece_stream s rows ≡ schema_message s ++ (piece_messages s rows ++ end_of_stream)
unfolding canonical
one_stream s rows alone =
    ap (λ (ps : List (List (List Cell))). schema_message s ++ (flat_map (piece_messages s) ps ++ end_of_stream)) alone
    ∙ ap (λ (x : List ℕ). schema_message s ++ (x ++ end_of_stream)) (flat_map-cons (piece_messages s) rows [] ∙ append-nil (piece_messages s rows))

-- before the first piece
pub first_written : (s : PlainSchema) (rows : List (List Cell)) (out : List ℕ) → out ++ (flat_map (piece_messages s) (pieces (within_piece s) rows) ++ []) ≡ out ++ rows_messages s rows
unfolding rows_messages
first_written s rows out = ap (λ (x : List ℕ). out ++ x) (append-nil (flat_map (piece_messages s) (pieces (within_piece s) rows)))

pub first_streams : (s : PlainSchema) (t : PlainTable) (made : List (List ℕ)) → made ≡ [] → made ++ map (piece_stream s) (pieces (within_piece s) t.rows) ≡ piece_streams (with_schema s t)
unfolding piece_streams
first_streams s t made none = ap (λ (x : List (List ℕ)). x ++ map (piece_stream s) (pieces (within_piece s) t.rows)) none

pub first_counts : (s : PlainSchema) (t : PlainTable) (made : List ℕ) → made ≡ [] → made ++ map length (pieces (within_piece s) t.rows) ≡ piece_counts (with_schema s t)
unfolding piece_counts
first_counts s t made none = ap (λ (x : List ℕ). x ++ map length (pieces (within_piece s) t.rows)) none

-- after the last piece
pub last_written : (s : PlainSchema) (out whole : List ℕ) (left : List (List Cell)) → left ≡ [] → out ++ (flat_map (piece_messages s) (pieces (within_piece s) left) ++ []) ≡ whole → out ≡ whole
last_written s out whole left none is = sym (append-nil out) ∙ sym (ap (λ (rows : List (List Cell)). out ++ (flat_map (piece_messages s) (pieces (within_piece s) rows) ++ [])) none) ∙ is

-- the message of the schema, the messages of the rows and the end of stream
pub whole_written : (s : PlainSchema) (rows : List (List Cell)) (first messages new : List ℕ) → first ≡ schema_message s → messages ≡ first ++ rows_messages s rows → new ≡ messages ++ end_of_stream
    → new ≡ canonical (record { schema = s; rows = rows })
unfolding canonical rows_messages
whole_written s rows first messages new begun written ended =
    ended ∙ ap (λ (x : List ℕ). x ++ end_of_stream) (written ∙ ap (λ (x : List ℕ). x ++ rows_messages s rows) begun) ∙ append_assoc (schema_message s) (rows_messages s rows) end_of_stream

pub last_made : {B : Type 0} (s : PlainSchema) (f : List (List Cell) → B) (made whole : List B) (left : List (List Cell)) → left ≡ []
    → made ++ map f (pieces (within_piece s) left) ≡ whole → made ≡ whole
last_made s f made whole left none is =
    sym (append-nil made) ∙ sym (ap (λ (rows : List (List Cell)). made ++ map f (pieces (within_piece s) rows)) none) ∙ is
