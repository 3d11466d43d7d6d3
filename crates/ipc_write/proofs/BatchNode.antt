-- The trees of batches, and the bytes of messages with a tree.
use Rattle.std.proofs.Common.{add-one, ◌+◌, suc, take, get_or, zero, ◌≡◌, ℕ, Bool, ◌<◌, ◌^◌, List, [], ◌∷◌, ◌++◌, map, length, refl, sym, ap, ◌∙◌, arith, subst}
use Rattle.flatbuf.specs.Tree.{Tree, table, structs, scalar, refers, no_slot}
use Rattle.flatbuf.specs.Held.{FitsStructs}
use Rattle.std.proofs.lemmas.List.{length-map}
use Rattle.ipc_message.specs.Raw.{RawNode}
use Rattle.arrow_schema.specs.Column.{PlainSchema}
use Rattle.ipc_message.specs.declared.header_type.TheConstants.{SCHEMA, DICTIONARY_BATCH, RECORD_BATCH}
use Rattle.ipc_write.specs.Trees.{bit, schema_tree, batch_tree, dictionary_tree, message_tree, node_pair, raw_node, buffer_pair}
use Rattle.ipc_write.specs.Written.{framed, message_bytes, body, placed, batch_of, dictionary_batch_of, schema_message, batch_message, dictionary_message, HasRoom, IsWritableBatch}
use Rattle.flatbuf.specs.Laid.{metadata}

pub fits_more : (ps : List (ℕ × ℕ)) (p : ℕ × ℕ) → FitsStructs ps → p.0 < 2 ^ 64 → p.1 < 2 ^ 64 → FitsStructs (ps ++ p ∷ [])
fits_more [] p h a b = (a, b, tt)
fits_more (q ∷ qs) p h a b = (h.0, h.1, fits_more qs p h.2 a b)

-- the numbers read so far fit, and so do those of the next
pub fits_next : (ps : List (ℕ × ℕ)) (i : ℕ) (d : ℕ × ℕ) → i < length ps → FitsStructs (take i ps) → (get_or ps i d).0 < 2 ^ 64 → (get_or ps i d).1 < 2 ^ 64 → FitsStructs (take (i + 1) ps)
fits_next ps i d lt h a b = subst (λ (n : ℕ). FitsStructs (take n ps)) (sym (add-one i)) (next ps i lt h a b)
  where
    next : (qs : List (ℕ × ℕ)) (k : ℕ) → k < length qs → FitsStructs (take k qs) → (get_or qs k d).0 < 2 ^ 64 → (get_or qs k d).1 < 2 ^ 64 → FitsStructs (take (suc k) qs)
    next [] k lt h a b = tt
    next (q ∷ qs) zero lt h a b = (a, b, tt)
    next (q ∷ qs) (suc k) lt h a b = (h.0, h.1, next qs k (omega arith) h.2 a b)

pairs_again : (ps : List (ℕ × ℕ)) → map node_pair (map raw_node ps) ≡ ps
pairs_again [] = refl
pairs_again (p ∷ ps) = ap (λ (qs : List (ℕ × ℕ)). p ∷ qs) (pairs_again ps)

abbrev pub tree_of : ℕ → List (ℕ × ℕ) → List (ℕ × ℕ) → Tree
tree_of rows nodes ranges = table (scalar 8 rows (refers (structs nodes) (refers (structs ranges) no_slot)))

pub header_is : (rows : ℕ) (nodes ranges : List (ℕ × ℕ)) (buffers : List (List ℕ)) → ranges ≡ map buffer_pair (placed 0 buffers) → tree_of rows nodes ranges ≡ batch_tree (batch_of rows (map raw_node nodes) buffers)
header_is rows nodes ranges buffers is = ap (λ (ns : List (ℕ × ℕ)). tree_of rows ns ranges) (sym (pairs_again nodes)) ∙ ap (tree_of rows (map node_pair (map raw_node nodes))) is

pub is_writable : (rows : ℕ) (nodes : List (ℕ × ℕ)) (buffers : List (List ℕ)) → rows < 2 ^ 64 → FitsStructs nodes → HasRoom (length nodes) buffers → IsWritableBatch rows (map raw_node nodes) buffers
is_writable rows nodes buffers small fits room = record {
  rows_fit = small;
  nodes_fit = subst FitsStructs (sym (pairs_again nodes)) fits;
  room = subst (λ (n : ℕ). HasRoom n buffers) (sym (length-map nodes raw_node)) room;
}

-- ---- the bytes of messages

pub framed_is : (meta : List ℕ) (root header : Tree) (type len : ℕ) (b : List ℕ) → meta ≡ metadata root → root ≡ message_tree type header len → len ≡ length b → framed meta b ≡ message_bytes type header b
framed_is meta root header type len b m r l = ap (λ (x : List ℕ). framed x b) (m ∙ ap metadata (r ∙ ap (message_tree type header) l))

pub schema_is : (header : Tree) (s : PlainSchema) → header ≡ schema_tree s → message_bytes SCHEMA header [] ≡ schema_message s
unfolding schema_message
schema_is header s is = ap (λ (t : Tree). message_bytes SCHEMA t []) is

pub batch_is : (header : Tree) (rows : ℕ) (nodes : List RawNode) (buffers : List (List ℕ)) → header ≡ batch_tree (batch_of rows nodes buffers) → message_bytes RECORD_BATCH header (body buffers) ≡ batch_message rows nodes buffers
unfolding batch_message
batch_is header rows nodes buffers is = ap (λ (t : Tree). message_bytes RECORD_BATCH t (body buffers)) is

abbrev pub dictionary_table : ℕ → Bool → Tree → Tree
dictionary_table id is_delta batch = table (scalar 8 id (refers batch (scalar 1 (bit is_delta) no_slot)))

pub dictionary_header : (header batch : Tree) (id : ℕ) (is_delta : Bool) (rows : ℕ) (nodes : List RawNode) (buffers : List (List ℕ)) → header ≡ dictionary_table id is_delta batch → batch ≡ batch_tree (batch_of rows nodes buffers)
    → header ≡ dictionary_tree (dictionary_batch_of id is_delta rows nodes buffers)
dictionary_header header batch id is_delta rows nodes buffers h b = h ∙ ap (dictionary_table id is_delta) b

pub dictionary_is : (header : Tree) (id : ℕ) (is_delta : Bool) (rows : ℕ) (nodes : List RawNode) (buffers : List (List ℕ)) → header ≡ dictionary_tree (dictionary_batch_of id is_delta rows nodes buffers)
    → message_bytes DICTIONARY_BATCH header (body buffers) ≡ dictionary_message id is_delta rows nodes buffers
unfolding dictionary_message
dictionary_is header id is_delta rows nodes buffers is = ap (λ (t : Tree). message_bytes DICTIONARY_BATCH t (body buffers)) is
