-- The header of a message that was written is the header that is read, and the walk over it finds nothing bad.
use Rattle.std.specs.List.{flat_map}
use Rattle.std.proofs.Common.{◌≡◌, ℕ, ◌+◌, ◌/◌, ◌^◌, ◌<◌, ◌≤◌, Bool, false, List, [], ◌∷◌, ◌++◌, map, length, drop, Option, Some, Ok, is_some, refl, sym, ap, ◌∙◌, arith}
use Rattle.std.proofs.lemmas.List.{length-map}
use Rattle.byteorder.specs.Endian.{little_number, little_bytes}
use Rattle.byteorder.specs.Numbers.{little_number-reads_back}
use Rattle.flatbuf.specs.declared.limits.TheConstants.{MAX_BUFFER_TABLES}
use Rattle.flatbuf.specs.Lookup.{target, slot, table_at, table_behind, elements, targets, structs_of, scalar_of, is_set, Place}
use Rattle.flatbuf.specs.Walk.{spans, vector_at}
use Rattle.flatbuf.specs.Held.{Has, HasHead, FitsStructs}
use Rattle.flatbuf.specs.Laid.{struct_bytes, count_of}
use Rattle.flatbuf.specs.Tree.{structs}
use Rattle.flatbuf.specs.laws.Laid.{length-struct_bytes}
use Rattle.arrow_schema.specs.Column.{columns_of, PlainSchema}
use Rattle.arrow_schema.specs.Preorder.{depth_all}
use Rattle.ipc_message.specs.Framing.{message_table}
use Rattle.ipc_message.specs.Raw.{RawNode, RawBuffer, RawField, RawBatch, RawDictionaryBatch, raw_fields_of, raw_list_of, schema_header, dictionary_header, batch_header, nodes_from, buffers_from, nodes_in, buffers_in}
use Rattle.ipc_message.specs.Header.{schema_in, batch_in, dictionary_in, schema_things, batch_things, dictionary_things, pairs_things, needed_things, field_things, field_at, pairs_in, header_things, header_of, header}
use Rattle.ipc_write.specs.Trees.{node_pair, buffer_pair, field_nodes, schema_tree, batch_tree, dictionary_tree, message_tree}
use Rattle.ipc_write.specs.Decoded.{raw_of_all, raw_schema}
use Rattle.ipc_write.specs.Walked.{HoldsTimes, tables_of_all}
use Rattle.ipc_write.proofs.Fine.{Fine, fine_append, fine_after, fine_more, fine_spans, fine_references, fine_structs, fine_reference, elements_read}
use Rattle.ipc_write.proofs.TypeRead.{is_set-bit, pairs_read, pairs_fine}
use Rattle.ipc_write.proofs.FieldRead.{fields_read, fields_fine}
use Rattle.ipc_write.proofs.MessageRead.{type_read}

-- ---- a schema

listed : (fs : List RawField) → raw_list_of (raw_fields_of fs) ≡ fs
listed [] = refl
listed (f ∷ fs) = ap (λ (gs : List RawField). f ∷ gs) (listed fs)

pub schema_read : (supported : ℕ → Bool) (left : ℕ) (bytes : List ℕ) (at : ℕ) (s : PlainSchema) → HoldsTimes supported → depth_all (columns_of s.columns) + 2 ≤ left → Has bytes at (schema_tree s)
    → schema_in supported left bytes (Some (table_at bytes at)) ≡ raw_schema s
unfolding schema_in
schema_read supported left bytes at s holds deep has =
    let t : Place = table_at bytes at in
    let h = has.1 in
    let cs = columns_of s.columns in
    let fields = field_nodes 0 cs in
    let endian : scalar_of 2 0 bytes (slot bytes t 0) ≡ 0 = rw h.0.1 h.0.2 in
    let found : elements bytes (slot bytes t 1) ≡ targets (count_of fields) bytes (target bytes h.1.0.0 + 4) = elements_read bytes (slot bytes t 1) h.1.0.0 fields h.1.0.1 h.1.0.3 in
    let all : raw_fields_of (map (field_at supported left bytes) (elements bytes (slot bytes t 1))) ≡ raw_of_all 0 cs =
    ap (λ (places : List ℕ). raw_fields_of (map (field_at supported left bytes) places)) found ∙ fields_read supported left bytes (target bytes h.1.0.0 + 4) 0 cs holds deep h.1.0.3.2 in
    let each : map (field_at supported left bytes) (elements bytes (slot bytes t 1)) ≡ raw_list_of (raw_of_all 0 cs) = sym (listed (map (field_at supported left bytes) (elements bytes (slot bytes t 1)))) ∙ ap raw_list_of all in
    let pairs : pairs_in bytes (slot bytes t 2) ≡ s.pairs = pairs_read bytes t 2 s.pairs h.1.1 in
    λ i. record { endianness = endian i; fields = each i; pairs = pairs i }

pub schema_fine : (supported : ℕ → Bool) (left : ℕ) (bytes : List ℕ) (at n : ℕ) (s : PlainSchema) → HoldsTimes supported → depth_all (columns_of s.columns) + 2 ≤ left
    → n + tables_of_all (columns_of s.columns) + length s.pairs ≤ MAX_BUFFER_TABLES → Has bytes at (schema_tree s)
    → Fine bytes (schema_things supported left bytes (Some (table_at bytes at))) n (n + tables_of_all (columns_of s.columns) + length s.pairs)
unfolding schema_things
schema_fine supported left bytes at n s holds deep room has =
    let t : Place = table_at bytes at in
    let h = has.1 in
    let cs = columns_of s.columns in
    let fields = field_nodes 0 cs in
    let m : ℕ = n + tables_of_all cs in
    let endian = fine_spans bytes 2 (slot bytes t 0) h.0.0 n h.0.1 h.0.3 in
    let vector = fine_references bytes (slot bytes t 1) h.1.0.0 n fields h.1.0.1 h.1.0.2 h.1.0.3 in
    let each : Fine bytes (flat_map (field_things supported left bytes) (elements bytes (slot bytes t 1))) n m =
    rw (elements_read bytes (slot bytes t 1) h.1.0.0 fields h.1.0.1 h.1.0.3) (fields_fine supported left bytes (target bytes h.1.0.0 + 4) 0 n cs holds deep (omega arith) h.1.0.3.2) in
    let pairs = pairs_fine bytes left t 2 m s.pairs h.1.1 (omega arith) room in
    let a1 = fine_after bytes (spans 2 (slot bytes t 0)) (vector_at 4 bytes (slot bytes t 1)) n n endian vector in
    let a2 = fine_append bytes (spans 2 (slot bytes t 0) ++ vector_at 4 bytes (slot bytes t 1)) (flat_map (field_things supported left bytes) (elements bytes (slot bytes t 1))) n n m a1 each in
    fine_append bytes (spans 2 (slot bytes t 0) ++ vector_at 4 bytes (slot bytes t 1) ++ flat_map (field_things supported left bytes) (elements bytes (slot bytes t 1))) (pairs_things left bytes (slot bytes t 2)) n m (m + length s.pairs) a2 pairs

-- ---- a batch

pair_reads : (a b : ℕ) (rest : List ℕ) → a < 2 ^ 64 → b < 2 ^ 64
    → (little_number 8 (little_bytes 8 a ++ (little_bytes 8 b ++ rest)) ≡ a) × (little_number 8 (drop 8 (little_bytes 8 a ++ (little_bytes 8 b ++ rest))) ≡ b) × (drop 16 (little_bytes 8 a ++ (little_bytes 8 b ++ rest)) ≡ rest)
pair_reads a b rest small_a small_b = (
  little_number-reads_back 8 a (little_bytes 8 b ++ rest) small_a,
  little_number-reads_back 8 b rest small_b,
  refl,
)

nodes_read : (ns : List RawNode) → FitsStructs (map node_pair ns) → nodes_from (length ns) (struct_bytes (map node_pair ns)) ≡ ns
unfolding struct_bytes
nodes_read [] fits = refl
nodes_read (n ∷ ns) fits =
    let p = pair_reads n.length n.null_count (struct_bytes (map node_pair ns)) fits.0 fits.1 in
    rw (p.0, p.1, p.2, nodes_read ns fits.2) refl

buffers_read : (bs : List RawBuffer) → FitsStructs (map buffer_pair bs) → buffers_from (length bs) (struct_bytes (map buffer_pair bs)) ≡ bs
unfolding struct_bytes
buffers_read [] fits = refl
buffers_read (b ∷ bs) fits =
    let p = pair_reads b.offset b.length (struct_bytes (map buffer_pair bs)) fits.0 fits.1 in
    rw (p.0, p.1, p.2, buffers_read bs fits.2) refl

structs_read : (bytes : List ℕ) (s : Option ℕ) (p : ℕ) (ps : List (ℕ × ℕ)) → s ≡ Some p → Has bytes (target bytes p) (structs ps) → structs_of 16 bytes s ≡ struct_bytes ps
structs_read bytes s p ps e has = rw (e, has.0) has.1

count_structs : (ps : List (ℕ × ℕ)) (n : ℕ) → length ps ≡ n → length (struct_bytes ps) / 16 ≡ n
count_structs ps n e = omega (arith, length-struct_bytes ps, e)

pub batch_read : (bytes : List ℕ) (at : ℕ) (b : RawBatch) → b.compressed ≡ false → FitsStructs (map node_pair b.nodes) → FitsStructs (map buffer_pair b.buffers) → Has bytes at (batch_tree b)
    → batch_in bytes (Some (table_at bytes at)) ≡ b
unfolding batch_in
batch_read bytes at b plain fits_nodes fits_buffers has =
    let t : Place = table_at bytes at in
    let h = has.1 in
    let rows : scalar_of 8 0 bytes (slot bytes t 0) ≡ b.length = rw h.0.1 h.0.2 in
    let ns : List (ℕ × ℕ) = map node_pair b.nodes in
    let bs : List (ℕ × ℕ) = map buffer_pair b.buffers in
    let nodes_at : structs_of 16 bytes (slot bytes t 1) ≡ struct_bytes ns = structs_read bytes (slot bytes t 1) h.1.0.0 ns h.1.0.1 h.1.0.3 in
    let nodes_are : nodes_in (structs_of 16 bytes (slot bytes t 1)) ≡ b.nodes = rw (nodes_at, count_structs ns (length b.nodes) (length-map b.nodes node_pair)) (nodes_read b.nodes fits_nodes) in
    let buffers_at : structs_of 16 bytes (slot bytes t 2) ≡ struct_bytes bs = structs_read bytes (slot bytes t 2) h.1.1.0.0 bs h.1.1.0.1 h.1.1.0.3 in
    let buffers_are : buffers_in (structs_of 16 bytes (slot bytes t 2)) ≡ b.buffers = rw (buffers_at, count_structs bs (length b.buffers) (length-map b.buffers buffer_pair)) (buffers_read b.buffers fits_buffers) in
    let plain_is : is_some (slot bytes t 3) ≡ b.compressed = rw (h.1.1.1 3 (omega arith)) (sym plain) in
    λ i. record { length = rows i; nodes = nodes_are i; buffers = buffers_are i; compressed = plain_is i }

pub batch_fine : (bytes : List ℕ) (at n : ℕ) (b : RawBatch) → Has bytes at (batch_tree b) → Fine bytes (batch_things bytes (Some (table_at bytes at))) n n
unfolding batch_things
batch_fine bytes at n b has =
    let t : Place = table_at bytes at in
    let h = has.1 in
    let rows = fine_spans bytes 8 (slot bytes t 0) h.0.0 n h.0.1 h.0.3 in
    let nodes = fine_structs bytes (slot bytes t 1) h.1.0.0 n (map node_pair b.nodes) h.1.0.1 h.1.0.2 h.1.0.3 in
    let buffers = fine_structs bytes (slot bytes t 2) h.1.1.0.0 n (map buffer_pair b.buffers) h.1.1.0.1 h.1.1.0.2 h.1.1.0.3 in
    fine_after bytes (spans 8 (slot bytes t 0) ++ vector_at 16 bytes (slot bytes t 1)) (vector_at 16 bytes (slot bytes t 2)) n n
    (fine_after bytes (spans 8 (slot bytes t 0)) (vector_at 16 bytes (slot bytes t 1)) n n rows nodes)
    buffers

-- ---- a dictionary batch

pub dictionary_read : (bytes : List ℕ) (at : ℕ) (d : RawDictionaryBatch) → d.batch.compressed ≡ false → FitsStructs (map node_pair d.batch.nodes) → FitsStructs (map buffer_pair d.batch.buffers) → Has bytes at (dictionary_tree d)
    → dictionary_in bytes (Some (table_at bytes at)) ≡ d
unfolding dictionary_in
dictionary_read bytes at d plain fits_nodes fits_buffers has =
    let t : Place = table_at bytes at in
    let h = has.1 in
    let id : scalar_of 8 0 bytes (slot bytes t 0) ≡ d.id = rw h.0.1 h.0.2 in
    let behind : table_behind bytes (slot bytes t 1) ≡ Some (table_at bytes (target bytes h.1.0.0)) = rw h.1.0.1 refl in
    let batch : batch_in bytes (table_behind bytes (slot bytes t 1)) ≡ d.batch = rw behind (batch_read bytes (target bytes h.1.0.0) d.batch plain fits_nodes fits_buffers h.1.0.3) in
    let delta : is_set (scalar_of 1 0 bytes (slot bytes t 2)) ≡ d.is_delta = rw (h.1.1.0.1, h.1.1.0.2) (is_set-bit d.is_delta) in
    λ i. record { id = id i; batch = batch i; is_delta = delta i }

pub dictionary_fine : (bytes : List ℕ) (left at n : ℕ) (d : RawDictionaryBatch) → 0 < left → n < MAX_BUFFER_TABLES → Has bytes at (dictionary_tree d) → Fine bytes (dictionary_things left bytes (Some (table_at bytes at))) n (n + 1)
unfolding dictionary_things
dictionary_fine bytes left at n d deep room has =
    let t : Place = table_at bytes at in
    let h = has.1 in
    let id = fine_spans bytes 8 (slot bytes t 0) h.0.0 n h.0.1 h.0.3 in
    let needed : Fine bytes (needed_things left bytes (slot bytes t 1)) n (n + 1) = rw h.1.0.1 (fine_reference bytes left (Some h.1.0.0) h.1.0.0 3 n refl h.1.0.2 h.1.0.3.0 deep room) in
    let batch : Fine bytes (batch_things bytes (table_behind bytes (slot bytes t 1))) (n + 1) (n + 1) = rw h.1.0.1 (batch_fine bytes (target bytes h.1.0.0) (n + 1) d.batch h.1.0.3) in
    let delta = fine_spans bytes 1 (slot bytes t 2) h.1.1.0.0 (n + 1) h.1.1.0.1 h.1.1.0.3 in
    let a1 = fine_more bytes (spans 8 (slot bytes t 0)) (needed_things left bytes (slot bytes t 1)) n (n + 1) id needed in
    let a2 = fine_after bytes (spans 8 (slot bytes t 0) ++ needed_things left bytes (slot bytes t 1)) (batch_things bytes (table_behind bytes (slot bytes t 1))) n (n + 1) a1 batch in
    fine_after bytes (spans 8 (slot bytes t 0) ++ needed_things left bytes (slot bytes t 1) ++ batch_things bytes (table_behind bytes (slot bytes t 1))) (spans 1 (slot bytes t 2)) n (n + 1) a2 delta

-- ---- the header of a message

-- the reference to the header, and the table that it leads to
needed_fine : (metadata : List ℕ) (s : Option ℕ) (p slots : ℕ) → s ≡ Some p → p + 4 ≤ length metadata → HasHead metadata (target metadata p) slots → Fine metadata (needed_things 39 metadata s) 1 2
needed_fine metadata s p slots e reference has = rw e (fine_reference metadata 39 (Some p) p slots 1 refl reference has (omega arith) (omega arith))

pub schema_header_read : (supported : ℕ → Bool) (metadata : List ℕ) (body_len : ℕ) (s : PlainSchema) → HoldsTimes supported → depth_all (columns_of s.columns) ≤ 36 → 2 + tables_of_all (columns_of s.columns) + length s.pairs ≤ MAX_BUFFER_TABLES
    → Has metadata (target metadata 0) (message_tree 1 (schema_tree s) body_len) → header supported metadata ≡ Ok (schema_header (raw_schema s))
unfolding header header_of header_things
schema_header_read supported metadata body_len s holds deep room has =
    let t : Place = message_table metadata in
    let h = has.1.1.1.0 in
    let kind = type_read metadata 1 body_len (schema_tree s) has in
    let place : Place = table_at metadata (target metadata h.0) in
    let tables : ℕ = 2 + tables_of_all (columns_of s.columns) + length s.pairs in
    let behind : table_behind metadata (slot metadata t 2) ≡ Some place = rw h.1 refl in
    let needed : Fine metadata (needed_things 39 metadata (slot metadata t 2)) 1 2 = needed_fine metadata (slot metadata t 2) h.0 _ h.1 h.2 h.3.0 in
    let things : Fine metadata (schema_things supported 38 metadata (Some place)) 2 tables = schema_fine supported 38 metadata (target metadata h.0) 2 s holds (omega arith) room h.3 in
    let walked = fine_append metadata (needed_things 39 metadata (slot metadata t 2)) (schema_things supported 38 metadata (Some place)) 1 2 tables needed things in
    let decodes : schema_in supported 38 metadata (Some place) ≡ raw_schema s = schema_read supported 38 metadata (target metadata h.0) s holds (omega arith) h.3 in
    rw (kind, behind, walked, decodes) refl

pub batch_header_read : (supported : ℕ → Bool) (metadata : List ℕ) (body_len : ℕ) (b : RawBatch) → b.compressed ≡ false → FitsStructs (map node_pair b.nodes) → FitsStructs (map buffer_pair b.buffers)
    → Has metadata (target metadata 0) (message_tree 3 (batch_tree b) body_len) → header supported metadata ≡ Ok (batch_header b)
unfolding header header_of header_things
batch_header_read supported metadata body_len b plain fits_nodes fits_buffers has =
    let t : Place = message_table metadata in
    let h = has.1.1.1.0 in
    let kind = type_read metadata 3 body_len (batch_tree b) has in
    let place : Place = table_at metadata (target metadata h.0) in
    let behind : table_behind metadata (slot metadata t 2) ≡ Some place = rw h.1 refl in
    let needed : Fine metadata (needed_things 39 metadata (slot metadata t 2)) 1 2 = needed_fine metadata (slot metadata t 2) h.0 _ h.1 h.2 h.3.0 in
    let walked = fine_append metadata (needed_things 39 metadata (slot metadata t 2)) (batch_things metadata (Some place)) 1 2 2 needed (batch_fine metadata (target metadata h.0) 2 b h.3) in
    rw (kind, behind, walked, batch_read metadata (target metadata h.0) b plain fits_nodes fits_buffers h.3) refl

pub dictionary_header_read : (supported : ℕ → Bool) (metadata : List ℕ) (body_len : ℕ) (d : RawDictionaryBatch) → d.batch.compressed ≡ false → FitsStructs (map node_pair d.batch.nodes) → FitsStructs (map buffer_pair d.batch.buffers)
    → Has metadata (target metadata 0) (message_tree 2 (dictionary_tree d) body_len) → header supported metadata ≡ Ok (dictionary_header d)
unfolding header header_of header_things
dictionary_header_read supported metadata body_len d plain fits_nodes fits_buffers has =
    let t : Place = message_table metadata in
    let h = has.1.1.1.0 in
    let kind = type_read metadata 2 body_len (dictionary_tree d) has in
    let place : Place = table_at metadata (target metadata h.0) in
    let behind : table_behind metadata (slot metadata t 2) ≡ Some place = rw h.1 refl in
    let needed : Fine metadata (needed_things 39 metadata (slot metadata t 2)) 1 2 = needed_fine metadata (slot metadata t 2) h.0 _ h.1 h.2 h.3.0 in
    let things : Fine metadata (dictionary_things 38 metadata (Some place)) 2 3 = dictionary_fine metadata 38 (target metadata h.0) 2 d (omega arith) (omega arith) h.3 in
    let walked = fine_append metadata (needed_things 39 metadata (slot metadata t 2)) (dictionary_things 38 metadata (Some place)) 1 2 3 needed things in
    rw (kind, behind, walked, dictionary_read metadata (target metadata h.0) d plain fits_nodes fits_buffers h.3) refl
