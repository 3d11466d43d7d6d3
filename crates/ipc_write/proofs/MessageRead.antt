-- A message that was written stands at the front of what follows, with its Message table and its header.
use Rattle.std.proofs.Common.{◌≡◌, ℕ, ◌^◌, ◌<◌, ◌≤◌, List, [], ◌∷◌, ◌++◌, length, None, Ok, refl, sym, ap, ◌∙◌, arith, append_assoc}
use Rattle.std.proofs.lemmas.Bool.{le-ltb, lt-ltb}
use Rattle.std.proofs.lemmas.List.{append-nil}
use Rattle.byteorder.specs.Endian.{little_number, little_bytes}
use Rattle.byteorder.specs.Numbers.{little_number-reads_back, length-bytes_low_first}
use Rattle.flatbuf.specs.declared.limits.TheConstants.{MAX_LEVELS}
use Rattle.flatbuf.specs.Lookup.{target, slot, Place}
use Rattle.flatbuf.specs.Walk.{span, spans, table_things, root_things}
use Rattle.flatbuf.specs.Held.{Has}
use Rattle.flatbuf.specs.Tree.{Tree}
use Rattle.ipc_message.specs.Framing.{Envelope, IsMessage, Framed, continuation_marker, message, next_message, message_things, message_table, version_of, type_of, body_length, message_faults, first_some}
use Rattle.ipc_write.specs.Trees.{message_tree}
use Rattle.ipc_write.specs.Walked.{IsHeaderType}
use Rattle.ipc_write.specs.Written.{framed}
use Rattle.ipc_write.proofs.Fine.{Fine, fine_after, fine_more, fine_span, fine_spans, fine_table}

-- the Message table as it was written
pub message_fine : (metadata : List ℕ) (type body_len : ℕ) (header : Tree) → 4 ≤ length metadata → Has metadata (target metadata 0) (message_tree type header body_len) → Fine metadata (message_things metadata) 0 1
unfolding message_things root_things
message_fine metadata type body_len header long has =
    let t : Place = message_table metadata in
    let s = has.1 in
    let root = fine_more metadata (span 0 4 ∷ []) (table_things MAX_LEVELS metadata (target metadata 0)) 0 1 (fine_span metadata 0 4 0 (omega arith)) (fine_table metadata MAX_LEVELS (target metadata 0) 4 0 has.0 (omega arith) (omega arith)) in
    let a1 = fine_after metadata (root_things metadata) (spans 2 (slot metadata t 0)) 0 1 root (fine_spans metadata 2 (slot metadata t 0) s.0.0 1 s.0.1 s.0.3) in
    let a2 = fine_after metadata (root_things metadata ++ spans 2 (slot metadata t 0)) (spans 1 (slot metadata t 1)) 0 1 a1 (fine_spans metadata 1 (slot metadata t 1) s.1.0.0 1 s.1.0.1 s.1.0.3) in
    let a3 = fine_after metadata (root_things metadata ++ spans 2 (slot metadata t 0) ++ spans 1 (slot metadata t 1)) (spans 4 (slot metadata t 2)) 0 1 a2 (fine_spans metadata 4 (slot metadata t 2) s.1.1.0.0 1 s.1.1.0.1 s.1.1.0.2) in
    fine_after metadata (root_things metadata ++ spans 2 (slot metadata t 0) ++ spans 1 (slot metadata t 1) ++ spans 4 (slot metadata t 2)) (spans 8 (slot metadata t 3)) 0 1 a3 (fine_spans metadata 8 (slot metadata t 3) s.1.1.1.0.0 1 s.1.1.1.0.1 s.1.1.1.0.3)

pub version_read : (metadata : List ℕ) (type body_len : ℕ) (header : Tree) → Has metadata (target metadata 0) (message_tree type header body_len) → version_of metadata ≡ 4
unfolding version_of
version_read metadata type body_len header has = rw (has.1.0.1) has.1.0.2

pub type_read : (metadata : List ℕ) (type body_len : ℕ) (header : Tree) → Has metadata (target metadata 0) (message_tree type header body_len) → type_of metadata ≡ type
unfolding type_of
type_read metadata type body_len header has = rw (has.1.1.0.1) has.1.1.0.2

pub body_read : (metadata : List ℕ) (type body_len : ℕ) (header : Tree) → Has metadata (target metadata 0) (message_tree type header body_len) → body_length metadata ≡ body_len
unfolding body_length
body_read metadata type body_len header has = rw (has.1.1.1.1.0.1) has.1.1.1.1.0.2

pub message_sound : (metadata : List ℕ) (type body_len following : ℕ) (header : Tree) → IsHeaderType type → 4 ≤ length metadata → body_len < 2 ^ 63 → body_len ≤ following
    → Has metadata (target metadata 0) (message_tree type header body_len) → first_some (message_faults metadata following) ≡ None
unfolding message_faults
message_sound metadata type body_len following header known long small whole has =
    rw (
      message_fine metadata type body_len header long has,
      version_read metadata type body_len header has,
      type_read metadata type body_len header has,
      known,
      body_read metadata type body_len header has,
      lt-ltb body_len (2 ^ 63) small,
      le-ltb following body_len whole,
    ) refl

-- a framed message stands at the front, as ipc_message tells it
abbrev pub NextMessages : Type 0
NextMessages = (bytes others : List ℕ) (m : Envelope) → IsMessage m → Framed bytes m others → next_message bytes ≡ Ok (message m)

-- what was framed stands at the front
pub next_message_again : NextMessages → (metadata body rest : List ℕ) (type : ℕ) (header : Tree) → IsHeaderType type → 4 ≤ length metadata → length metadata ≤ 16777216 → length body < 2 ^ 63
    → Has metadata (target metadata 0) (message_tree type header (length body)) → next_message (framed metadata body ++ rest) ≡ Ok (message (record { metadata = metadata; body = body }))
next_message_again next_messages metadata body rest type header known long short small has =
    let n : ℕ = length metadata in
    let m : Envelope = record { metadata = metadata; body = body } in
    let good : IsMessage m = record {
      small = short;
      some = omega arith;
      sound = message_sound metadata type (length body) (length body) header known long small (omega arith) has;
      whole = sym (body_read metadata type (length body) header has);
    } in
    let stands : Framed (framed metadata body ++ rest) m rest = record {
      size = little_bytes 4 n;
      parts = ap (λ (x : List ℕ). continuation_marker ++ x) (append_assoc (little_bytes 4 n) (metadata ++ body) rest ∙ ap (λ (x : List ℕ). little_bytes 4 n ++ x) (append_assoc metadata body rest));
      four = length-bytes_low_first 0 4 n;
      size_is = ap (little_number 4) (sym (append-nil (little_bytes 4 n))) ∙ little_number-reads_back 4 n [] (omega arith);
    } in
    next_messages (framed metadata body ++ rest) rest m good stands
