-- The first node, and the buffer at a place.
use Rattle.std.proofs.Common.{◌≡◌, ℕ, zero, suc, ◌+◌, ◌*◌, ◌≤◌, ◌<◌, List, [], ◌∷◌, length, map, take, drop, get_or, refl, arith, ap}
use Rattle.byteorder.specs.Endian.{little_number}
use Rattle.ipc_message.specs.Raw.{RawNode, RawBuffer, nodes_in, buffers_in}
use Rattle.columns.specs.FromBuffers.{first_slots}
use Rattle.arrays.specs.Checks.{plain_node, buffer_bytes}
use Rattle.arrays.proofs.Raws.{node_at, buffer_at, next_node, next_buffer, count_nodes, count_buffers}

no_slots : (nodes : List RawNode) → length nodes ≡ 0 → first_slots (map plain_node nodes) ≡ 0
no_slots [] h = refl
no_slots (n ∷ nodes) h = absurd (omega arith)

pub no_first : (bytes : List ℕ) → length (nodes_in bytes) ≡ 0 → first_slots (map plain_node (nodes_in bytes)) ≡ 0
no_first bytes h = no_slots (nodes_in bytes) h

slots_of : (nodes : List RawNode) (n : RawNode) (others : List RawNode) → nodes ≡ n ∷ others → first_slots (map plain_node nodes) ≡ n.length
slots_of nodes n others h = rw h refl

pub first_is : (bytes : List ℕ) → 1 ≤ length (nodes_in bytes) → first_slots (map plain_node (nodes_in bytes)) ≡ little_number 8 (drop (16 * 0) bytes)
first_is bytes h = slots_of (nodes_in bytes) (node_at bytes 0) (drop 1 (nodes_in bytes)) (next_node bytes 0 (omega (arith, count_nodes bytes)))

at_place : (buffers : List RawBuffer) (f : RawBuffer → List ℕ) (k : ℕ) (b : RawBuffer) → drop k buffers ≡ b ∷ drop (suc k) buffers → get_or (map f buffers) k [] ≡ f b
at_place [] f zero b h = cc
at_place [] f (suc k) b h = cc
at_place (x ∷ xs) f zero b h = ap f cc
at_place (x ∷ xs) f (suc k) b h = at_place xs f k b h

pub buffer_is : (body buffers : List ℕ) (k : ℕ) → k < length (buffers_in buffers)
    → get_or (map (buffer_bytes body) (buffers_in buffers)) k [] ≡ take (little_number 8 (drop (16 * k + 8) buffers)) (drop (little_number 8 (drop (16 * k) buffers)) body)
buffer_is body buffers k lt =
    let e : k + 1 ≡ suc k = omega arith in
    at_place (buffers_in buffers) (buffer_bytes body) k (buffer_at buffers k) (rw e at (next_buffer buffers k (omega (arith, count_buffers buffers))))

past_place : (buffers : List RawBuffer) (f : RawBuffer → List ℕ) (k : ℕ) → length buffers ≤ k → get_or (map f buffers) k [] ≡ []
past_place [] f zero le = refl
past_place [] f (suc k) le = refl
past_place (x ∷ xs) f zero le = absurd (omega arith)
past_place (x ∷ xs) f (suc k) le = past_place xs f k (omega arith)

pub no_buffer : (body buffers : List ℕ) (k : ℕ) → length (buffers_in buffers) ≤ k → get_or (map (buffer_bytes body) (buffers_in buffers)) k [] ≡ []
no_buffer body buffers k le = past_place (buffers_in buffers) (buffer_bytes body) k le
