-- The bytes of a tree from a cursor on (docs/formats/writing.md; FlatBuffers internals). Gaps are zero bytes, and numbers are little-endian.
use Rattle.std.specs.Prelude.{ℕ, suc, ◌+◌, ◌-◌, ◌*◌, ◌%◌, List, [], ◌∷◌, ◌++◌, length, replicate}
use Rattle.byteorder.specs.Endian.{little_bytes}
use Rattle.flatbuf.specs.Tree.{Tree, Nodes, Slots, table, text, references, structs, no_node, and_node, no_slot, absent, scalar, refers}

-- the distance to the next multiple of m
abbrev pub gap : ℕ → ℕ → ℕ
gap m cursor = (m - cursor % m) % m

-- the number of nodes
abbrev pub count_of : Nodes → ℕ
count_of no_node = 0
count_of (and_node n ns) = suc (count_of ns)

-- the number of slots of a table
abbrev pub slots_of : Slots → ℕ
slots_of no_slot = 0
slots_of (absent rest) = suc (slots_of rest)
slots_of (scalar w n rest) = suc (slots_of rest)
slots_of (refers n rest) = suc (slots_of rest)

-- the size of the inline part, if the slots so far end at this offset
abbrev pub inline_end : ℕ → Slots → ℕ
inline_end offset no_slot = offset + gap 4 offset
inline_end offset (absent rest) = inline_end offset rest
inline_end offset (scalar w n rest) = inline_end (offset + gap w offset + w) rest
inline_end offset (refers n rest) = inline_end (offset + gap 4 offset + 4) rest

-- the entries of the vtable: the distance of each slot
abbrev pub distances : ℕ → Slots → List ℕ
distances offset no_slot = []
distances offset (absent rest) = little_bytes 2 0 ++ distances offset rest
distances offset (scalar w n rest) = little_bytes 2 (offset + gap w offset) ++ distances (offset + gap w offset + w) rest
distances offset (refers n rest) = little_bytes 2 (offset + gap 4 offset) ++ distances (offset + gap 4 offset + 4) rest

-- the inline part of a table at a position whose slots refer to these positions, in order
unfoldable pub inline : ℕ → ℕ → List ℕ → Slots → List ℕ
inline at offset starts no_slot = replicate (gap 4 offset) 0
inline at offset starts (absent rest) = inline at offset starts rest
inline at offset starts (scalar w n rest) = replicate (gap w offset) 0 ++ (little_bytes w n ++ inline at (offset + gap w offset + w) starts rest)
inline at offset [] (refers n rest) = []
inline at offset (s ∷ starts) (refers n rest) =
    replicate (gap 4 offset) 0 ++ (little_bytes 4 (s - (at + offset + gap 4 offset)) ++ inline at (offset + gap 4 offset + 4) starts rest)

-- references from a position on to these positions
unfoldable pub links : ℕ → List ℕ → List ℕ
links at [] = []
links at (s ∷ starts) = little_bytes 4 (s - at) ++ links (at + 4) starts

-- structs of two numbers each, one after another
unfoldable pub struct_bytes : List (ℕ × ℕ) → List ℕ
struct_bytes [] = []
struct_bytes (p ∷ ps) = little_bytes 8 p.0 ++ (little_bytes 8 p.1 ++ struct_bytes ps)

-- the size of a table's vtable
abbrev pub vtable_len : Slots → ℕ
vtable_len slots = 4 + 2 * slots_of slots

-- where a table begins
abbrev pub table_start : ℕ → Slots → ℕ
table_start cursor slots = cursor + vtable_len slots + gap 8 (cursor + vtable_len slots)

-- where a node begins that is written at a cursor
abbrev pub start : ℕ → Tree → ℕ
start cursor (table slots) = table_start cursor slots
start cursor (text bytes) = cursor + gap 4 cursor
start cursor (references nodes) = cursor + gap 4 cursor
start cursor (structs ps) = cursor + gap 8 (cursor + 4)

-- the vtable, which ends where its table begins
abbrev pub vtable : ℕ → Slots → List ℕ
vtable cursor slots =
    replicate (gap 8 (cursor + vtable_len slots)) 0 ++ (little_bytes 2 (vtable_len slots) ++ (little_bytes 2 (inline_end 4 slots) ++ distances 4 slots))

unfoldable mutual
  -- the bytes of a node
  pub laid : ℕ → Tree → List ℕ
  laid cursor (text bytes) = replicate (gap 4 cursor) 0 ++ (little_bytes 4 (length bytes) ++ (bytes ++ 0 ∷ []))
  laid cursor (references nodes) =
      let first = cursor + gap 4 cursor + 4 in
      let below = first + 4 * count_of nodes in
      replicate (gap 4 cursor) 0 ++ (little_bytes 4 (count_of nodes) ++ (links first (starts below nodes) ++ laid_all below nodes))
  laid cursor (structs ps) = replicate (gap 8 (cursor + 4)) 0 ++ (little_bytes 4 (length ps) ++ struct_bytes ps)
  laid cursor (table slots) =
      let at = table_start cursor slots in
      let below = at + inline_end 4 slots in
      vtable cursor slots ++ (little_bytes 4 (vtable_len slots) ++ (inline at 4 (slot_starts below slots) slots ++ laid_slots below slots))

  -- nodes, one after another
  pub laid_all : ℕ → Nodes → List ℕ
  laid_all cursor no_node = []
  laid_all cursor (and_node n ns) = laid cursor n ++ laid_all (cursor + length (laid cursor n)) ns

  -- where each of them begins
  pub starts : ℕ → Nodes → List ℕ
  starts cursor no_node = []
  starts cursor (and_node n ns) = start cursor n ∷ starts (cursor + length (laid cursor n)) ns

  -- what the slots of a table refer to, in slot order
  pub laid_slots : ℕ → Slots → List ℕ
  laid_slots cursor no_slot = []
  laid_slots cursor (absent rest) = laid_slots cursor rest
  laid_slots cursor (scalar w n rest) = laid_slots cursor rest
  laid_slots cursor (refers n rest) = laid cursor n ++ laid_slots (cursor + length (laid cursor n)) rest

  -- where each of these begins
  pub slot_starts : ℕ → Slots → List ℕ
  slot_starts cursor no_slot = []
  slot_starts cursor (absent rest) = slot_starts cursor rest
  slot_starts cursor (scalar w n rest) = slot_starts cursor rest
  slot_starts cursor (refers n rest) = start cursor n ∷ slot_starts (cursor + length (laid cursor n)) rest

-- the metadata of a message: the position of its root, the root, and zeros up to a multiple of 8
unfoldable pub metadata : Tree → List ℕ
metadata root = little_bytes 4 (start 4 root) ++ (laid 4 root ++ replicate (gap 8 (4 + length (laid 4 root))) 0)
