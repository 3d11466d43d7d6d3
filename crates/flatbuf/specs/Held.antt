-- What a reader finds where a tree was written.
use Rattle.std.specs.Prelude.{◌≡◌, ℕ, suc, ◌+◌, ◌*◌, ◌≤◌, ◌<◌, ◌^◌, List, [], ◌∷◌, length, take, drop, ⊤, Some, None}
use Rattle.flatbuf.specs.Lookup.{Place, number, target, slot, table_at, vtable_of}
use Rattle.flatbuf.specs.Tree.{Tree, Nodes, Slots, table, text, references, structs, no_node, and_node, no_slot, absent, scalar, refers}
use Rattle.flatbuf.specs.Laid.{count_of, slots_of, inline_end, vtable_len, struct_bytes}

-- a table with this many slots is at a position, and its vtable lies within the bytes
pub record HasHead (bytes : List ℕ) (at slots : ℕ) : Type 0 where
  pub vtable : ℕ
  pub found : vtable_of bytes at ≡ Some vtable
  pub size : number 2 bytes vtable ≡ 4 + 2 * slots
  pub head_in : at + 4 ≤ length bytes
  pub vtable_in : vtable + (4 + 2 * slots) ≤ length bytes

-- structs of two 64-bit numbers are at a position
abbrev pub HasStructs : List ℕ → ℕ → List (ℕ × ℕ) → Type 0
HasStructs bytes at [] = ⊤
HasStructs bytes at (p ∷ ps) = (number 8 bytes at ≡ p.0) × (number 8 bytes (at + 8) ≡ p.1) × HasStructs bytes (at + 16) ps

abbrev mutual
  -- the tree is at a position
  pub Has : List ℕ → ℕ → Tree → Type 0
  Has bytes at (text t) = (number 4 bytes at ≡ length t) × (take (length t) (drop (at + 4) bytes) ≡ t) × (at + 4 + length t ≤ length bytes)
  Has bytes at (references nodes) = (number 4 bytes at ≡ count_of nodes) × (at + 4 + 4 * count_of nodes ≤ length bytes) × HasAll bytes (at + 4) nodes
  Has bytes at (structs ps) = (number 4 bytes at ≡ length ps) × (take (16 * length ps) (drop (at + 4) bytes) ≡ struct_bytes ps) × (at + 4 + 16 * length ps ≤ length bytes) × HasStructs bytes (at + 4) ps
  Has bytes at (table slots) = HasHead bytes at (slots_of slots) × HasSlots bytes (table_at bytes at) 0 slots

  -- the references from a position on lead to these nodes
  pub HasAll : List ℕ → ℕ → Nodes → Type 0
  HasAll bytes at no_node = ⊤
  HasAll bytes at (and_node n ns) = Has bytes (target bytes at) n × HasAll bytes (at + 4) ns

  -- the slots of a table, from k on, are exactly these
  pub HasSlots : List ℕ → Place → ℕ → Slots → Type 0
  HasSlots bytes t k no_slot = (j : ℕ) → k ≤ j → slot bytes t j ≡ None
  HasSlots bytes t k (absent rest) = (slot bytes t k ≡ None) × HasSlots bytes t (suc k) rest
  HasSlots bytes t k (scalar w n rest) = ((p : ℕ) × (slot bytes t k ≡ Some p) × (number w bytes p ≡ n) × (p + w ≤ length bytes)) × HasSlots bytes t (suc k) rest
  HasSlots bytes t k (refers n rest) = ((p : ℕ) × (slot bytes t k ≡ Some p) × (p + 4 ≤ length bytes) × Has bytes (target bytes p) n) × HasSlots bytes t (suc k) rest

-- numbers of 64 bits
abbrev pub FitsStructs : List (ℕ × ℕ) → Type 0
FitsStructs [] = ⊤
FitsStructs (p ∷ ps) = (p.0 < 2 ^ 64) × (p.1 < 2 ^ 64) × FitsStructs ps

abbrev mutual
  -- each number fits its slot, and each table its vtable
  pub Fits : Tree → Type 0
  Fits (table slots) = (inline_end 4 slots < 2 ^ 16) × (vtable_len slots < 2 ^ 16) × FitsSlots slots
  Fits (text t) = ⊤
  Fits (references nodes) = FitsAll nodes
  Fits (structs ps) = FitsStructs ps

  pub FitsAll : Nodes → Type 0
  FitsAll no_node = ⊤
  FitsAll (and_node n ns) = Fits n × FitsAll ns

  pub FitsSlots : Slots → Type 0
  FitsSlots no_slot = ⊤
  FitsSlots (absent rest) = FitsSlots rest
  FitsSlots (scalar w n rest) = (n < 256 ^ w) × FitsSlots rest
  FitsSlots (refers n rest) = Fits n × FitsSlots rest
