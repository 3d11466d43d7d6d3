-- Where nodes end that are written from a cursor on: the lengths of `Laid`, without its bytes.
use Rattle.std.specs.Prelude.{ℕ, ◌+◌, ◌*◌, length}
use Rattle.flatbuf.specs.Tree.{Tree, Nodes, Slots, table, text, references, structs, no_node, and_node, no_slot, absent, scalar, refers}
use Rattle.flatbuf.specs.Laid.{gap, count_of, inline_end, table_start}

abbrev mutual
  -- a node with all that it refers to
  pub end_at : ℕ → Tree → ℕ
  end_at cursor (text t) = cursor + gap 4 cursor + 5 + length t
  end_at cursor (structs ps) = cursor + 4 + gap 8 (cursor + 4) + 16 * length ps
  end_at cursor (references ns) = ends_at (cursor + gap 4 cursor + 4 + 4 * count_of ns) ns
  end_at cursor (table slots) = below_ends_at (table_start cursor slots + inline_end 4 slots) slots

  -- nodes, one after another
  pub ends_at : ℕ → Nodes → ℕ
  ends_at cursor no_node = cursor
  ends_at cursor (and_node n ns) = ends_at (end_at cursor n) ns

  -- what the slots of a table refer to
  pub below_ends_at : ℕ → Slots → ℕ
  below_ends_at cursor no_slot = cursor
  below_ends_at cursor (absent rest) = below_ends_at cursor rest
  below_ends_at cursor (scalar w n rest) = below_ends_at cursor rest
  below_ends_at cursor (refers n rest) = below_ends_at (end_at cursor n) rest
