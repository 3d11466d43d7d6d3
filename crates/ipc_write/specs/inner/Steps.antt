-- Trees under construction: a part that is built, and then the rest.
use Rattle.std.specs.Prelude.{List, [], ◌∷◌}
use Rattle.flatbuf.specs.Tree.{Tree, Nodes, Slots, table, text, references, and_node, scalar, refers}
use Rattle.arrow_schema.specs.Column.{Column, column}
use Rattle.ipc_write.specs.Trees.{bit, code_of, type_tree, pairs_slot}

-- these slots, and then the rest
abbrev pub slots_then : List (Slots → Slots) → Slots → Slots
slots_then [] rest = rest
slots_then (s ∷ ss) rest = s (slots_then ss rest)

-- these nodes, and then the rest
abbrev pub nodes_then : List Tree → Nodes → Nodes
nodes_then [] rest = rest
nodes_then (n ∷ ns) rest = and_node n (nodes_then ns rest)

-- a Field with this dictionary slot and these children
abbrev pub field_table : Column → (Slots → Slots) → Nodes → Tree
field_table (column name nullable kind dictionary pairs) encoding children =
    table (refers (text name) (scalar 1 (bit nullable) (scalar 1 (code_of kind) (refers (type_tree kind)
    (encoding (refers (references children) (pairs_slot pairs)))))))
