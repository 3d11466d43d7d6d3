-- The plain tree that a node of the code stands for.
use Rattle.std.specs.Prelude.{List, [], ◌∷◌, map}
use Rattle.flatbuf.specs.declared.nodes.Node.{Node}
use Rattle.flatbuf.specs.declared.nodes.Slot.{Slot}
use Rattle.flatbuf.specs.declared.nodes.Node.TheOpen.{Node-F, Table, Text, References, Structs, Slot-F, Absent, Byte, Short, Word, Long, Refers}
use Rattle.flatbuf.specs.declared.nodes.Node.TheFolds.{fold-Node, fold-Slot}
use Rattle.flatbuf.specs.Tree.{Nodes, Slots, table, text, references, structs, no_node, and_node, no_slot, absent, scalar, refers}
use Rattle.flatbuf.specs.Tree as trees

-- the nodes of a list, and the slots of a list in which each slot is a function that puts it before others
abbrev pub nodes_of : List trees.Tree → Nodes
nodes_of [] = no_node
nodes_of (n ∷ ns) = and_node n (nodes_of ns)

abbrev pub slots_in : List (Slots → Slots) → Slots
slots_in [] = no_slot
slots_in (s ∷ ss) = s (slots_in ss)

abbrev pub node_step : Node-F trees.Tree (Slots → Slots) → trees.Tree
node_step (Table slots) = table (slots_in slots.items)
node_step (Text bytes) = text bytes.items
node_step (References nodes) = references (nodes_of nodes.items)
node_step (Structs ps) = structs ps.items

abbrev pub slot_step : Slot-F trees.Tree (Slots → Slots) → Slots → Slots
slot_step Absent = λ rest. absent rest
slot_step (Byte n) = λ rest. scalar 1 n rest
slot_step (Short n) = λ rest. scalar 2 n rest
slot_step (Word n) = λ rest. scalar 4 n rest
slot_step (Long n) = λ rest. scalar 8 n rest
slot_step (Refers node) = λ rest. refers node rest

abbrev pub node_of : Node → trees.Tree
node_of = fold-Node trees.Tree (Slots → Slots) node_step slot_step

abbrev pub slot_before : Slot → Slots → Slots
slot_before = fold-Slot trees.Tree (Slots → Slots) node_step slot_step

-- the nodes and the slots in lists of the code
abbrev pub all_nodes : List Node → Nodes
all_nodes nodes = nodes_of (map node_of nodes)

abbrev pub all_slots : List Slot → Slots
all_slots slots = slots_in (map slot_before slots)
