-- The contents of a written batch and its shape, as plain values.
use Rattle.std.specs.Borrow.{Bor}
use Rattle.std.specs.Prelude.{◌≡◌, ℕ, List, map, length}
use Rattle.ipc_message.specs.Raw.{RawNode}
use Rattle.ipc_write.specs.Trees.{raw_node}
use Rattle.ipc_write.specs.Written.{HasRoom}
use Rattle.ipc_write.specs.declared.contents.BatchContents.{BatchContents}
use Rattle.ipc_write.specs.declared.contents.BatchShape.{BatchShape}

abbrev pub nodes_in : BatchContents → List RawNode
nodes_in contents = map raw_node contents.nodes.items

abbrev pub buffers_in : BatchContents → List (List ℕ)
buffers_in contents = map (λ (b : Bor (List ℕ)). b.now) contents.buffers.now

-- a message has room for the contents
abbrev pub CanBeWritten : BatchContents → Type 0
CanBeWritten contents = HasRoom (length contents.nodes.items) (buffers_in contents)

abbrev pub shape_nodes : BatchShape → List RawNode
shape_nodes shape = map raw_node shape.nodes.items

-- a message has room for buffers of these lengths
abbrev pub HasRoomFor : BatchShape → Type 0
HasRoomFor shape = (buffers : List (List ℕ)) × ((map length buffers ≡ shape.lengths.now) × HasRoom (length shape.nodes.items) buffers)
