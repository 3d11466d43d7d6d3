use Rattle.std.proofs.Common.{◌≡◌, ◌+◌, map, drop}
use Rattle.arrow_schema.specs.Column.{columns_of}
use Rattle.arrow_schema.specs.View.{column_of}
use Rattle.flatbuf.specs.View.{node_of}
use Rattle.ipc_write.specs.Trees.{ids_of_all, field_nodes}
use Rattle.ipc_write.specs.inner.Steps.{nodes_then}
use Rattle.ipc_write.proofs.fields.+fields.Given as goal

-- the nodes so far, and those of the fields that are left; the ids that these take
abbrev pub invariant-field_nodes-loop-field : goal.invariant-field_nodes-loop-field
invariant-field_nodes-loop-field l =
    (nodes_then (map node_of l.nodes.items) (field_nodes l.next_id (columns_of (map column_of (drop l.field-index l.fields)))) ≡ field_nodes l.fn.next_id (columns_of (map column_of l.fields)))
    × (l.next_id + ids_of_all (columns_of (map column_of (drop l.field-index l.fields))) ≡ l.fn.next_id + ids_of_all (columns_of (map column_of l.fields)))
