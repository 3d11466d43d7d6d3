-- The batch that arrays are written as, and its body.
use Rattle.std.specs.Prelude.{◌≡◌, ◌≤◌, ℕ, true, List, map, length}
use Rattle.arrow_schema.specs.Column.{Columns}
use Rattle.arrow_schema.specs.Preorder.{preorder_all}
use Rattle.arrow_schema.specs.declared.limits.TheConstants.{MAX_FIELDS}
use Rattle.cells.specs.Cell.{Cell}
use Rattle.columns.specs.Alone.{cells_weight}
use Rattle.columns.specs.Array.{Arrays}
use Rattle.columns.specs.Buffers.{Node, nodes_of, buffers_of}
use Rattle.columns.specs.Buildable.{can_build_rows}
use Rattle.ipc_message.specs.Raw.{RawNode, RawBatch}
use Rattle.ipc_write.specs.Written.{batch_of, body}
use Rattle.arrays.specs.declared.limits.TheConstants.{MAX_SLOTS}

-- a node as it is in a batch
abbrev pub raw_node : Node → RawNode
raw_node n = record { length = n.slots; null_count = n.null_count }

abbrev pub raw_nodes : Columns → Arrays → List RawNode
raw_nodes columns arrays = map raw_node (nodes_of columns arrays)

-- the batch of `rows` rows
abbrev pub written_batch : Columns → Arrays → (rows : ℕ) → RawBatch
written_batch columns arrays rows = batch_of rows (raw_nodes columns arrays) (buffers_of columns arrays)

abbrev pub written_body : Columns → Arrays → List ℕ
written_body columns arrays = body (buffers_of columns arrays)

-- rows whose batch can be written and is accepted by a reader
pub record IsWritable (columns : Columns) (rows : List (List Cell)) : Type 0 where
  pub can : can_build_rows columns rows ≡ true
  pub few_columns : length (preorder_all columns) ≤ MAX_FIELDS
  pub few_rows : length rows ≤ MAX_SLOTS
  pub weighs : cells_weight columns rows ≤ MAX_SLOTS
