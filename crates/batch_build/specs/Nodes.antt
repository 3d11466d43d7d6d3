-- A batch as one array is added to it, piece by piece.
use Rattle.std.specs.Prelude.{ℕ, List, [], ◌∷◌, ◌++◌, length}
use Rattle.arrow_schema.specs.Column.{Kind, Column, texts, large_texts, binaries, large_binaries, lists, large_lists}
use Rattle.cells.specs.Cell.{Cell}
use Rattle.columns.specs.Buffers.{Node}
use Rattle.columns.specs.Built.{validity_of}
use Rattle.columns.specs.Tests.{unset_bits}
use Rattle.columns.specs.declared.numbers.OffsetWidth.{OffsetWidth}
use Rattle.columns.specs.declared.numbers.OffsetWidth.TheVariants.{Four, Eight}
use Rattle.batch_build.specs.Batch.{PlainBatch}

-- a node and a buffer more
unfoldable pub with_node : PlainBatch → Node → PlainBatch
with_node p node = record { nodes = p.nodes ++ node ∷ []; buffers = p.buffers; dictionaries = p.dictionaries }

unfoldable pub with_buffer : PlainBatch → List ℕ → PlainBatch
with_buffer p buffer = record { nodes = p.nodes; buffers = p.buffers ++ buffer ∷ []; dictionaries = p.dictionaries }

-- the node of cells of any type but that of nulls
abbrev pub node_of_cells : List Cell → Node
node_of_cells cells = record { slots = length cells; null_count = unset_bits (validity_of cells) (length cells) }

-- the node and the validity bitmap of cells
abbrev pub with_slots : PlainBatch → List Cell → PlainBatch
with_slots p cells = with_buffer (with_node p (node_of_cells cells)) (validity_of cells)

-- ---- types by the width of their offsets

abbrev pub text_kind : OffsetWidth → Kind
text_kind Four = texts
text_kind Eight = large_texts

abbrev pub binary_kind : OffsetWidth → Kind
binary_kind Four = binaries
binary_kind Eight = large_binaries

abbrev pub list_kind : OffsetWidth → Column → Kind
list_kind Four item = lists item
list_kind Eight item = large_lists item

-- ---- which slots are valid

-- the node and the validity bitmap of slots
abbrev pub with_validity : PlainBatch → (slots : ℕ) → (validity : List ℕ) → PlainBatch
with_validity p slots validity = with_buffer (with_node p (record { slots = slots; null_count = unset_bits validity slots })) validity
