-- A batch as the array of a column with a dictionary is added to it, piece by piece.
use Rattle.std.specs.Prelude.{List, [], ◌∷◌, ◌++◌, None}
use Rattle.std.specs.List.{flat_map}
use Rattle.arrow_schema.specs.Column.{Index, Kind}
use Rattle.cells.specs.Cell.{Cell}
use Rattle.cells.specs.Dictionary.{entries_of}
use Rattle.columns.specs.Built.{built_kind, index_bytes}
use Rattle.columns.specs.Tests.{typed}
use Rattle.batch_build.specs.Batch.{PlainBatch, PlainDictionary, dictionary_of, plain_column}
use Rattle.batch_build.specs.Nodes.{with_buffer, with_slots}

-- a dictionary more
unfoldable pub with_dictionary : PlainBatch → PlainDictionary → PlainBatch
with_dictionary p d = record { nodes = p.nodes; buffers = p.buffers; dictionaries = p.dictionaries ++ d ∷ [] }

-- the batch of a dictionary's values
abbrev pub values_batch : Kind → List Cell → PlainDictionary
values_batch kind entries = dictionary_of (typed (plain_column kind None) (built_kind kind entries))

-- the node, the validity bitmap and the indices of cells
abbrev pub with_indices : PlainBatch → Index → List Cell → PlainBatch
with_indices p index cells = with_buffer (with_slots p cells) (flat_map (index_bytes index (entries_of cells)) cells)
