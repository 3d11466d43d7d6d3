-- A change in memory, as plain data.
use Rattle.std.specs.Prelude.{◌≡◌, ℕ, List, [], ◌∷◌, map, Option, Some, None, string_bytes}
use Rattle.catalogue.specs.View.{catalogue_of}
use Rattle.arrow_schema.specs.View.{schema_of}
use Rattle.cells.specs.Cell.{PlainTable}
use Rattle.ipc_canonical.specs.PieceStreams.{piece_streams, piece_counts}
use Rattle.store_changes.specs.declared.change.Edit.{Edit}
use Rattle.store_changes.specs.declared.change.Edit.TheVariants as edits
use Rattle.store_changes.specs.declared.change.SegmentRows.{SegmentRows}
use Rattle.store_changes.specs.declared.change.NewSegments.{NewSegments}
use Rattle.store_changes.specs.declared.change.NewSegments.TheVariants as news
use Rattle.store_changes.specs.declared.change.Change.{Change}
use Rattle.store_changes.specs.Under.{table_under}
use Rattle.store_changes.specs.Picked.{streams_at}
use Rattle.store_runs.specs.Changes.{PlainChange, put, PlainEdit, digest, exchange, extend, move, rebuild, remove}
use Rattle.store_runs.specs.Deciding.{pieces_put}

abbrev pub edit_of : Edit → PlainEdit
edit_of (edits.Put name schema) = put (string_bytes name) (schema_of schema)
edit_of (edits.Extend name) = extend (string_bytes name)
edit_of (edits.Move from to) = move (string_bytes from) (string_bytes to)
edit_of (edits.Remove name) = remove (string_bytes name)
edit_of (edits.Exchange name place count) = exchange (string_bytes name) place count
edit_of (edits.Digest digests) = digest digests.items
edit_of (edits.Rebuild old from made gone) = rebuild (catalogue_of old) from (catalogue_of made) gone.items

-- the rows of new segments as a table
abbrev pub rows_table : SegmentRows → PlainTable
rows_table new = table_under new.schema new.table

-- the new segments: the streams of its pieces, with the number of rows of each, or one segment of given bytes
abbrev pub new_streams : Option NewSegments → List (List ℕ)
new_streams None = []
new_streams (Some (news.Rows new)) = piece_streams (rows_table new)
new_streams (Some (news.Copied bytes rows)) = bytes.items ∷ []
new_streams (Some (news.Streams streams places rows)) = streams_at (map (λ s. s.items) streams.items) places.items

abbrev pub new_counts : Option NewSegments → List ℕ
new_counts None = []
new_counts (Some (news.Rows new)) = piece_counts (rows_table new)
new_counts (Some (news.Copied bytes rows)) = rows ∷ []
new_counts (Some (news.Streams streams places rows)) = rows.items

abbrev pub change_of : Change → PlainChange
change_of change = record { edit = edit_of change.edit; streams = new_streams change.new; counts = new_counts change.new }

-- the change that sets the table with this name: the pieces of its rows are the new segments
abbrev pub IsPut : (name : List ℕ) → PlainTable → PlainChange → Type 0
IsPut name table change = change ≡ pieces_put (put name table.schema) table
