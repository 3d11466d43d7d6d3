-- The plain form of the values of the code, whatever memory they take.
use Rattle.std.specs.Prelude.{ℕ, List, ◌++◌, map}
use Rattle.std.specs.Global.{Vec}
use Rattle.std.specs.List.{flat_map}
use Rattle.batch_build.specs.Batch.{buffer_bytes}
use Rattle.batch_build.specs.declared.batch.Buffer.{Buffer}
use Rattle.arrow_schema.specs.Column.{PlainSchema}
use Rattle.ipc_encode.specs.declared.encoder.EncodedPieces.{EncodedPieces}
use Rattle.cells.specs.Cell.{PlainTable}

-- the bytes of parts one after another, wherever they stand
abbrev pub joined_parts : List Buffer → List ℕ
joined_parts parts = flat_map buffer_bytes parts

-- streams that begin with the same bytes and go on with parts
abbrev pub streams_behind : (front : List ℕ) → List (Vec Buffer) → List (List ℕ)
streams_behind front streams = map (λ (parts : Vec Buffer). front ++ joined_parts parts.items) streams

-- the bytes of each stream
abbrev pub streams_in : EncodedPieces → List (List ℕ)
streams_in pieces = streams_behind pieces.schema_message.items pieces.parts.items

-- the rows of a table, under a schema
abbrev pub with_schema : PlainSchema → PlainTable → PlainTable
with_schema s t = record { schema = s; rows = t.rows }
