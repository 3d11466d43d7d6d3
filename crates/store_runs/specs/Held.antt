-- The tables that an image holds, if each segment can be read; and each table by itself, also if some segment can't be.
use Rattle.std.specs.Prelude.{◌==◌, ℕ, Bool, true, nat_eq, List, [], ◌∷◌, ◌++◌, length, map, replicate, Option, Some, None, option_map, Result, Ok, Err, if◌then◌else◌}
use Rattle.std.specs.List.{starts_with}
use Rattle.std.specs.Str.{bytes_eq}
use Rattle.sha2.specs.Sha256.{sha256}
use Rattle.sector_dev.specs.Disk.{Image}
use Rattle.segments.specs.Sectors.{bytes_at}
use Rattle.arrow_schema.specs.Column.{PlainSchema}
use Rattle.cells.specs.Cell.{Cell, PlainTable}
use Rattle.values.specs.Table.{Refusal, table_from}
use Rattle.ipc_message.specs.declared.fault.Fault.{Fault}
use Rattle.ipc_message.specs.Header.{supported_codes}
use Rattle.ipc_write.specs.Written.{schema_message}
use Rattle.ipc_canonical.specs.Canonical.{stream_parts}
use Rattle.ipc_stream.specs.Meaning.{meaning}
use Rattle.catalogue.specs.declared.entry.Segment.{Segment}
use Rattle.catalogue.specs.Entries.{PlainEntry, PlainCatalogue, row_count}
use Rattle.commit.specs.Standing as standings
use Rattle.commit.specs.Standing.{Standing, standing}
use Rattle.pages.specs.Stored.{stored_reading}
use Rattle.tables.specs.Tables.{Tables, no_tables, with_table}
use Rattle.store_runs.specs.Machine.{Held, no_store, broken, holds}

-- ---- a segment

-- the rows of the table that a stream means, if it has n rows
abbrev pub rows_where : ℕ → Result PlainTable Fault → Option (List (List Cell))
rows_where count (Err fault) = None
rows_where count (Ok table) = if length table.rows == count then Some table.rows else None

-- the rows that some bytes hold: a stream that begins with the message of this schema and means n rows
abbrev pub rows_in_bytes : PlainSchema → ℕ → Option (List ℕ) → Option (List (List Cell))
rows_in_bytes schema count None = None
rows_in_bytes schema count (Some bytes) = if starts_with nat_eq bytes (schema_message schema) then rows_where count (meaning supported_codes bytes) else None

-- the bytes that were read of a segment have the SHA-256 in its entry, if bytes were read and the entry has one
abbrev pub is_undamaged : (digest bytes : Option (List ℕ)) → Bool
is_undamaged None bytes = true
is_undamaged (Some digest) None = true
is_undamaged (Some digest) (Some bytes) = bytes_eq (sha256 bytes) digest

-- the bytes in a segment, if each of its sectors can be read
abbrev pub bytes_of : Segment → Image → Option (List ℕ)
bytes_of segment image = bytes_at image segment.place.run.start segment.place.bytes

-- the rows that some bytes of a segment hold: none if they have another digest
abbrev pub rows_in_segment : PlainSchema → Segment → (bytes : Option (List ℕ)) → Option (List (List Cell))
rows_in_segment schema segment bytes = if is_undamaged segment.digest bytes then rows_in_bytes schema segment.rows bytes else None

unfoldable pub segment_rows : PlainSchema → Segment → Image → Option (List (List Cell))
segment_rows schema segment image = rows_in_segment schema segment (bytes_of segment image)

-- ---- a table

-- rows followed by others, if both can be read
abbrev pub joined_rows : Option (List (List Cell)) → Option (List (List Cell)) → Option (List (List Cell))
joined_rows None others = None
joined_rows (Some rows) others = option_map (λ more. rows ++ more) others

unfoldable pub rows_held : PlainSchema → List Segment → Image → Option (List (List Cell))
rows_held schema [] image = Some []
rows_held schema (segment ∷ segments) image = joined_rows (segment_rows schema segment image) (rows_held schema segments image)

-- ---- an export

abbrev pub with_rows : Option (List (List Cell)) → Option (List (List (List Cell))) → Option (List (List (List Cell)))
with_rows None others = None
with_rows (Some rows) others = option_map (λ lists. rows ∷ lists) others

-- the rows of each of these segments, if all can be read
unfoldable pub rows_each : PlainSchema → List Segment → Image → Option (List (List (List Cell)))
rows_each schema [] image = Some []
rows_each schema (segment ∷ segments) image = with_rows (segment_rows schema segment image) (rows_each schema segments image)

-- the pieces of an export of these segments: the message of the schema, the messages of each segment's rows, and the end of stream
abbrev pub pieces_held : PlainSchema → List Segment → Image → Option (List (List ℕ))
pieces_held schema segments image = option_map (stream_parts schema) (rows_each schema segments image)

-- ---- the table of rows

-- the table of these rows, if they are a table
abbrev pub table_where : Result PlainTable Refusal → Option PlainTable
table_where (Ok table) = Some table
table_where (Err refusal) = None

abbrev pub table_of_rows : PlainSchema → Option (List (List Cell)) → Option PlainTable
table_of_rows schema None = None
table_of_rows schema (Some rows) = table_where (table_from schema rows)

abbrev pub table_held : Image → PlainEntry → Option PlainTable
table_held image entry = table_of_rows entry.schema (rows_held entry.schema entry.segments image)

-- ---- the tables

abbrev pub with_held : List ℕ → Option PlainTable → Option Tables → Option Tables
with_held name None others = None
with_held name (Some table) others = option_map (λ tables. with_table tables name table) others

-- the tables of a catalogue, if each can be read
unfoldable pub tables_held : Image → PlainCatalogue → Option Tables
tables_held image [] = Some no_tables
tables_held image (entry ∷ entries) = with_held entry.name (table_held image entry) (tables_held image entries)

-- ---- the tables one by one

-- the rows of a segment; if they can't be read, as many unknown ones as the catalogue counts
abbrev pub rows_or_unknown : ℕ → Option (List (List Cell)) → List (Option (List Cell))
rows_or_unknown count None = replicate count None
rows_or_unknown count (Some rows) = map (λ (row : List Cell). Some row) rows

-- the rows of segments, one segment after another
unfoldable pub rows_known : PlainSchema → List Segment → Image → List (Option (List Cell))
rows_known schema [] image = []
rows_known schema (segment ∷ segments) image = rows_or_unknown segment.rows (segment_rows schema segment image) ++ rows_known schema segments image

-- a table by itself; the rows of its segments that can be read are known
pub record HeldTable : Type 0 where
  pub name : List ℕ
  pub schema : PlainSchema
  pub rows : List (Option (List Cell))

abbrev pub held_entry : Image → PlainEntry → HeldTable
held_entry image e = record { name = e.name; schema = e.schema; rows = rows_known e.schema e.segments image }

-- each table of a catalogue
abbrev pub each_held : Image → PlainCatalogue → List HeldTable
each_held image c = map (held_entry image) c

abbrev pub with_row : List Cell → Option (List (List Cell)) → Option (List (List Cell))
with_row row others = option_map (λ rows. row ∷ rows) others

-- the rows, if each is known
abbrev pub all_known : List (Option (List Cell)) → Option (List (List Cell))
all_known [] = Some []
all_known (None ∷ others) = None
all_known (Some row ∷ others) = with_row row (all_known others)

-- each table as a catalogue lists it: its name, its schema and the number of its rows
abbrev pub listed_entry : PlainEntry → List ℕ × PlainSchema × ℕ
listed_entry e = (e.name, e.schema, row_count e)

abbrev pub each_listed : PlainCatalogue → List (List ℕ × PlainSchema × ℕ)
each_listed c = map listed_entry c

-- ---- what an image holds

abbrev pub held_tables : Option Tables → Held
held_tables None = broken
held_tables (Some tables) = holds tables

abbrev pub held_of : Image → Standing PlainCatalogue → Held
held_of image standings.no_store = no_store
held_of image (standings.damaged cause) = broken
held_of image (standings.rules k c) = held_tables (tables_held image c)

-- what an opening of an image on a device of this size finds
unfoldable pub held_by : ℕ → Image → Held
held_by size image = held_of image (standing stored_reading size image)
