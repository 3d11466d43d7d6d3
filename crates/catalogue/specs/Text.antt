-- The texts of a catalogue (docs/formats/store.md): the list of its tables, or a root and a page for each table. Every number is little-endian.
use Rattle.std.specs.Prelude.{ℕ, ◌+◌, List, [], ◌++◌, length, flat_map, sum_by, Option, Some, None}
use Rattle.byteorder.specs.Endian.{little_bytes}
use Rattle.ipc_write.specs.Written.{schema_message}
use Rattle.segments.specs.declared.extent.Extent.{Extent}
use Rattle.catalogue.specs.Entries.{PlainEntry, PlainCatalogue, PlainRoot}
use Rattle.catalogue.specs.declared.entry.Segment.{Segment}

-- a length in four bytes, and the bytes
abbrev pub sized : List ℕ → List ℕ
sized bytes = little_bytes 4 (length bytes) ++ bytes

-- a count in four bytes, and the text of each value
abbrev pub counted : {A : Type 0} → (A → List ℕ) → List A → List ℕ
counted text xs = little_bytes 4 (length xs) ++ flat_map text xs

-- three numbers of 64 bits: the first sector, the sectors, the bytes
abbrev pub extent_text : Extent → List ℕ
extent_text e = little_bytes 8 e.run.start ++ (little_bytes 8 e.run.count ++ little_bytes 8 e.bytes)

-- the bytes of a digest, if there is one
abbrev pub digest_text : Option (List ℕ) → List ℕ
digest_text None = []
digest_text (Some digest) = digest

-- the extent, the number of rows in 64 bits, and the digest if there is one
abbrev pub segment_text : Segment → List ℕ
segment_text s = extent_text s.place ++ (little_bytes 8 s.rows ++ digest_text s.digest)

-- a table without its name: the message of its schema, and its segments. This is the text of a page
unfoldable pub table_text : PlainEntry → List ℕ
table_text e = sized (schema_message e.schema) ++ counted segment_text e.segments

abbrev pub entry_text : PlainEntry → List ℕ
entry_text e = sized e.name ++ table_text e

-- the list of all tables
abbrev pub list_text : PlainCatalogue → List ℕ
list_text c = counted entry_text c

-- a root: the name of each table, and where its page lies
abbrev pub root_entry_text : PlainRoot → List ℕ
root_entry_text r = sized r.name ++ extent_text r.page

abbrev pub root_text : List PlainRoot → List ℕ
root_text rs = counted root_entry_text rs

-- the sizes of these texts in bytes; they do not depend on where runs start
abbrev pub segment_size : Segment → ℕ
segment_size s = 32 + length (digest_text s.digest)

abbrev pub table_size : PlainEntry → ℕ
table_size e = 8 + length (schema_message e.schema) + sum_by segment_size e.segments

abbrev pub entry_size : PlainEntry → ℕ
entry_size e = 4 + length e.name + table_size e

abbrev pub list_size : PlainCatalogue → ℕ
list_size c = 4 + sum_by entry_size c

abbrev pub root_size : List PlainRoot → ℕ
root_size rs = 4 + sum_by (λ (r : PlainRoot). 28 + length r.name) rs
