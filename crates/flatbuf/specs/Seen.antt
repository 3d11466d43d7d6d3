-- What the reader's types show: the bytes, the places in them, and the numbers of tables entered and of levels left.
use Rattle.std.specs.Prelude.{ℕ, List, Option}
use Rattle.flatbuf.specs.declared.buf.Buf.{Buf}
use Rattle.flatbuf.specs.declared.buf.Budget.{Budget}
use Rattle.flatbuf.specs.declared.table.Table.{Table}
use Rattle.flatbuf.specs.declared.references.References.{References}
use Rattle.flatbuf.specs.Lookup.{Place, slot, targets}

-- the bytes of a buffer
abbrev pub buffer_bytes : Buf → List ℕ
buffer_bytes b = b.bytes.now

-- the number of tables that were entered
abbrev pub tables_in : Budget → ℕ
tables_in b = b.entered

-- the bytes that a table is in
abbrev pub bytes_of : Table → List ℕ
bytes_of t = t.bytes.now

-- its place in them
abbrev pub place_of : Table → Place
place_of t = record { at = t.at; vtable = t.vtable; size = t.size }

-- the number of levels of tables that may be below it
abbrev pub levels_of : Table → ℕ
levels_of t = t.left

-- where the content of its slot k is, if the slot is present
abbrev pub slot_of : Table → ℕ → Option ℕ
slot_of t k = slot (bytes_of t) (place_of t) k

-- the bytes that the references of a vector are in
abbrev pub bytes_behind : References → List ℕ
bytes_behind r = r.bytes.now

-- where each reference leads to
abbrev pub places_in : References → List ℕ
places_in r = targets r.count r.bytes.now r.first

-- the number of levels left for the tables that the references lead to
abbrev pub levels_behind : References → ℕ
levels_behind r = r.left
