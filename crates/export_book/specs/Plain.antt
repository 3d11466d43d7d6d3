-- The plain values of the parts of a book.
use Rattle.std.specs.Prelude.{◌^◌, ℕ, Bool, true, nat_lt, List, map, Option, Some, None}
use Rattle.catalogue.specs.Entries.{plain_entry}
use Rattle.export_book.specs.declared.export.OpenExport.{OpenExport}
use Rattle.export_book.specs.Book.{PlainExport, PlainBook}

abbrev pub plain_export : OpenExport → PlainExport
plain_export e = record { id = e.id; schema = (plain_entry e.entry).schema; segments = (plain_entry e.entry).segments; given = e.given }

-- the id of the next export
abbrev pub next_id : Option ℕ → ℕ
next_id None = 2 ^ 64
next_id (Some id) = id

-- the id has 64 bits
abbrev pub is_counted : Option ℕ → Bool
is_counted None = true
is_counted (Some id) = nat_lt id (2 ^ 64)

abbrev pub book_in : List OpenExport → Option ℕ → PlainBook
book_in exports next = record { exports = map plain_export exports; next = next_id next }
