-- The open exports: the entry at each opening, and the number of pieces that were given.
use Rattle.std.specs.Prelude.{◌≤◌, ◌<◌, ◌+◌, ◌^◌, ◌==◌, ◌||◌, ℕ, Bool, not, nat_le, if◌then◌else◌, List, [], ◌∷◌, ◌++◌, length, map, find, Option, Some, None}
use Rattle.std.specs.List.{filter, flat_map, AllByRecursion}
use Rattle.segments.specs.declared.run.Run.{Run}
use Rattle.segments.specs.Usages.{times_among}
use Rattle.arrow_schema.specs.Column.{PlainSchema}
use Rattle.catalogue.specs.declared.limits.TheConstants.{MAX_SEGMENTS}
use Rattle.catalogue.specs.declared.entry.Segment.{Segment}
use Rattle.catalogue.specs.Entries.{runs_in_segments}
use Rattle.export_book.specs.declared.book.TheConstants.{MAX_EXPORTS}

-- an open export: the entry at its opening, and the number of its pieces that were given
pub record PlainExport : Type 0 where
  pub id : ℕ
  pub schema : PlainSchema
  pub segments : List Segment
  pub given : ℕ

-- the exports in the order in which they were opened, and the id of the next one; 2 ^ 64 after the last one was used
pub record PlainBook : Type 0 where
  pub exports : List PlainExport
  pub next : ℕ

abbrev pub no_exports : PlainBook
no_exports = record { exports = []; next = 0 }

-- the runs that these exports protect from being overwritten, each as often as exports name it
abbrev pub runs_kept : List PlainExport → List Run
runs_kept exports = flat_map (λ (e : PlainExport). runs_in_segments e.segments) exports

-- each has a lower id than those after it
abbrev pub AreRising : List PlainExport → Type 0
AreRising [] = Unit {0}
AreRising (e ∷ es) = AllByRecursion (λ (o : PlainExport). e.id < o.id) es × AreRising es

-- a book of a store: not too many exports of tables, none of which names a run twice, with ids that were used
pub record IsBook (b : PlainBook) : Type 0 where
  pub few : length b.exports ≤ MAX_EXPORTS
  pub below : AllByRecursion (λ (e : PlainExport). e.id < b.next) b.exports
  pub rising : AreRising b.exports
  pub most : b.next ≤ 2 ^ 64
  pub short : AllByRecursion (λ (e : PlainExport). length e.segments ≤ MAX_SEGMENTS) b.exports
  pub once : AllByRecursion (λ (e : PlainExport). (run : Run) → times_among (runs_in_segments e.segments) run ≤ 1) b.exports

-- no further export can be opened
abbrev pub is_full : PlainBook → Bool
is_full b = nat_le MAX_EXPORTS (length b.exports) || nat_le (2 ^ 64) b.next

abbrev pub is_of : ℕ → PlainExport → Bool
is_of id e = e.id == id

-- the export with this id
abbrev pub open_at : PlainBook → ℕ → Option PlainExport
open_at b id = find (is_of id) b.exports

-- there are pieces left: the schema, one for each segment, and the end
abbrev pub MayGive : Option PlainExport → Type 0
MayGive None = Unit {0}
MayGive (Some e) = e.given < length e.segments + 2

-- with one more export, of which no piece was given
abbrev pub with_open : PlainSchema → List Segment → PlainBook → PlainBook
with_open schema segments b = record { exports = b.exports ++ record { id = b.next; schema = schema; segments = segments; given = 0 } ∷ []; next = b.next + 1 }

-- one more piece of it was given
abbrev pub gave : ℕ → PlainExport → PlainExport
gave id e = if is_of id e then record e { given = e.given + 1 } else e

abbrev pub with_given : ℕ → PlainBook → PlainBook
with_given id b = record { exports = map (gave id) b.exports; next = b.next }

-- the exports with other ids
abbrev pub others_of : ℕ → List PlainExport → List PlainExport
others_of id exports = filter (λ (e : PlainExport). not (is_of id e)) exports

-- without the export of this id
abbrev pub without : ℕ → PlainBook → PlainBook
without id b = record { exports = others_of id b.exports; next = b.next }
