-- The rows whose entries were noted.
use Rattle.std.specs.Prelude.{◌≡◌, List, [], map, Option, Some, None, Vec}
use Rattle.std.specs.Global.{Global}
use Rattle.arrow_schema.specs.Column.{PlainSchema}
use Rattle.cells.specs.Cell.{Cell}
use Rattle.cells.specs.declared.entry.Entry.{Entry}
use Rattle.indexmap.specs.IndexSet.{IndexSet}
use Rattle.table_cut.specs.declared.seen_rows.SeenRows.{SeenRows}
use Rattle.table_cut.specs.inner.Seen.{entries_in, AreSeen}

-- none, or those of which these are the entries of all dictionaries
abbrev pub AreNoted : {S : Type 0} → PlainSchema → List (List Cell) → Option (Vec (IndexSet Entry S) Global) → Type 0
AreNoted s rows None = rows ≡ []
AreNoted s rows (Some sets) = AreSeen s rows (map entries_in sets.items)

abbrev pub HaveSeen : PlainSchema → List (List Cell) → SeenRows → Type 0
HaveSeen s rows seen = AreNoted s rows seen.sets
