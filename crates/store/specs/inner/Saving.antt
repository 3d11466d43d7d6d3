-- The answers of a saved query on the table of an entry.
use Rattle.std.specs.Prelude.{◌≡◌, ◌⊎◌, ℕ, Bool, List, Result, Ok, Err}
use Rattle.sector_dev.specs.Disk.{Image}
use Rattle.arrow_schema.specs.Column.{PlainSchema}
use Rattle.catalogue.specs.Entries.{PlainEntry}
use Rattle.cells.specs.Cell.{Cell, PlainTable}
use Rattle.query.specs.Query.{PlainQuery}
use Rattle.query.specs.Selection.{selection}
use Rattle.selection.specs.SelectionBuilder.{PlainBuilder, SelectsOf, builder_in, builder_after, table_built}
use Rattle.selection.specs.declared.selection_builder.SelectionBuilder.{SelectionBuilder}
use Rattle.tables.specs.declared.refusal.Refusal.{Refusal}
use Rattle.tables.specs.declared.refusal.Refusal.TheVariants.{OutOfMemory}
use Rattle.store_runs.specs.Changes.{PlainChange}
use Rattle.store_runs.specs.Deciding.{entry_selected, IsSaved, IsNotRead}

abbrev pub IsSelected : (tells : Bool) → Image → List ℕ → PlainQuery → Result PlainEntry Refusal → Result PlainChange Refusal → Type 0
IsSelected tells image to query tested answer =
    (answer ≡ Err OutOfMemory) ⊎ IsNotRead tells image (entry_selected tested) answer ⊎ IsSaved tells image to query tested answer

-- it builds the selections of tables of this schema by a query
pub record Selects (b : PlainBuilder) (s : PlainSchema) (q : PlainQuery) : Type 0 where
  pub answers : (t : PlainTable) → s ≡ t.schema → selection t q ≡ Ok (table_built (builder_after b t.rows))
  pub tables : SelectsOf b s

-- it is what another one is after these rows
abbrev pub HasSelected : (start : SelectionBuilder) → List (List Cell) → SelectionBuilder → Type 0
HasSelected start rows b = builder_in b ≡ builder_after (builder_in start) rows
