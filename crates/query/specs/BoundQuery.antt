-- A query that is bound to the columns of a table: what it selects depends on the rows alone, so the rows may come one part after another.
use Rattle.std.specs.Prelude.{ℕ, ◌-◌, List, map, filter, length, Option, Some, None}
use Rattle.cells.specs.Cell.{Cell, PlainTable}
use Rattle.query.specs.Bound.{Bound}
use Rattle.query.specs.Selection.{pick, limited, holds_all, selected}
use Rattle.query.specs.declared.bound_query.BoundQuery.{BoundQuery}
use Rattle.query.specs.inner.BoundView.{bound_in}

-- the places of the columns asked for, the conditions on the columns of the table, and the maximum number of rows
pub record PlainBoundQuery : Type 0 where
  pub places : List ℕ
  pub bounds : List Bound
  pub limit : Option ℕ

abbrev pub bound_query_in : BoundQuery → PlainBoundQuery
bound_query_in q = record { places = q.places.items; bounds = map bound_in q.bounds.items; limit = q.limit }

-- what it selects of a table
abbrev pub selected_by : PlainBoundQuery → PlainTable → PlainTable
selected_by q t = selected q.places q.bounds q.limit t

-- the rows for which all of its conditions hold
abbrev pub rows_held : PlainBoundQuery → List (List Cell) → List (List Cell)
rows_held q rows = filter (holds_all q.bounds) rows

-- what it selects of rows
abbrev pub rows_selected : PlainBoundQuery → List (List Cell) → List (List Cell)
rows_selected q rows = limited q.limit (map (pick q.places) (rows_held q rows))

-- what n rows leave of a limit
abbrev pub limit_after : Option ℕ → ℕ → Option ℕ
limit_after None n = None
limit_after (Some most) n = Some (most - n)

-- what it asks of the rows that follow some rows
abbrev pub query_after : PlainBoundQuery → List (List Cell) → PlainBoundQuery
query_after q rows = record { places = q.places; bounds = q.bounds; limit = limit_after q.limit (length (rows_held q rows)) }
