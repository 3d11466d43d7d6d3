-- What the dictionary columns have seen in the rows of a piece, column by column.
use Rattle.std.specs.Prelude.{◌≡◌, ℕ, Bool, true, ◌&&◌, List, [], ◌∷◌, map, length, Option}
use Rattle.arrow_schema.specs.Column.{columns_of, PlainSchema}
use Rattle.cells.specs.Cell.{Cell}
use Rattle.cells.specs.Dictionary.{Holding, entries_of, entry_limit, with_entries, is_within, is_any_limited, holdings_of}
use Rattle.cells.specs.Entry.{entry_cell}
use Rattle.cells.specs.declared.entry.Entry.{Entry}
use Rattle.indexmap.specs.IndexSet.{IndexSet}
use Rattle.table_cut.specs.declared.holding.Held.{Held}
use Rattle.columns.specs.Borrowed.{borrowed_cell}

-- the cells of a dictionary column, and how many entries its indices can name
pub record LimitedCells : Type 0 where
  pub limit : Option ℕ
  pub cells : List Cell

abbrev pub held_of : Holding → LimitedCells
held_of h = record { limit = entry_limit h.index; cells = h.cells }

abbrev pub held_in : Held → LimitedCells
held_in h = record { limit = h.limit; cells = map borrowed_cell h.cells.items }

abbrev pub entries_held : LimitedCells → List Cell
entries_held h = entries_of h.cells

abbrev pub entries_in : {S : Type 0} → IndexSet Entry S → List Cell
entries_in set = map entry_cell set.keys

-- the entries of each column, and of the cells that it has besides
abbrev pub with_all : List (List Cell) → List LimitedCells → List (List Cell)
with_all [] helds = []
with_all (e ∷ es) [] = e ∷ es
with_all (e ∷ es) (h ∷ hs) = with_entries e h.cells ∷ with_all es hs

-- no column has more entries than its indices can name
abbrev pub are_within : List LimitedCells → List (List Cell) → Bool
are_within [] es = true
are_within (h ∷ hs) [] = true
are_within (h ∷ hs) (e ∷ es) = is_within h.limit (length e) && are_within hs es

-- if a dictionary has a limit, these are the entries of all dictionaries in some rows
abbrev pub AreSeen : PlainSchema → List (List Cell) → List (List Cell) → Type 0
AreSeen s rows entries = is_any_limited (columns_of s.columns) ≡ true → entries ≡ map (λ h. entries_of h.cells) (holdings_of s rows)
