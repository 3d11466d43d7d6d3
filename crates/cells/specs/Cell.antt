-- Values and tables as plain trees, without their memory.
use Rattle.std.specs.Prelude.{ℕ, ℤ, Bool, List, [], ◌∷◌}
use Rattle.arrow_schema.specs.Column.{PlainSchema}

mutual
  -- a value: a text is its bytes; integers, dates and timestamps are numbers
  pub data Cell : Type 0 where
    null : Cell
    boolean : Bool → Cell
    number : ℤ → Cell
    text : List ℕ → Cell
    bytes : List ℕ → Cell
    items : Cells → Cell
    parts : Cells → Cell

  pub data Cells : Type 0 where
    no_cell : Cells
    and_cell : Cell → Cells → Cells

abbrev pub cells_of : List Cell → Cells
cells_of [] = no_cell
cells_of (c ∷ cs) = and_cell c (cells_of cs)

abbrev pub cell_list : Cells → List Cell
cell_list no_cell = []
cell_list (and_cell c cs) = c ∷ cell_list cs

-- a table: its schema, and its rows in order, each with one cell for each column
pub record PlainTable : Type 0 where
  pub schema : PlainSchema
  pub rows : List (List Cell)
