-- The values that the dictionary columns of a schema hold in some rows, and how many entries their indices can name (Arrow columnar format,
-- "Dictionary-encoded layout").
use Rattle.std.specs.Prelude.{ℕ, ◌+◌, ◌^◌, ◌-◌, Bool, true, false, not, nat_le, bytes_eq, List, [], ◌∷◌, ◌++◌, map, length, Option, Some, None, if◌then◌else◌, slice_get, option_to_list, is_some, ◌||◌}
use Rattle.std.specs.List.{flat_map, list_any, list_all}
use Rattle.std.specs.Ordering.{int_eq}
use Rattle.arrow_schema.specs.Column.{Index, Kind, Column, Columns, nulls, booleans, integers, dates, timestamps, texts, large_texts, binaries, large_binaries, fixed_binaries, lists, large_lists, fixed_lists, structs, column, no_column, and_column, columns_of, PlainSchema}
use Rattle.cells.specs.Weight.{items_in, parts_in}
use Rattle.cells.specs.Cell.{Cell, null, boolean, number, text, bytes, items, parts, cell_list}

-- a dictionary column: its index type and its cells
pub record Holding : Type 0 where
  pub index : Index
  pub cells : List Cell

abbrev pub own_holding : Option Index → List Cell → List Holding
own_holding None cells = []
own_holding (Some i) cells = record { index = i; cells = cells } ∷ []

-- the items of a list, and the parts of a struct; a null has none
abbrev pub item_list : Cell → List Cell
item_list c = cell_list (items_in c)

abbrev pub part_list : Cell → List Cell
part_list c = cell_list (parts_in c)

-- the cells at one place of these rows
abbrev pub cells_at : ℕ → List (List Cell) → List Cell
cells_at i rows = flat_map (λ row. option_to_list (slice_get row i)) rows

unfoldable mutual
  -- the dictionary columns at and below a column with these cells, in preorder: rows in order, items in order, nothing below a null
  pub holdings : Column → List Cell → List Holding
  holdings (column name nullable kind dictionary pairs) = λ cells. own_holding dictionary cells ++ holdings_below kind cells

  pub holdings_below : Kind → List Cell → List Holding
  holdings_below nulls = λ cells. []
  holdings_below booleans = λ cells. []
  holdings_below (integers bits signed) = λ cells. []
  holdings_below (dates unit) = λ cells. []
  holdings_below (timestamps unit timezone) = λ cells. []
  holdings_below texts = λ cells. []
  holdings_below large_texts = λ cells. []
  holdings_below binaries = λ cells. []
  holdings_below large_binaries = λ cells. []
  holdings_below (fixed_binaries width) = λ cells. []
  holdings_below (lists item) = λ cells. holdings item (flat_map item_list cells)
  holdings_below (large_lists item) = λ cells. holdings item (flat_map item_list cells)
  holdings_below (fixed_lists size item) = λ cells. holdings item (flat_map item_list cells)
  holdings_below (structs columns) = λ cells. holdings_from 0 columns (map part_list cells)

  -- the same for several columns, of which the first is at place i of the rows
  pub holdings_from : ℕ → Columns → List (List Cell) → List Holding
  holdings_from i no_column = λ rows. []
  holdings_from i (and_column f fs) = λ rows. holdings f (cells_at i rows) ++ holdings_from (i + 1) fs rows

-- the dictionary columns of a schema, with their cells in these rows
abbrev pub holdings_of : PlainSchema → List (List Cell) → List Holding
holdings_of s rows = holdings_from 0 (columns_of s.columns) rows

-- two values are the same dictionary entry
abbrev pub is_entry : Cell → Cell → Bool
is_entry (boolean a) (boolean b) = if a then b else not b
is_entry (number a) (number b) = int_eq a b
is_entry (text a) (text b) = bytes_eq a b
is_entry (bytes a) (bytes b) = bytes_eq a b
is_entry _ _ = false

-- the entries, and this one if it is new
abbrev pub with_new : List Cell → Cell → List Cell
with_new entries c = if list_any (is_entry c) entries then entries else entries ++ c ∷ []

-- a value as an entry; a null, a list or a struct is none
abbrev pub entry_in : Cell → Option Cell
entry_in null = None
entry_in (boolean b) = Some (boolean b)
entry_in (number n) = Some (number n)
entry_in (text t) = Some (text t)
entry_in (bytes t) = Some (bytes t)
entry_in (items cs) = None
entry_in (parts cs) = None

abbrev pub with_option : List Cell → Option Cell → List Cell
with_option entries None = entries
with_option entries (Some c) = with_new entries c

abbrev pub with_entry : List Cell → Cell → List Cell
with_entry entries c = with_option entries (entry_in c)

unfoldable pub with_entries : List Cell → List Cell → List Cell
with_entries entries [] = entries
with_entries entries (c ∷ cs) = with_entries (with_entry entries c) cs

-- the distinct values that can be entries, in order of first occurrence
abbrev pub entries_of : List Cell → List Cell
entries_of cells = with_entries [] cells

-- how many entries an index type can name; indices of 32 bits and more count as unlimited
abbrev pub entry_limit : Index → Option ℕ
entry_limit i = if nat_le 32 i.bits then None else Some (if i.signed then 2 ^ (i.bits - 1) else 2 ^ i.bits)

abbrev pub is_within : Option ℕ → ℕ → Bool
is_within None n = true
is_within (Some most) n = nat_le n most

abbrev pub has_few_entries : Holding → Bool
has_few_entries h = is_within (entry_limit h.index) (length (entries_of h.cells))

-- in these rows no dictionary column holds more values than its indices can name
abbrev pub dictionaries_fit : PlainSchema → List (List Cell) → Bool
dictionaries_fit s rows = list_all has_few_entries (holdings_of s rows)

-- there is a dictionary and its indices have a limit
abbrev pub has_limit : Option Index → Bool
has_limit None = false
has_limit (Some i) = is_some (entry_limit i)

unfoldable mutual
  -- a dictionary at or below a column has a limit; if none has, no row can fill a dictionary
  pub is_limited : Column → Bool
  is_limited (column name nullable kind dictionary pairs) = has_limit dictionary || is_kind_limited kind

  pub is_kind_limited : Kind → Bool
  is_kind_limited nulls = false
  is_kind_limited booleans = false
  is_kind_limited (integers bits signed) = false
  is_kind_limited (dates unit) = false
  is_kind_limited (timestamps unit timezone) = false
  is_kind_limited texts = false
  is_kind_limited large_texts = false
  is_kind_limited binaries = false
  is_kind_limited large_binaries = false
  is_kind_limited (fixed_binaries width) = false
  is_kind_limited (lists item) = is_limited item
  is_kind_limited (large_lists item) = is_limited item
  is_kind_limited (fixed_lists size item) = is_limited item
  is_kind_limited (structs columns) = is_any_limited columns

  pub is_any_limited : Columns → Bool
  is_any_limited no_column = false
  is_any_limited (and_column f fs) = is_limited f || is_any_limited fs
