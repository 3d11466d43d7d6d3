-- Entries that a loop gathers, and columns that fill no dictionary.
use Rattle.std.proofs.Common.{◌≡◌, ℕ, ◌+◌, ◌<◌, true, ◌&&◌, List, [], length, map, refl, ap, ◌∙◌, arith, get_or, drop}
use Rattle.std.specs.Borrow.{Bor}
use Rattle.cells.specs.declared.value.Value.{Value}
use Rattle.cells.specs.View.{cell, cell_behind}
use Rattle.std.specs.Prelude.{Option, Some, None}
use Rattle.std.specs.List.{list_all}
use Rattle.std.proofs.lemmas.Bool.{le-leb, and_from}
use Rattle.std.proofs.lemmas.List.Folds.{list_all-append}
use Rattle.arrow_schema.specs.Column.{Index, Kind, Column, Columns, lists, large_lists, fixed_lists, structs, column, no_column, and_column, columns_of}
use Rattle.arrow_schema.specs.View.{column_of}
use Rattle.arrow_schema.specs.declared.types.Field.{Field}
use Rattle.cells.specs.Cell.{Cell}
use Rattle.cells.specs.Dictionary.{with_entry, with_entries, own_holding, entry_limit, is_within, has_few_entries, cells_at, holdings, holdings_below, holdings_from}
use Rattle.cells.specs.laws.Entries.{entries_grow, entries_few}
use Rattle.facts.specs.laws.Lists.{drop-item}

-- the step of a loop over cells
pub next_value : (es : List Cell) (cells : List (Bor Value)) (i : ℕ) (x : Bor Value) → i < length cells → x ≡ get_or cells i x
    → with_entries es (map cell_behind (drop i cells)) ≡ with_entries (with_entry es (cell x.now)) (map cell_behind (drop (i + 1) cells))
unfolding with_entries
next_value es cells i x lt is = rw (drop-item cells i x lt is) refl

pub ruleset entries_rules = (entries_grow, entries_few)

-- a column without cells fills no dictionary
unit_within : (o : Option ℕ) → is_within o 0 ≡ true
unit_within None = refl
unit_within (Some n) = le-leb 0 n (omega arith)

own_of_none : (o : Option Index) → list_all has_few_entries (own_holding o []) ≡ true
unfolding with_entries
own_of_none None = refl
own_of_none (Some i) = rw (unit_within (entry_limit i)) refl

mutual
  unfolding holdings holdings_below holdings_from

  pub holdings_of_none : (c : Column) → list_all has_few_entries (holdings c []) ≡ true
  holdings_of_none (column name nullable kind dictionary pairs) =
      list_all-append has_few_entries (own_holding dictionary []) (holdings_below kind []) ∙ and_from _ _ (own_of_none dictionary) (below_of_none kind)

  below_of_none : (k : Kind) → list_all has_few_entries (holdings_below k []) ≡ true
  below_of_none (lists item) = holdings_of_none item
  below_of_none (large_lists item) = holdings_of_none item
  below_of_none (fixed_lists size item) = holdings_of_none item
  below_of_none (structs columns) = from_of_none 0 columns
  below_of_none _ = refl

  from_of_none : (i : ℕ) (cs : Columns) → list_all has_few_entries (holdings_from i cs []) ≡ true
  from_of_none i no_column = refl
  from_of_none i (and_column c cs) =
      list_all-append has_few_entries (holdings c []) (holdings_from (i + 1) cs []) ∙ and_from _ _ (holdings_of_none c) (from_of_none (i + 1) cs)

pub ruleset holding_rules = (holdings_of_none, list_all-append)

-- the step of a loop over columns
pub next_column : (fs : List Field) (i : ℕ) (f : Field) (rows : List (List Cell)) → i < length fs → f ≡ get_or fs i f
    → list_all has_few_entries (holdings_from i (columns_of (map column_of (drop i fs))) rows)
    ≡ (list_all has_few_entries (holdings (column_of f) (cells_at i rows)) && list_all has_few_entries (holdings_from (i + 1) (columns_of (map column_of (drop (i + 1) fs))) rows))
unfolding holdings_from
next_column fs i f rows lt is =
    ap (λ (xs : List Field). list_all has_few_entries (holdings_from i (columns_of (map column_of xs)) rows)) (drop-item fs i f lt is)
    ∙ list_all-append has_few_entries (holdings (column_of f) (cells_at i rows)) (holdings_from (i + 1) (columns_of (map column_of (drop (i + 1) fs))) rows)
