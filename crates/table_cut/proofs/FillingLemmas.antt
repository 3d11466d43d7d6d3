-- Rows have at most one value each in a dictionary that stands below no list.
use Rattle.std.specs.Prelude.{Option, Some, None, is_some, slice_get, option_to_list}
use Rattle.std.specs.List.{list_all, flat_map}
use Rattle.std.proofs.Common.{◌≡◌, ◌≤◌, ◌+◌, ◌∷◌, [], ℕ, Bool, true, false, List, map, length, refl, ap, ◌∙◌, arith, length-append}
use Rattle.std.proofs.lemmas.Bool.{and_from, or_from, or_parts, le-leb, leb-true, not-false}
use Rattle.std.proofs.lemmas.List.Folds.{list_all-append}
use Rattle.std.proofs.lemmas.List.{length-map}
use Rattle.arrow_schema.specs.Column.{Index, Kind, Column, Columns, PlainSchema, columns_of, lists, large_lists, fixed_lists, structs, column, no_column, and_column}
use Rattle.cells.specs.Cell.{Cell}
use Rattle.cells.specs.Dictionary.{own_holding, entry_limit, is_within, has_limit, is_limited, is_kind_limited, is_any_limited, has_few_entries, holdings, holdings_below, holdings_from, entries_of, item_list, part_list, cells_at, dictionaries_fit}
use Rattle.cells.specs.laws.Entries.{entries_few}
use Rattle.table_cut.specs.inner.Filling.{can_exceed, can_fill, can_kind_fill, can_any_fill, can_rows_fill}

-- ---- counts of values

fewer_within : (limit : Option ℕ) (n m : ℕ) → m ≤ n → is_within limit n ≡ true → is_within limit m ≡ true
fewer_within None n m le h = refl
fewer_within (Some most) n m le h = le-leb m most (omega (arith, le, leb-true n most h))

any_within : (limit : Option ℕ) (n : ℕ) → is_some limit ≡ false → is_within limit n ≡ true
any_within None n free = refl
any_within (Some most) n free = cc

value_few : (o : Option Cell) → length (option_to_list o) ≤ 1
value_few None = omega arith
value_few (Some x) = omega arith

cells_few : (i : ℕ) (rows : List (List Cell)) → length (cells_at i rows) ≤ length rows
cells_few i [] = omega arith
cells_few i (row ∷ rows) = omega (arith, length-append (option_to_list (slice_get row i)) (cells_at i rows), value_few (slice_get row i), cells_few i rows)

-- ---- where rows can fill no dictionary

own_fits : (values : Option ℕ) (o : Option Index) (cells : List Cell) → is_within values (length cells) ≡ true → can_exceed values o ≡ false → list_all has_few_entries (own_holding o cells) ≡ true
own_fits values None cells few free = refl
own_fits None (Some i) cells few free = rw (any_within (entry_limit i) (length (entries_of cells)) free) refl
own_fits (Some n) (Some i) cells few free =
    let le : length (entries_of cells) ≤ n = omega (arith, entries_few [] cells, leb-true (length cells) n few) in
    rw (fewer_within (entry_limit i) n (length (entries_of cells)) le (not-false (is_within (entry_limit i) n) free)) refl

mutual
  unfolding holdings holdings_below holdings_from can_fill can_kind_fill can_any_fill

  column_fits : (values : Option ℕ) (c : Column) (cells : List Cell) → is_within values (length cells) ≡ true → can_fill values c ≡ false → list_all has_few_entries (holdings c cells) ≡ true
  column_fits values (column name nullable kind dictionary pairs) cells few free =
      let both = or_parts (can_exceed values dictionary) (can_kind_fill values kind) free in
      list_all-append has_few_entries (own_holding dictionary cells) (holdings_below kind cells) ∙ and_from _ _ (own_fits values dictionary cells few both.0) (below_fits values kind cells few both.1)

  below_fits : (values : Option ℕ) (k : Kind) (cells : List Cell) → is_within values (length cells) ≡ true → can_kind_fill values k ≡ false → list_all has_few_entries (holdings_below k cells) ≡ true
  below_fits values (lists item) cells few free = column_fits None item (flat_map item_list cells) refl free
  below_fits values (large_lists item) cells few free = column_fits None item (flat_map item_list cells) refl free
  below_fits values (fixed_lists size item) cells few free = column_fits None item (flat_map item_list cells) refl free
  below_fits values (structs columns) cells few free =
      all_fit values 0 columns (map part_list cells) (ap (is_within values) (length-map cells part_list) ∙ few) free
  below_fits values _ cells few free = refl

  all_fit : (values : Option ℕ) (i : ℕ) (cs : Columns) (rows : List (List Cell)) → is_within values (length rows) ≡ true → can_any_fill values cs ≡ false → list_all has_few_entries (holdings_from i cs rows) ≡ true
  all_fit values i no_column rows few free = refl
  all_fit values i (and_column c cs) rows few free =
      let both = or_parts (can_fill values c) (can_any_fill values cs) free in
      list_all-append has_few_entries (holdings c (cells_at i rows)) (holdings_from (i + 1) cs rows)
      ∙ and_from _ _ (column_fits values c (cells_at i rows) (fewer_within values (length rows) (length (cells_at i rows)) (cells_few i rows) few) both.0) (all_fit values (i + 1) cs rows few both.1)

pub rows_fill_none : (n : ℕ) (s : PlainSchema) (rows : List (List Cell)) → can_rows_fill n (columns_of s.columns) ≡ false → length rows ≤ n → dictionaries_fit s rows ≡ true
rows_fill_none n s rows free few = all_fit (Some n) 0 (columns_of s.columns) rows (le-leb (length rows) n few) free

-- ---- a dictionary that can be filled has a limit

own_free : (values : Option ℕ) (o : Option Index) → has_limit o ≡ false → can_exceed values o ≡ false
own_free values None free = refl
own_free None (Some i) free = free
own_free (Some n) (Some i) free = rw (any_within (entry_limit i) n free) refl

mutual
  unfolding is_limited is_kind_limited is_any_limited can_fill can_kind_fill can_any_fill

  column_free : (values : Option ℕ) (c : Column) → is_limited c ≡ false → can_fill values c ≡ false
  column_free values (column name nullable kind dictionary pairs) free =
      let both = or_parts (has_limit dictionary) (is_kind_limited kind) free in
      or_from _ _ (own_free values dictionary both.0) (below_free values kind both.1)

  below_free : (values : Option ℕ) (k : Kind) → is_kind_limited k ≡ false → can_kind_fill values k ≡ false
  below_free values (lists item) free = column_free None item free
  below_free values (large_lists item) free = column_free None item free
  below_free values (fixed_lists size item) free = column_free None item free
  below_free values (structs columns) free = all_free values columns free
  below_free values _ free = refl

  all_free : (values : Option ℕ) (cs : Columns) → is_any_limited cs ≡ false → can_any_fill values cs ≡ false
  all_free values no_column free = refl
  all_free values (and_column c cs) free =
      let both = or_parts (is_limited c) (is_any_limited cs) free in
      or_from _ _ (column_free values c both.0) (all_free values cs both.1)

limited_by : (n : ℕ) (cs : Columns) (b : Bool) → is_any_limited cs ≡ b → can_rows_fill n cs ≡ true → b ≡ true
limited_by n cs true is filled = refl
limited_by n cs false is filled = let free = all_free (Some n) cs is in cc

pub filled_is_limited : (n : ℕ) (cs : Columns) → can_rows_fill n cs ≡ true → is_any_limited cs ≡ true
filled_is_limited n cs filled = limited_by n cs (is_any_limited cs) refl filled
