-- A dictionary whose indices are unlimited accepts any values.
use Rattle.std.proofs.Common.{◌≡◌, ℕ, ◌+◌, true, false, List, map, refl, ◌∙◌}
use Rattle.std.specs.Prelude.{Option, Some, None, is_some, length}
use Rattle.std.specs.List.{list_all, flat_map}
use Rattle.std.proofs.lemmas.Bool.{and_from, or_parts}
use Rattle.std.proofs.lemmas.List.Folds.{list_all-append}
use Rattle.arrow_schema.specs.Column.{Index, Kind, Column, Columns, columns_of, lists, large_lists, fixed_lists, structs, column, no_column, and_column, PlainSchema}
use Rattle.cells.specs.Cell.{Cell}
use Rattle.cells.specs.Dictionary.{own_holding, entry_limit, is_within, has_few_entries, holdings, holdings_below, holdings_from, entries_of, item_list, part_list, cells_at, has_limit, is_limited, is_kind_limited, is_any_limited, dictionaries_fit}

within_no_limit : (o : Option ℕ) (n : ℕ) → is_some o ≡ false → is_within o n ≡ true
within_no_limit None n h = refl
within_no_limit (Some m) n h = cc

own_unlimited : (o : Option Index) (cells : List Cell) → has_limit o ≡ false → list_all has_few_entries (own_holding o cells) ≡ true
own_unlimited None cells h = refl
own_unlimited (Some i) cells h = rw (within_no_limit (entry_limit i) (length (entries_of cells)) h) refl

mutual
  unfolding holdings holdings_below holdings_from is_limited is_kind_limited is_any_limited

  unlimited : (c : Column) (cells : List Cell) → is_limited c ≡ false → list_all has_few_entries (holdings c cells) ≡ true
  unlimited (column name nullable kind dictionary pairs) cells h =
      let both = or_parts (has_limit dictionary) (is_kind_limited kind) h in
      list_all-append has_few_entries (own_holding dictionary cells) (holdings_below kind cells) ∙ and_from _ _ (own_unlimited dictionary cells both.0) (below_unlimited kind cells both.1)

  below_unlimited : (k : Kind) (cells : List Cell) → is_kind_limited k ≡ false → list_all has_few_entries (holdings_below k cells) ≡ true
  below_unlimited (lists item) cells h = unlimited item (flat_map item_list cells) h
  below_unlimited (large_lists item) cells h = unlimited item (flat_map item_list cells) h
  below_unlimited (fixed_lists size item) cells h = unlimited item (flat_map item_list cells) h
  below_unlimited (structs columns) cells h = from_unlimited 0 columns (map part_list cells) h
  below_unlimited _ cells h = refl

  pub from_unlimited : (i : ℕ) (cs : Columns) (rows : List (List Cell)) → is_any_limited cs ≡ false → list_all has_few_entries (holdings_from i cs rows) ≡ true
  from_unlimited i no_column rows h = refl
  from_unlimited i (and_column c cs) rows h =
      let both = or_parts (is_limited c) (is_any_limited cs) h in
      list_all-append has_few_entries (holdings c (cells_at i rows)) (holdings_from (i + 1) cs rows) ∙ and_from _ _ (unlimited c (cells_at i rows) both.0) (from_unlimited (i + 1) cs rows both.1)

-- rows always fit if no dictionary has a limit
pub unlimited_fit : (s : PlainSchema) (rows : List (List Cell)) → is_any_limited (columns_of s.columns) ≡ false → dictionaries_fit s rows ≡ true
unlimited_fit s rows h = from_unlimited 0 (columns_of s.columns) rows h
