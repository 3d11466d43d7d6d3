-- What holds of each array that cells of a column are written as holds of every array of a batch of rows.
use Rattle.std.specs.List.{AllByRecursion, flat_map, list_all, list_any}
use Rattle.std.proofs.Common.{◌≡◌, ℕ, ◌≤◌, Bool, true, false, List, [], ◌∷◌, ◌++◌, map, sum_by, Some, None, refl, arith, ap, sym, subst}
use Rattle.std.proofs.lemmas.Bool.{and_parts, or_from}
use Rattle.std.proofs.lemmas.List.Concat.{flat_map-cons}
use Rattle.arrow_schema.specs.Column.{Kind, Column, Columns, lists, large_lists, fixed_lists, structs, column, no_column, and_column}
use Rattle.arrow_schema.specs.Preorder.{preorder, preorder_below, preorder_all}
use Rattle.cells.specs.Cell.{Cell, cells_of}
use Rattle.cells.specs.Dictionary.{item_list, part_list}
use Rattle.cells.specs.Weight.{weight, kind_weight, parts_weight, parts_in}
use Rattle.cells.specs.laws.Cells.{cells_list}
use Rattle.columns.specs.Alone.{cells_weight}
use Rattle.columns.specs.Buildable.{are_nulls_or_fit, small_offset, large_offset, items_fit, can_build, can_build_below, can_build_parts}
use Rattle.columns.specs.Built.{fixed_items, built, built_kind, built_parts, first_cell, other_cells}
use Rattle.columns.specs.Tests.{Typed, typed, arrays_at, arrays_below, every_array}
use Rattle.columns.proofs.Pieces.{split, first_is, others_are}
use Rattle.columns.proofs.Weights.{sum_below, sum_map, items_weigh, fixed_weigh}

-- ---- all of some

pub both_all : {X : Type 0} (P : X → Type 0) (xs ys : List X) → AllByRecursion P xs → AllByRecursion P ys → AllByRecursion P (xs ++ ys)
both_all P [] ys a b = b
both_all P (x ∷ xs) ys a b = (a.0, both_all P xs ys a.1 b)

pub all_of_each : {X Y : Type 0} (P : Y → Type 0) (f : X → List Y) (xs : List X) → AllByRecursion (λ x. AllByRecursion P (f x)) xs → AllByRecursion P (flat_map f xs)
all_of_each P f [] a = tt
all_of_each {Y = Y} P f (x ∷ xs) a = subst (λ (ys : List Y). AllByRecursion P ys) (sym (flat_map-cons f x xs)) (both_all P (f x) (flat_map f xs) a.0 (all_of_each P f xs a.1))

pub none_of_all : {X : Type 0} (p : X → Bool) (xs : List X) → AllByRecursion (λ x. p x ≡ false) xs → list_any p xs ≡ false
none_of_all p [] a = refl
none_of_all p (x ∷ xs) a = or_from _ _ a.0 (none_of_all p xs a.1)

pub all_true : {X : Type 0} (xs : List X) → list_all (λ x. true) xs ≡ true
all_true [] = refl
all_true (x ∷ xs) = all_true xs

-- ---- every array

-- of columns that pass this test, and of cells that can be built and weigh so much at most
abbrev pub HoldsOfBuilt : (Column → Bool) → ℕ → (Typed → Type 0) → Type 0
HoldsOfBuilt passes most P = (c : Column) (cells : List Cell) → passes c ≡ true → can_build c cells ≡ true → sum_by (weight c) cells ≤ most → P (typed c (built c cells))

mutual
  unfolding built can_build arrays_at weight preorder

  column_each : (passes : Column → Bool) (most : ℕ) (P : Typed → Type 0) → HoldsOfBuilt passes most P → (c : Column) (cells : List Cell) → list_all passes (preorder c) ≡ true → can_build c cells ≡ true
      → sum_by (weight c) cells ≤ most → AllByRecursion P (arrays_at c (built c cells))
  column_each passes most P h (column name nullable kind None pairs) cells pass can small =
      let p = and_parts (are_nulls_or_fit kind cells) (can_build_below kind cells) can in
      let q = and_parts (passes (column name nullable kind None pairs)) (list_all passes (preorder_below kind)) pass in
      (h (column name nullable kind None pairs) cells q.0 can small, below_each passes most P h kind cells q.1 p.1 small)
  column_each passes most P h (column name nullable kind (Some index) pairs) cells pass can small =
      (h (column name nullable kind (Some index) pairs) cells (and_parts (passes (column name nullable kind (Some index) pairs)) (list_all passes (preorder_below kind)) pass).0 can small, tt)

  below_each : (passes : Column → Bool) (most : ℕ) (P : Typed → Type 0) → HoldsOfBuilt passes most P → (k : Kind) (cells : List Cell) → list_all passes (preorder_below k) ≡ true → can_build_below k cells ≡ true
      → sum_by (kind_weight k) cells ≤ most → AllByRecursion P (arrays_below k (built_kind k cells))
  below_each passes most P h (lists item) cells pass can small =
      let below = sum_below item_list (weight item) (kind_weight (lists item)) (λ x. omega (arith, items_weigh (weight item) x)) cells in
      column_each passes most P h item (flat_map item_list cells) pass (and_parts (items_fit small_offset cells) _ can).1 (omega (arith, below, small))
  below_each passes most P h (large_lists item) cells pass can small =
      let below = sum_below item_list (weight item) (kind_weight (large_lists item)) (λ x. omega (arith, items_weigh (weight item) x)) cells in
      column_each passes most P h item (flat_map item_list cells) pass (and_parts (items_fit large_offset cells) _ can).1 (omega (arith, below, small))
  below_each passes most P h (fixed_lists size item) cells pass can small =
      let below = sum_below (fixed_items size) (weight item) (kind_weight (fixed_lists size item)) (λ x. omega (arith, fixed_weigh size (weight item) x)) cells in
      column_each passes most P h item (flat_map (fixed_items size) cells) pass can (omega (arith, below, small))
  below_each passes most P h (structs columns) cells pass can small =
      let below = sum_map part_list (λ row. parts_weight columns (cells_of row)) (kind_weight (structs columns)) (λ x. rw (cells_list (parts_in x)) (omega arith)) cells in
      parts_each passes most P h columns (map part_list cells) pass can (omega (arith, below, small))
  below_each passes most P h _ cells pass can small = tt

  pub parts_each : (passes : Column → Bool) (most : ℕ) (P : Typed → Type 0) → HoldsOfBuilt passes most P → (cs : Columns) (rows : List (List Cell)) → list_all passes (preorder_all cs) ≡ true → can_build_parts cs rows ≡ true
      → cells_weight cs rows ≤ most → AllByRecursion P (every_array cs (built_parts cs rows))
  parts_each passes most P h no_column rows pass can small = tt
  parts_each passes most P h (and_column c cs) rows pass can small =
      let p = split passes (preorder c) (preorder_all cs) pass in
      let q = and_parts (can_build c (map first_cell rows)) (can_build_parts cs (map other_cells rows)) can in
      let all : List Cell → ℕ = λ row. parts_weight (and_column c cs) (cells_of row) in
      let first = sum_map first_cell (weight c) all (λ row. let e = ap (weight c) (first_is row) in omega (arith, e)) rows in
      let rest = sum_map other_cells (λ row. parts_weight cs (cells_of row)) all (λ row. let e = ap (parts_weight cs) (others_are row) in omega (arith, e)) rows in
      both_all P (arrays_at c (built c (map first_cell rows))) (every_array cs (built_parts cs (map other_cells rows)))
      (column_each passes most P h c (map first_cell rows) p.0 q.0 (omega (arith, first, small)))
      (parts_each passes most P h cs (map other_cells rows) p.1 q.1 (omega (arith, rest, small)))
