-- Rows that a table takes, and whose dictionaries have room, can be built.
use Rattle.std.specs.Prelude.{◌&&◌, ◌-◌, nat_le, if◌then◌else◌}
use Rattle.std.specs.List.{flat_map, list_all, list_any}
use Rattle.std.proofs.Common.{◌≡◌, ℕ, zero, suc, ◌+◌, ◌^◌, ◌≤◌, Bool, true, false, List, [], ◌∷◌, ◌++◌, map, length, replicate, sum_by, Some, None, refl, arith, ap, sym, subst, ◌⊎◌, inl, inr}
use Rattle.std.proofs.lemmas.Bool.{and_parts, and_from, le-leb, leb-true, not-true}
use Rattle.std.proofs.lemmas.List.Sums.{sum_by-cons, sum_by-append, sum_by-le-sum_by}
use Rattle.std.proofs.Math.Pow.{pow_mono}
use Rattle.std.proofs.lemmas.List.Sums.{list_all-from_AllPass}
use Rattle.std.specs.List.{AllPass}
use Rattle.arrow_schema.specs.Column.{Index, Kind, Column, Columns, is_bit_width, nulls, integers, texts, large_texts, binaries, large_binaries, lists, large_lists, fixed_lists, structs, column, no_column, and_column, columns_of, PlainSchema}
use Rattle.arrow_schema.specs.Parts.{kind_of_column}
use Rattle.arrow_schema.specs.Limits.{IsWithinLimits, is_nested, has_flat_dictionary, has_bit_widths, is_kind_of_width}
use Rattle.arrow_schema.specs.Preorder.{preorder, preorder_below, preorder_all, every_column}
use Rattle.cells.specs.Cell.{Cell, Cells, null, boolean, number, text, bytes, items, parts, no_cell, and_cell, cells_of, cell_list}
use Rattle.cells.specs.Dictionary.{Holding, item_list, part_list, holdings, holdings_below, holdings_from, entries_of, with_entries, with_entry, with_new, entry_limit, is_entry, is_within, has_few_entries, cells_at, dictionaries_fit}
use Rattle.cells.specs.declared.limits.TheConstants.{MAX_TABLE_WEIGHT}
use Rattle.cells.specs.Row.{is_row, row_fits}
use Rattle.cells.specs.Fit.{null_or, fits, fits_kind, each_fits, all_cells}
use Rattle.cells.specs.Weight.{weight, kind_weight, parts_weight, items_in, parts_in, first_part, other_parts, row_weight, table_weight}
use Rattle.columns.specs.Buildable.{are_nulls_or_fit, is_null_or_entry, names_entries, small_offset, large_offset, can_build, can_build_below, can_build_parts, can_build_rows, has_each_part}
use Rattle.columns.specs.Built.{contents_of, fixed_items, first_cell, other_cells}
use Rattle.columns.proofs.BuiltCells.{has_parts}
use Rattle.cells.specs.laws.Cells.{cells_list, cells_listed}
use Rattle.cells.specs.laws.Entries.{none_below, entries_few}
use Rattle.columns.proofs.Nulls.{few_same, fixed_kept, first_kept, from_next}
use Rattle.columns.proofs.Weights.{sum_below, size_below, sum_map, some_weight, contents_weigh, count_below, items_weigh, fixed_weigh}
use Rattle.columns.specs.laws.Held.{AreSoundColumns, HaveFew}

-- more than any table weighs
abbrev pub most : ℕ
most = 2 ^ 30

-- ---- cells that are nulls or fit

all_both : {Y : Type 0} (q : Y → Bool) (ys zs : List Y) → list_all q ys ≡ true → list_all q zs ≡ true → list_all q (ys ++ zs) ≡ true
all_both q [] zs a b = b
all_both q (y ∷ ys) zs a b = let c = and_parts (q y) (list_all q ys) a in and_from _ _ c.0 (all_both q ys zs c.1 b)

pub all_below : {X Y : Type 0} (f : X → List Y) (p : X → Bool) (q : Y → Bool) → ((x : X) → p x ≡ true → list_all q (f x) ≡ true) → (xs : List X) → list_all p xs ≡ true → list_all q (flat_map f xs) ≡ true
all_below f p q h [] all = refl
all_below f p q h (x ∷ xs) all =
    let a = and_parts (p x) (list_all p xs) all in
    all_both q (f x) (flat_map f xs) (h x a.0) (all_below f p q h xs a.1)

pub all_mapped : {X Y : Type 0} (f : X → Y) (p : X → Bool) (q : Y → Bool) → ((x : X) → p x ≡ true → q (f x) ≡ true) → (xs : List X) → list_all p xs ≡ true → list_all q (map f xs) ≡ true
all_mapped f p q h [] all = refl
all_mapped f p q h (x ∷ xs) all = let a = and_parts (p x) (list_all p xs) all in and_from _ _ (h x a.0) (all_mapped f p q h xs a.1)

abbrev pub fits_or_null : Column → Cell → Bool
fits_or_null c x = null_or true (fits_kind (kind_of_column c)) x

weaker : (p : Cell → Bool) (nullable : Bool) (x : Cell) → null_or nullable p x ≡ true → null_or true p x ≡ true
weaker p nullable null h = refl
weaker p nullable _ h = h

pub fits_weaker : (c : Column) (x : Cell) → fits c x ≡ true → fits_or_null c x ≡ true
unfolding fits
fits_weaker (column name nullable kind dictionary pairs) x h = weaker (fits_kind kind) nullable x h

all_listed : (p q : Cell → Bool) → ((x : Cell) → p x ≡ true → q x ≡ true) → (cs : Cells) → all_cells p cs ≡ true → list_all q (cell_list cs) ≡ true
all_listed p q h no_cell all = refl
all_listed p q h (and_cell c cs) all = let a = and_parts (p c) (all_cells p cs) all in and_from _ _ (h c a.0) (all_listed p q h cs a.1)

list_items : (item : Column) (x : Cell) → null_or true (fits_kind (lists item)) x ≡ true → list_all (fits_or_null item) (item_list x) ≡ true
unfolding fits
list_items item null h = refl
list_items item (items cs) h = all_listed (fits item) (fits_or_null item) (fits_weaker item) cs h
list_items item _ h = cc

large_list_items : (item : Column) (x : Cell) → null_or true (fits_kind (large_lists item)) x ≡ true → list_all (fits_or_null item) (item_list x) ≡ true
unfolding fits
large_list_items item null h = refl
large_list_items item (items cs) h = all_listed (fits item) (fits_or_null item) (fits_weaker item) cs h
large_list_items item _ h = cc

null_items : (c : Column) (n : ℕ) → list_all (fits_or_null c) (replicate n null) ≡ true
null_items c zero = refl
null_items c (suc n) = null_items c n

fixed_list_items : (size : ℕ) (item : Column) (x : Cell) → null_or true (fits_kind (fixed_lists size item)) x ≡ true → list_all (fits_or_null item) (fixed_items size x) ≡ true
unfolding fits
fixed_list_items size item null h = null_items item size
fixed_list_items size item (items cs) h = all_listed (fits item) (fits_or_null item) (fits_weaker item) cs (and_parts _ (all_cells (fits item) cs) h).1
fixed_list_items size item _ h = cc

-- each part of a row is a null or fits its column
abbrev pub parts_fit_or_null : Columns → List Cell → Bool
parts_fit_or_null no_column row = true
parts_fit_or_null (and_column c cs) row = fits_or_null c (first_cell row) && parts_fit_or_null cs (other_cells row)

no_parts_fit : (cs : Columns) → parts_fit_or_null cs [] ≡ true
no_parts_fit no_column = refl
no_parts_fit (and_column c cs) = no_parts_fit cs

pub each_part_fits : (cs : Columns) (row : Cells) → each_fits cs row ≡ true → parts_fit_or_null cs (cell_list row) ≡ true
unfolding fits
each_part_fits no_column no_cell h = refl
each_part_fits no_column (and_cell x xs) h = cc
each_part_fits (and_column c cs) no_cell h = cc
each_part_fits (and_column c cs) (and_cell x xs) h =
    let a = and_parts (fits c x) (each_fits cs xs) h in
    and_from _ _ (fits_weaker c x a.0) (each_part_fits cs xs a.1)

struct_parts : (cs : Columns) (x : Cell) → null_or true (fits_kind (structs cs)) x ≡ true → parts_fit_or_null cs (part_list x) ≡ true
unfolding fits
struct_parts cs null h = no_parts_fit cs
struct_parts cs (parts xs) h = each_part_fits cs xs h
struct_parts cs _ h = cc

-- ---- entries

entry_flat : (k : Kind) (x : Cell) → is_nested k ≡ false → null_or true (fits_kind k) x ≡ true → is_null_or_entry x ≡ true
unfolding fits
entry_flat nulls (items cs) flat h = cc
entry_flat nulls (parts cs) flat h = cc
entry_flat _ (items cs) flat h = cc
entry_flat _ (parts cs) flat h = cc
entry_flat k _ flat h = refl

all_flat : (k : Kind) (cells : List Cell) → is_nested k ≡ false → are_nulls_or_fit k cells ≡ true → list_all is_null_or_entry cells ≡ true
all_flat k [] flat h = refl
all_flat k (x ∷ xs) flat h = let a = and_parts (null_or true (fits_kind k) x) (list_all (null_or true (fits_kind k)) xs) h in and_from _ _ (entry_flat k x flat a.0) (all_flat k xs flat a.1)

new_step : (entries : List Cell) (c : Cell) → (with_new entries c ≡ entries) ⊎ (with_new entries c ≡ entries ++ c ∷ [])
new_step entries c = by_known (list_any (is_entry c) entries) refl
  where
    by_known : (b : Bool) → list_any (is_entry c) entries ≡ b → (with_new entries c ≡ entries) ⊎ (with_new entries c ≡ entries ++ c ∷ [])
    by_known true e = inl (rw e refl)
    by_known false e = inr (rw e refl)

-- one entry more, or none
entry_step : (entries : List Cell) (c : Cell) → (with_entry entries c ≡ entries) ⊎ (with_entry entries c ≡ entries ++ c ∷ [])
entry_step entries (boolean b) = new_step entries (boolean b)
entry_step entries (number n) = new_step entries (number n)
entry_step entries (text t) = new_step entries (text t)
entry_step entries (bytes t) = new_step entries (bytes t)
entry_step entries _ = inl refl

pub entries_weigh : (w : Cell → ℕ) (entries cells : List Cell) → sum_by w (with_entries entries cells) ≤ sum_by w entries + sum_by w cells
unfolding with_entries
entries_weigh w entries [] = omega arith
entries_weigh w entries (c ∷ cells) =
    let rest = entries_weigh w (with_entry entries c) cells in
    let sums : sum_by w (c ∷ cells) ≡ w c + sum_by w cells = sum_by-cons w c cells in
    let more : sum_by w (entries ++ c ∷ []) ≡ sum_by w entries + sum_by w (c ∷ []) = sum_by-append w entries (c ∷ []) in
    let one : sum_by w (c ∷ []) ≡ w c + 0 = sum_by-cons w c [] in
    elim (entry_step entries c) [
      | inl e ↦ let same = ap (sum_by w) e in omega (arith, rest, sums, same)
      | inr e ↦ let same = ap (sum_by w) e in omega (arith, rest, sums, same, more, one)
    ]

entries_pass : (p : Cell → Bool) (entries cells : List Cell) → list_all p entries ≡ true → list_all p cells ≡ true → list_all p (with_entries entries cells) ≡ true
unfolding with_entries
entries_pass p entries [] a b = a
entries_pass p entries (c ∷ cells) a b =
    let d = and_parts (p c) (list_all p cells) b in
    entries_pass p (with_entry entries c) cells
    (elim (entry_step entries c) [
      | inl e ↦ rw e a
      | inr e ↦ rw e (all_both p entries (c ∷ []) a (and_from _ _ d.0 refl))
    ]) d.1

few_names : (index : Index) (n : ℕ) → is_bit_width index.bits ≡ true → is_within (entry_limit index) n ≡ true → n ≤ most → names_entries index n ≡ true
few_names index n wide few small = and_from _ _ wide (by_size (nat_le 32 index.bits) index.signed refl refl)
  where
    by_size : (b signed : Bool) → nat_le 32 index.bits ≡ b → index.signed ≡ signed → nat_le n (if index.signed then 2 ^ (index.bits - 1) else 2 ^ index.bits) ≡ true
    by_size true true e s = let le : 32 ≤ index.bits = leb-true _ _ e in let large : 2 ^ 30 ≤ 2 ^ (index.bits - 1) = pow_mono {i = 30} {j = index.bits - 1} (omega (arith, le)) in rw s (le-leb _ _ (omega (arith, large)))
    by_size true false e s = let le : 32 ≤ index.bits = leb-true _ _ e in let large : 2 ^ 30 ≤ 2 ^ index.bits = pow_mono {i = 30} {j = index.bits} (omega (arith, le)) in rw s (le-leb _ _ (omega (arith, large)))
    by_size false signed e s = rw e at few

-- each cell weighs something
pub count_weigh : (w : Cell → ℕ) → ((x : Cell) → 1 ≤ w x) → (cells : List Cell) → length cells ≤ sum_by w cells
count_weigh w h [] = omega arith
count_weigh w h (x ∷ xs) = let rest = count_weigh w h xs in let one = h x in let sums : sum_by w (x ∷ xs) ≡ w x + sum_by w xs = sum_by-cons w x xs in omega (arith, rest, one, sums)

pub split : {X : Type 0} (q : X → Bool) (ys zs : List X) → list_all q (ys ++ zs) ≡ true → (list_all q ys ≡ true) × (list_all q zs ≡ true)
split q [] zs h = (refl, h)
split q (y ∷ ys) zs h = let a = and_parts (q y) (list_all q (ys ++ zs)) h in let b = split q ys zs a.1 in (and_from _ _ a.0 b.0, b.1)

-- a row as a list and as parts
pub first_is : (row : List Cell) → first_part (cells_of row) ≡ first_cell row
first_is [] = refl
first_is (x ∷ xs) = refl

pub others_are : (row : List Cell) → other_parts (cells_of row) ≡ cells_of (other_cells row)
others_are [] = refl
others_are (x ∷ xs) = refl

-- ---- whatever the type

light : (k : Kind) (cells : List Cell) → sum_by (kind_weight k) cells ≤ most → (w : ℕ) → most ≤ w → (n : ℕ) → n ≤ sum_by (kind_weight k) cells → nat_le n w ≡ true
light k cells small w le n below = le-leb n w (omega (arith, small, le, below))

mutual
  unfolding weight holdings preorder can_build

  pub column_can : (c : Column) (cells : List Cell) → AreSoundColumns (preorder c) → list_all (fits_or_null c) cells ≡ true → sum_by (weight c) cells ≤ most → HaveFew (holdings c cells) → can_build c cells ≡ true
  column_can (column name nullable kind None pairs) cells sound fit small few =
      and_from _ _ fit (kind_can kind cells (and_parts (has_flat_dictionary (column name nullable kind None pairs)) (list_all has_flat_dictionary (preorder_below kind)) sound.0).1
      (and_parts (has_bit_widths (column name nullable kind None pairs)) (list_all has_bit_widths (preorder_below kind)) sound.1) fit small few)
  column_can (column name nullable kind (Some index) pairs) cells sound fit small few =
      let c : Column = column name nullable kind (Some index) pairs in
      let es : List Cell = entries_of cells in
      let dictionary = and_parts (has_flat_dictionary c) (list_all has_flat_dictionary (preorder_below kind)) sound.0 in
      let widths = and_parts (has_bit_widths c) (list_all has_bit_widths (preorder_below kind)) sound.1 in
      let own = and_parts (is_kind_of_width kind) (is_bit_width index.bits) widths.0 in
      let flat : is_nested kind ≡ false = not-true (is_nested kind) dictionary.0 in
      let holds = and_parts (is_within (entry_limit index) (length es)) (list_all has_few_entries (holdings_below kind cells)) few in
      let count = entries_few [] cells in
      let weighs = entries_weigh (kind_weight kind) [] cells in
      let each = count_weigh (kind_weight kind) (some_weight c) cells in
      let none : HaveFew (holdings_below kind es) = subst (λ (hs : List Holding). HaveFew hs) (sym (none_below kind es flat)) refl in
      let entries_fit : are_nulls_or_fit kind es ≡ true = entries_pass (null_or true (fits_kind kind)) [] cells refl fit in
      and_from _ _ (all_flat kind cells flat fit)
      (and_from _ _ (few_names index (length es) own.1 holds.0 (omega (arith, count, each, small)))
      (and_from _ _ entries_fit (kind_can kind es dictionary.1 (and_from _ _ own.0 refl, widths.1) entries_fit (omega (arith, weighs, small)) none)))

  kind_can : (k : Kind) (cells : List Cell) → list_all has_flat_dictionary (preorder_below k) ≡ true → ((is_kind_of_width k && true) ≡ true) × (list_all has_bit_widths (preorder_below k) ≡ true) → are_nulls_or_fit k cells ≡ true
      → sum_by (kind_weight k) cells ≤ most → HaveFew (holdings_below k cells) → can_build_below k cells ≡ true
  kind_can (integers bits signed) cells flat wide fit small few = (and_parts (is_bit_width bits) true wide.0).0
  kind_can texts cells flat wide fit small few = light texts cells small small_offset (omega arith) _ (size_below contents_of (kind_weight texts) (λ x. omega (arith, contents_weigh x)) cells)
  kind_can large_texts cells flat wide fit small few = light large_texts cells small large_offset (omega arith) _ (size_below contents_of (kind_weight large_texts) (λ x. omega (arith, contents_weigh x)) cells)
  kind_can binaries cells flat wide fit small few = light binaries cells small small_offset (omega arith) _ (size_below contents_of (kind_weight binaries) (λ x. omega (arith, contents_weigh x)) cells)
  kind_can large_binaries cells flat wide fit small few = light large_binaries cells small large_offset (omega arith) _ (size_below contents_of (kind_weight large_binaries) (λ x. omega (arith, contents_weigh x)) cells)
  kind_can (lists item) cells flat wide fit small few =
      let many = size_below item_list (kind_weight (lists item)) (λ x. omega (arith, count_below (weight item) (some_weight item) (items_in x))) cells in
      let below = sum_below item_list (weight item) (kind_weight (lists item)) (λ x. omega (arith, items_weigh (weight item) x)) cells in
      and_from _ _ (light (lists item) cells small small_offset (omega arith) _ many)
      (column_can item (flat_map item_list cells) (flat, wide.1) (all_below item_list (null_or true (fits_kind (lists item))) (fits_or_null item) (list_items item) cells fit) (omega (arith, below, small)) few)
  kind_can (large_lists item) cells flat wide fit small few =
      let many = size_below item_list (kind_weight (large_lists item)) (λ x. omega (arith, count_below (weight item) (some_weight item) (items_in x))) cells in
      let below = sum_below item_list (weight item) (kind_weight (large_lists item)) (λ x. omega (arith, items_weigh (weight item) x)) cells in
      and_from _ _ (light (large_lists item) cells small large_offset (omega arith) _ many)
      (column_can item (flat_map item_list cells) (flat, wide.1) (all_below item_list (null_or true (fits_kind (large_lists item))) (fits_or_null item) (large_list_items item) cells fit) (omega (arith, below, small)) few)
  kind_can (fixed_lists size item) cells flat wide fit small few =
      let below = sum_below (fixed_items size) (weight item) (kind_weight (fixed_lists size item)) (λ x. omega (arith, fixed_weigh size (weight item) x)) cells in
      column_can item (flat_map (fixed_items size) cells) (flat, wide.1) (all_below (fixed_items size) (null_or true (fits_kind (fixed_lists size item))) (fits_or_null item) (fixed_list_items size item) cells fit)
      (omega (arith, below, small)) (few_same item (flat_map item_list cells) (flat_map (fixed_items size) cells) (fixed_kept size cells) few)
  kind_can (structs columns) cells flat wide fit small few =
      let below = sum_map part_list (λ row. parts_weight columns (cells_of row)) (kind_weight (structs columns)) (λ x. rw (cells_list (parts_in x)) (omega arith)) cells in
      parts_can columns (map part_list cells) (flat, wide.1) (all_mapped part_list (null_or true (fits_kind (structs columns))) (parts_fit_or_null columns) (struct_parts columns) cells fit) (omega (arith, below, small)) few
  kind_can _ cells flat wide fit small few = refl

  pub parts_can : (cs : Columns) (rows : List (List Cell)) → AreSoundColumns (preorder_all cs) → list_all (parts_fit_or_null cs) rows ≡ true → sum_by (λ row. parts_weight cs (cells_of row)) rows ≤ most
      → HaveFew (holdings_from 0 cs rows) → can_build_parts cs rows ≡ true
  parts_can no_column rows sound fit small few = refl
  parts_can (and_column c cs) rows sound fit small few =
      let flat = split has_flat_dictionary (preorder c) (preorder_all cs) sound.0 in
      let wide = split has_bit_widths (preorder c) (preorder_all cs) sound.1 in
      let held = split has_few_entries (holdings c (cells_at 0 rows)) (holdings_from (0 + 1) cs rows) few in
      let all : List Cell → ℕ = λ row. parts_weight (and_column c cs) (cells_of row) in
      let first = sum_map first_cell (weight c) all (λ row. let e = ap (weight c) (first_is row) in omega (arith, e)) rows in
      let rest = sum_map other_cells (λ row. parts_weight cs (cells_of row)) all (λ row. let e = ap (parts_weight cs) (others_are row) in omega (arith, e)) rows in
      and_from _ _
      (column_can c (map first_cell rows) (flat.0, wide.0) (all_mapped first_cell (parts_fit_or_null (and_column c cs)) (fits_or_null c) (λ row h. (and_parts (fits_or_null c (first_cell row)) (parts_fit_or_null cs (other_cells row)) h).0) rows fit)
      (omega (arith, first, small)) (few_same c (cells_at 0 rows) (map first_cell rows) (first_kept rows) held.0))
      (parts_can cs (map other_cells rows) (flat.1, wide.1) (all_mapped other_cells (parts_fit_or_null (and_column c cs)) (parts_fit_or_null cs) (λ row h. (and_parts (fits_or_null c (first_cell row)) (parts_fit_or_null cs (other_cells row)) h).1) rows fit)
      (omega (arith, rest, small)) (subst (λ (hs : List Holding). HaveFew hs) (from_next 0 cs rows) held.1))

-- ---- the rows of a piece

row_has_parts : (s : PlainSchema) (row : List Cell) → is_row s row ≡ true → has_each_part (columns_of s.columns) row ≡ true
unfolding is_row
row_has_parts s row h =
    let fit = (and_parts (row_fits s row) _ h).0 in
    subst (λ (xs : List Cell). has_each_part (columns_of s.columns) xs ≡ true) (cells_listed row) (has_parts (columns_of s.columns) (cells_of row) fit)

row_parts_fit : (s : PlainSchema) (row : List Cell) → is_row s row ≡ true → parts_fit_or_null (columns_of s.columns) row ≡ true
unfolding is_row
row_parts_fit s row h =
    let fit = (and_parts (row_fits s row) _ h).0 in
    subst (λ (xs : List Cell). parts_fit_or_null (columns_of s.columns) xs ≡ true) (cells_listed row) (each_part_fits (columns_of s.columns) (cells_of row) fit)

every_row : (p q : List Cell → Bool) → ((row : List Cell) → p row ≡ true → q row ≡ true) → (rows : List (List Cell)) → list_all p rows ≡ true → list_all q rows ≡ true
every_row p q h [] all = refl
every_row p q h (row ∷ rows) all = let a = and_parts (p row) (list_all p rows) all in and_from _ _ (h row a.0) (every_row p q h rows a.1)

pub rows_can : (s : PlainSchema) (rows : List (List Cell)) → IsWithinLimits s → AllPass (is_row s) rows → table_weight s rows ≤ MAX_TABLE_WEIGHT → dictionaries_fit s rows ≡ true
    → can_build_rows (columns_of s.columns) rows ≡ true
rows_can s rows limits all weighs few =
    let passes : list_all (is_row s) rows ≡ true = list_all-from_AllPass (is_row s) rows all in
    let flat : list_all has_flat_dictionary (every_column s) ≡ true = list_all-from_AllPass has_flat_dictionary (every_column s) limits.dictionaries in
    let wide : list_all has_bit_widths (every_column s) ≡ true = list_all-from_AllPass has_bit_widths (every_column s) limits.widths in
    let parts_weigh = sum_by-le-sum_by (λ row. parts_weight (columns_of s.columns) (cells_of row)) (row_weight s) rows (λ row. omega arith) in
    and_from _ _ (every_row (is_row s) (has_each_part (columns_of s.columns)) (row_has_parts s) rows passes)
    (parts_can (columns_of s.columns) rows (flat, wide) (every_row (is_row s) (parts_fit_or_null (columns_of s.columns)) (row_parts_fit s) rows passes) (omega (arith, weighs, parts_weigh)) few)
