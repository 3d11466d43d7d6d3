-- The dictionaries of columns have room for the entries of their rows, and for those of any row.
use Rattle.std.specs.Prelude.{Option, Some, None, slice_get, get_or, map, option_to_list, ◌⊎◌}
use Rattle.std.specs.List.{flat_map, list_all}
use Rattle.std.proofs.Common.{◌≡◌, ℕ, zero, suc, ◌+◌, ◌≤◌, Bool, true, false, List, [], ◌∷◌, ◌++◌, length, refl, arith, ap, sym, ◌∙◌, inl, inr, append-nil}
use Rattle.std.proofs.lemmas.Bool.{and_from, le-leb, or_from}
use Rattle.std.proofs.lemmas.List.Folds.{list_all-append}
use Rattle.arrow_schema.specs.Column.{Index, Kind, Column, lists, large_lists, fixed_lists, structs, column, Columns, no_column, and_column, columns_of, PlainSchema, list_of}
use Rattle.arrow_schema.specs.Limits.{is_nested}
use Rattle.arrow_schema.specs.Parts.{index_of_column}
use Rattle.arrow_schema.specs.View.{bits_of}
use Rattle.arrow_schema.specs.declared.types.BitWidth.{BitWidth}
use Rattle.arrow_schema.specs.declared.types.BitWidth.TheVariants.{Eight, Sixteen, ThirtyTwo, SixtyFour}
use Rattle.cells.specs.Cell.{Cell, null}
use Rattle.cells.specs.Dictionary.{cells_at, dictionaries_fit, entries_of, entry_limit, has_few_entries, has_limit, holdings, holdings_below, holdings_from, is_any_limited, is_kind_limited, is_limited, is_within, item_list, part_list, own_holding, with_entries, with_entry}
use Rattle.cells.specs.laws.Entries.{entries_few, none_below}
use Rattle.cells.specs.laws.Unlimited.{from_unlimited}
use Rattle.text_columns.specs.declared.builder.ColumnBuilder.{ColumnBuilder, Flat, List', FixedList', Struct', out-ColumnBuilder}
use Rattle.columns.specs.Built.{fixed_items}
use Rattle.text_columns.specs.declared.coding.Coding.{Coding}
use Rattle.text_columns.specs.declared.column_values.ColumnValues.{ColumnValues}
use Rattle.text_columns.specs.inner.Kept.{AreUnlimited, HoldsCells, KeepAll, Keeps, KeepsBelow, column_at}
use Rattle.text_columns.proofs.StructFields.{fields_in, fields_kept, there_too}
use Rattle.text_columns.proofs.Coded.{own_flat, own_kind}

-- ---- one column

few_in : (nullable : Bool) (index : Index) (kind : Kind) (cells : List Cell) → holdings_below kind cells ≡ [] → is_within (entry_limit index) (length (entries_of cells)) ≡ true
    → list_all has_few_entries (own_holding (Some index) cells ++ holdings_below kind cells) ≡ true
few_in nullable index kind cells none few = rw none (rw few refl)

-- ---- columns with parts: no row fills a dictionary below them

flat_unlimited : (kind : Kind) → is_nested kind ≡ false → is_kind_limited kind ≡ false
unfolding is_kind_limited
flat_unlimited (lists item) h = absurd cc
flat_unlimited (large_lists item) h = absurd cc
flat_unlimited (fixed_lists size item) h = absurd cc
flat_unlimited (structs columns) h = absurd cc
flat_unlimited _ h = refl

-- a column with some cells
record IsHeld (c : Column) : Type 0 where
  pub cells : List Cell
  pub builder : ColumnBuilder
  pub keeps : Keeps c cells builder

mutual
  unfolding is_limited is_kind_limited is_any_limited

  column_unlimited : (c : Column) (cells : List Cell) (b : ColumnBuilder) → Keeps c cells b → has_limit (index_of_column c) ≡ false → is_limited c ≡ false
  column_unlimited (column name nullable kind dictionary pairs) cells (Flat b) k h =
      or_from (has_limit dictionary) (is_kind_limited kind) h (flat_unlimited kind (own_flat kind b.values (own_kind dictionary kind cells b.values b.coding k.2)))
  column_unlimited (column name nullable kind dictionary pairs) cells (List' slots offsets p items) k h =
      or_from (has_limit dictionary) (is_kind_limited kind) h (below_unlimited kind cells (List' slots offsets p items) k.parts)
  column_unlimited (column name nullable kind dictionary pairs) cells (FixedList' slots size p items) k h =
      or_from (has_limit dictionary) (is_kind_limited kind) h (below_unlimited kind cells (FixedList' slots size p items) k.parts)
  column_unlimited (column name nullable kind dictionary pairs) cells (Struct' slots names v row) k h =
      or_from (has_limit dictionary) (is_kind_limited kind) h (below_unlimited kind cells (Struct' slots names v row) k.parts)

  below_unlimited : (kind : Kind) (cells : List Cell) (b : ColumnBuilder) → KeepsBelow kind cells b → is_kind_limited kind ≡ false
  below_unlimited (lists item) cells (List' slots offsets p items) h = column_unlimited item (flat_map item_list cells) items h.below h.unlimited
  below_unlimited (large_lists item) cells (List' slots offsets p items) h = column_unlimited item (flat_map item_list cells) items h.below h.unlimited
  below_unlimited (fixed_lists size item) cells (FixedList' slots width p items) h = column_unlimited item (flat_map (fixed_items size) cells) items h.below h.unlimited
  below_unlimited (structs columns) cells b h =
      let f = fields_in columns cells (out-ColumnBuilder b) h in
      let k = fields_kept columns cells f.names f.fields f.holds in
      columns_unlimited columns f.holds.unlimited (λ j c dc.
      let (own, db) = there_too (list_of columns) f.fields j c k.count dc in
      record { cells = column_at j (map part_list cells); builder = own; keeps = k.each j c own dc db })
  below_unlimited _ cells b h = absurd h

  columns_unlimited : (cs : Columns) → AreUnlimited (list_of cs) → ((j : ℕ) (c : Column) → slice_get (list_of cs) j ≡ Some c → IsHeld c) → is_any_limited cs ≡ false
  columns_unlimited no_column unlimited held = refl
  columns_unlimited (and_column c cs) unlimited held =
      let h = held 0 c refl in
      or_from (is_limited c) (is_any_limited cs) (column_unlimited c h.cells h.builder h.keeps (unlimited 0 c refl))
      (columns_unlimited cs (λ j d e. unlimited (suc j) d e) (λ j d e. held (suc j) d e))

one_each : (cells : List Cell) → cells_at 0 (map (λ (c : Cell). c ∷ []) cells) ≡ cells
one_each [] = refl
one_each (c ∷ cells) = ap (λ (xs : List Cell). c ∷ xs) (one_each cells)

unlimited_few : (c : Column) (cells : List Cell) → is_limited c ≡ false → list_all has_few_entries (holdings c cells) ≡ true
unfolding holdings_from is_any_limited
unlimited_few c cells h =
    let rows : List (List Cell) = map (λ (x : Cell). x ∷ []) cells in
    let whole : list_all has_few_entries (holdings c (cells_at 0 rows) ++ []) ≡ true = from_unlimited 0 (and_column c no_column) rows (or_from (is_limited c) false h refl) in
    rw (append-nil (holdings c (cells_at 0 rows)), one_each cells) at whole

-- a dictionary has as many entries as it could name before
same_few : (c : Column) (cells others : List Cell) (b : ColumnBuilder) → Keeps c cells b → entries_of others ≡ entries_of cells → list_all has_few_entries (holdings c others) ≡ true
unfolding holdings
same_few (column name nullable kind None pairs) cells others b k e = unlimited_few (column name nullable kind None pairs) others (column_unlimited (column name nullable kind None pairs) cells b k refl)
same_few (column name nullable kind (Some index) pairs) cells others (Flat b) k e =
    let flat = own_flat kind b.values (own_kind (Some index) kind cells b.values b.coding k.2) in
    few_in nullable index kind others (none_below kind others flat) (ap (λ (xs : List Cell). is_within (entry_limit index) (length xs)) e ∙ few_of index kind cells b.values b.coding k.2)
  where
    few_of : (index : Index) (kind : Kind) (cells : List Cell) (values : ColumnValues) (o : Option Coding) → HoldsCells (Some index) kind cells values o
        → is_within (entry_limit index) (length (entries_of cells)) ≡ true
    few_of index kind cells values None h = absurd h
    few_of index kind cells values (Some d) h = h.few
same_few (column name nullable kind (Some index) pairs) cells others (List' slots offsets p items) k e = (let none = k.slots.plain in absurd cc)
same_few (column name nullable kind (Some index) pairs) cells others (FixedList' slots size p items) k e = (let none = k.slots.plain in absurd cc)
same_few (column name nullable kind (Some index) pairs) cells others (Struct' slots names v row) k e = (let none = k.slots.plain in absurd cc)

-- indices of any width name one entry
one_within : (w : BitWidth) (signed : Bool) (n : ℕ) → n ≤ 1 → is_within (entry_limit (record { bits = bits_of w; signed = signed })) n ≡ true
one_within Eight true n le = le-leb n 128 (omega arith)
one_within Eight false n le = le-leb n 256 (omega arith)
one_within Sixteen true n le = le-leb n 32768 (omega arith)
one_within Sixteen false n le = le-leb n 65536 (omega arith)
one_within ThirtyTwo signed n le = refl
one_within SixtyFour signed n le = refl

one_few : (c : Column) (cells others : List Cell) (b : ColumnBuilder) → Keeps c cells b → length (entries_of others) ≤ 1 → list_all has_few_entries (holdings c others) ≡ true
unfolding holdings
one_few (column name nullable kind None pairs) cells others b k le = unlimited_few (column name nullable kind None pairs) others (column_unlimited (column name nullable kind None pairs) cells b k refl)
one_few (column name nullable kind (Some index) pairs) cells others (Flat b) k le =
    let flat = own_flat kind b.values (own_kind (Some index) kind cells b.values b.coding k.2) in
    few_in nullable index kind others (none_below kind others flat) (few_of index kind cells b.values b.coding k.2)
  where
    few_of : (index : Index) (kind : Kind) (cells : List Cell) (values : ColumnValues) (o : Option Coding) → HoldsCells (Some index) kind cells values o
        → is_within (entry_limit index) (length (entries_of others)) ≡ true
    few_of index kind cells values None h = absurd h
    few_of index kind cells values (Some d) h =
        let type : record { bits = bits_of d.index.width; signed = d.index.signed } ≡ index = (λ j. record { bits = h.bits j; signed = h.signed j }) in
        ap (λ (i : Index). is_within (entry_limit i) (length (entries_of others))) (sym type) ∙ one_within d.index.width d.index.signed (length (entries_of others)) le
one_few (column name nullable kind (Some index) pairs) cells others (List' slots offsets p items) k le = (let none = k.slots.plain in absurd cc)
one_few (column name nullable kind (Some index) pairs) cells others (FixedList' slots size p items) k le = (let none = k.slots.plain in absurd cc)
one_few (column name nullable kind (Some index) pairs) cells others (Struct' slots names v row) k le = (let none = k.slots.plain in absurd cc)

-- ---- the cells at a place of rows, of which an absent one is no entry

one_at : (row : List Cell) (j : ℕ) → ((option_to_list (slice_get row j) ≡ []) × (get_or row j null ≡ null)) ⊎ (option_to_list (slice_get row j) ≡ get_or row j null ∷ [])
one_at [] zero = inl (refl, refl)
one_at [] (suc j) = inl (refl, refl)
one_at (c ∷ row) zero = inr refl
one_at (c ∷ row) (suc j) = one_at row j

entries_at : (j : ℕ) (rows : List (List Cell)) (es : List Cell) → with_entries es (cells_at j rows) ≡ with_entries es (column_at j rows)
unfolding with_entries
entries_at j [] es = refl
entries_at j (row ∷ rows) es = elim (one_at row j) [
  | inl absent ↦
      ap (λ (xs : List Cell). with_entries es (xs ++ cells_at j rows)) absent.0 ∙ entries_at j rows es ∙ ap (λ (c : Cell). with_entries (with_entry es c) (column_at j rows)) (sym absent.1)
  | inr there ↦ ap (λ (xs : List Cell). with_entries es (xs ++ cells_at j rows)) there ∙ entries_at j rows (with_entry es (get_or row j null))
]

one_cell : (j : ℕ) (row : List Cell) → length (cells_at j (row ∷ [])) ≤ 1
one_cell j row = elim (one_at row j) [
  | inl absent ↦ (let e : length (cells_at j (row ∷ [])) ≡ 0 = ap (λ (xs : List Cell). length (xs ++ [])) absent.0 in omega (arith, e))
  | inr there ↦ (let e : length (cells_at j (row ∷ [])) ≡ 1 = ap (λ (xs : List Cell). length (xs ++ [])) there in omega (arith, e))
]

-- ---- all columns

all_few : (i : ℕ) (cs : List Column) (rows : List (List Cell)) → ((j : ℕ) (c : Column) → slice_get cs j ≡ Some c → list_all has_few_entries (holdings c (cells_at (i + j) rows)) ≡ true)
    → list_all has_few_entries (holdings_from i (columns_of cs) rows) ≡ true
unfolding holdings_from
all_few i [] rows each = refl
all_few i (c ∷ cs) rows each =
    let here : i + 0 ≡ i = omega arith in
    let first : list_all has_few_entries (holdings c (cells_at i rows)) ≡ true = rw here at (each 0 c refl) in
    list_all-append has_few_entries (holdings c (cells_at i rows)) (holdings_from (i + 1) (columns_of cs) rows)
    ∙ and_from _ _ first (all_few (i + 1) cs rows (λ j d e. let next : i + suc j ≡ i + 1 + j = omega arith in rw next at (each (suc j) d e)))

pub rows_fit : (s : PlainSchema) (rows : List (List Cell)) (bs : List ColumnBuilder) → KeepAll s.columns rows bs → dictionaries_fit s rows ≡ true
rows_fit s rows bs k = all_few 0 s.columns rows (λ j c dc.
    let (b, db) = there_too s.columns bs j c k.count dc in
    let same : 0 + j ≡ j = omega arith in
    rw same (same_few c (column_at j rows) (cells_at j rows) b (k.each j c b dc db) (entries_at j rows [])))

-- a row by itself
pub row_fits : (s : PlainSchema) (rows : List (List Cell)) (bs : List ColumnBuilder) (row : List Cell) → KeepAll s.columns rows bs → dictionaries_fit s (row ∷ []) ≡ true
row_fits s rows bs row k = all_few 0 s.columns (row ∷ []) (λ j c dc.
    let (b, db) = there_too s.columns bs j c k.count dc in
    let same : 0 + j ≡ j = omega arith in
    let few = entries_few [] (cells_at j (row ∷ [])) in
    let one = one_cell j row in
    let le : length (entries_of (cells_at j (row ∷ []))) ≤ 1 = omega (arith, few, one) in
    rw same (one_few c (column_at j rows) (cells_at j (row ∷ [])) b (k.each j c b dc db) le))
