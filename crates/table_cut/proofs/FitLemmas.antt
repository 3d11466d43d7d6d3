-- The columns of rows of runs, and whether the dictionary of each has room for its cells.
use Rattle.std.specs.Prelude.{◌&&◌, nat_le, not, slice_get, option_to_list, option_map, Option, Some, None}
use Rattle.std.specs.List.{flat_map, list_all, range_with_len}
use Rattle.std.proofs.Common.{◌≡◌, ℕ, zero, suc, ◌+◌, ◌<◌, ◌≤◌, Bool, true, false, List, [], ◌∷◌, ◌++◌, map, length, drop, take, get_or, length-append, inl, inr, refl, sym, ap, subst, ◌∙◌, arith}
use Rattle.std.proofs.lemmas.Bool.{and_parts, and_from, cases_lt, le-leb, lt-leb, not-true}
use Rattle.std.proofs.lemmas.List.{map-append, take-append-drop, take-map, take-take}
use Rattle.std.proofs.Math.Bool.{and-true}
use Rattle.std.proofs.lemmas.List.Folds.{list_all-append}
use Rattle.std.proofs.lemmas.List.FromFn.{length-map-range_with_len}
use Rattle.std.proofs.lemmas.List.Concat.{flat_map-append}
use Rattle.facts.specs.laws.Lists.{flat_map-item}
use Rattle.arrow_schema.specs.Column.{Index, Pair, Kind, Column, Columns, PlainSchema, columns_of, column, no_column, and_column, nulls}
use Rattle.arrow_schema.specs.Limits.{is_nested}
use Rattle.arrow_schema.specs.Parts.{index_of_column}
use Rattle.arrow_schema.specs.View.{column_of, index_of, kind_of}
use Rattle.arrow_schema.specs.declared.types.DictSpec.{DictSpec}
use Rattle.arrow_schema.specs.declared.types.Field.{Field}
use Rattle.arrow_schema.specs.laws.Parts.{field_parts}
use Rattle.cells.specs.Cell.{Cell, Cells, items, parts, no_cell, and_cell, cells_of}
use Rattle.cells.specs.Dictionary.{cells_at, holdings, holdings_from, entry_limit, entries_of, is_within, has_few_entries, dictionaries_fit, with_entries}
use Rattle.cells.specs.Fit.{each_fits, fits, fits_kind, null_or}
use Rattle.cells.specs.Row.{is_row, row_fits}
use Rattle.cells.specs.laws.Entries.{entries_append, entries_few, entries_grow, none_below}
use Rattle.columns.specs.Array.{Arrays}
use Rattle.columns.specs.Buildable.{is_null_or_entry}
use Rattle.columns.specs.Built.{first_cell, other_cells}
use Rattle.columns.specs.CellAt.{cell_at, part_cells, row_at}
use Rattle.columns.specs.Texts.{has_utf8_texts, have_utf8_texts}
use Rattle.columns.specs.View.{fields_of}
use Rattle.columns.specs.laws.FitTexts.{row_texts}
use Rattle.columns.specs.laws.Rows.{first_cells, other_rows}
use Rattle.dictionary_codes.specs.Room.{IsRoomFor}
use Rattle.table_cut.specs.Rows.{run_rows, runs_rows}
use Rattle.table_cut.specs.declared.row_run.RowRun.{RowRun}
use Rattle.table_cut.specs.inner.Columns.{arrays_from_place, array_at, rows_from_place, cells_at_place}
use Rattle.table_cut.specs.inner.Fit.{is_flat, are_flat, column_fits, entries_fit, fit_with, is_column_coded, HasRoomFor, IsCounted, AreCounted}
use Rattle.table_cut.specs.inner.Room.{AreRunsOf}
use Rattle.table_cut.proofs.ColumnLemmas.{arrays_next, rows_first, rows_others, is_sound_from_place, sound_own}

-- ---- one column

-- what its own dictionary names
abbrev pub own_fits : Option Index → List Cell → Bool
own_fits None cells = true
own_fits (Some index) cells = is_within (entry_limit index) (length (entries_of cells))

fits_own : (c : Column) (cells : List Cell) → is_flat c ≡ true → column_fits c cells ≡ own_fits (index_of_column c) cells
unfolding holdings
fits_own (column name nullable kind None pairs) cells flat = ap (list_all has_few_entries) (none_below kind cells (not-true (is_nested kind) flat))
fits_own (column name nullable kind (Some index) pairs) cells flat =
    let few : Bool = is_within (entry_limit index) (length (entries_of cells)) in
    ap (λ (below : Bool). few && below) (ap (list_all has_few_entries) (none_below kind cells (not-true (is_nested kind) flat))) ∙ and-true few

pub field_fits : (f : Field) (cells : List Cell) → is_flat (column_of f) ≡ true → column_fits (column_of f) cells ≡ own_fits (option_map index_of f.dictionary) cells
field_fits f cells flat = fits_own (column_of f) cells flat ∙ ap (λ (o : Option Index). own_fits o cells) (ap index_of_column (field_parts f))

pub flat_field : (f : Field) → is_flat (column_of f) ≡ not (is_nested (kind_of f.data_type))
flat_field f = ap is_flat (field_parts f)

-- ---- cells that fit a column with a dictionary

no_items : (k : Kind) (cs : Cells) → is_nested k ≡ false → fits_kind k (items cs) ≡ true → is_null_or_entry (items cs) ≡ true
unfolding fits_kind
no_items nulls cs flat h = cc
no_items _ cs flat h = cc

no_parts : (k : Kind) (cs : Cells) → is_nested k ≡ false → fits_kind k (parts cs) ≡ true → is_null_or_entry (parts cs) ≡ true
unfolding fits_kind
no_parts nulls cs flat h = cc
no_parts _ cs flat h = cc

entry_or_null : (nullable : Bool) (k : Kind) (x : Cell) → is_nested k ≡ false → null_or nullable (fits_kind k) x ≡ true → is_null_or_entry x ≡ true
entry_or_null nullable k (items cs) flat h = no_items k cs flat h
entry_or_null nullable k (parts cs) flat h = no_parts k cs flat h
entry_or_null nullable k _ flat h = refl

own_texts : (c : Column) (x : Cell) → fits c x ≡ true → has_utf8_texts x ≡ true
unfolding each_fits have_utf8_texts
own_texts c x h = (and_parts (has_utf8_texts x) true (row_texts (and_column c no_column) (and_cell x no_cell) (and_from (fits c x) true h refl))).0

coded_cells : (name : List ℕ) (nullable : Bool) (kind : Kind) (index : Index) (pairs : List Pair) (cells : List Cell) → is_nested kind ≡ false
    → list_all (fits (column name nullable kind (Some index) pairs)) cells ≡ true → list_all (λ c. is_null_or_entry c && has_utf8_texts c) cells ≡ true
unfolding fits
coded_cells name nullable kind index pairs [] flat h = refl
coded_cells name nullable kind index pairs (x ∷ cells) flat h =
    let c : Column = column name nullable kind (Some index) pairs in
    let both = and_parts (fits c x) (list_all (fits c) cells) h in
    and_from _ _ (and_from _ _ (entry_or_null nullable kind x flat both.0) (own_texts c x both.0)) (coded_cells name nullable kind index pairs cells flat both.1)

column_coded : (c : Column) (cells : List Cell) → is_flat c ≡ true → list_all (fits c) cells ≡ true → is_column_coded c cells ≡ true
column_coded (column name nullable kind None pairs) cells flat h = refl
column_coded (column name nullable kind (Some index) pairs) cells flat h = coded_cells name nullable kind index pairs cells (not-true (is_nested kind) flat) h

-- ---- the columns of rows from a place on

abbrev fits_each : Columns → List Cell → Bool
fits_each cs row = each_fits cs (cells_of row)

first_fit : (c : Column) (cs : Columns) (rows : List (List Cell)) → list_all (fits_each (and_column c cs)) rows ≡ true
    → (list_all (fits c) (map first_cell rows) ≡ true) × (list_all (fits_each cs) (map other_cells rows) ≡ true)
unfolding each_fits
first_fit c cs [] h = (refl, refl)
first_fit c cs ([] ∷ rows) h = absurd cc
first_fit c cs ((x ∷ row) ∷ rows) h =
    let both = and_parts (fits_each (and_column c cs) (x ∷ row)) (list_all (fits_each (and_column c cs)) rows) h in
    let own = and_parts (fits c x) (fits_each cs row) both.0 in
    let more = first_fit c cs rows both.1 in
    (and_from _ _ own.0 more.0, and_from _ _ own.1 more.1)

pub all_counted : (j : ℕ) (cs : Columns) (runs : List RowRun) → are_flat cs ≡ true → list_all (is_sound_from_place j cs) runs ≡ true
    → list_all (fits_each cs) (flat_map (rows_from_place j cs) runs) ≡ true → AreCounted j cs runs
unfolding are_flat AreCounted
all_counted j no_column runs flat sound fit = tt
all_counted j (and_column c cs) runs flat sound fit =
    let flats = and_parts (is_flat c) (are_flat cs) flat in
    let sounds = sound_own j c cs runs sound in
    let parts = first_fit c cs (flat_map (rows_from_place j (and_column c cs)) runs) fit in
    let own : list_all (fits c) (flat_map (cells_at_place j c) runs) ≡ true = sym (ap (list_all (fits c)) (rows_first j c cs runs)) ∙ parts.0 in
    let rest : list_all (fits_each cs) (flat_map (rows_from_place (j + 1) cs) runs) ≡ true = sym (ap (list_all (fits_each cs)) (rows_others j c cs runs)) ∙ parts.1 in
    (record { flat = flats.0; sound = sounds.0; coded = column_coded c (flat_map (cells_at_place j c) runs) flats.0 own }, all_counted (j + 1) cs runs flats.1 sounds.1 rest)

rows_fit : (s : PlainSchema) (rows : List (List Cell)) → list_all (is_row s) rows ≡ true → list_all (fits_each (columns_of s.columns)) rows ≡ true
unfolding is_row
rows_fit s [] h = refl
rows_fit s (row ∷ rows) h =
    let both = and_parts (is_row s row) (list_all (is_row s) rows) h in
    and_from _ _ (and_parts (row_fits s row) _ both.0).0 (rows_fit s rows both.1)

pub runs_counted : (s : PlainSchema) (runs : List RowRun) → are_flat (columns_of s.columns) ≡ true → AreRunsOf s runs → AreCounted 0 (columns_of s.columns) runs
runs_counted s runs flat are = all_counted 0 (columns_of s.columns) runs flat are.sound (rows_fit s (runs_rows (columns_of s.columns) runs) are.rows)

-- ---- the cells of rows at a place

abbrev has_cell : List Cell → Bool
has_cell [] = false
has_cell (x ∷ row) = true

cell_there : (j : ℕ) (row : List Cell) → has_cell (drop j row) ≡ true → option_to_list (slice_get row j) ≡ first_cell (drop j row) ∷ []
cell_there zero [] h = cc
cell_there zero (x ∷ row) h = refl
cell_there (suc j) [] h = cc
cell_there (suc j) (x ∷ row) h = cell_there j row h

drop_next : (j : ℕ) (row : List Cell) → other_cells (drop j row) ≡ drop (j + 1) row
drop_next zero [] = refl
drop_next zero (x ∷ row) = refl
drop_next (suc j) [] = let e : suc j + 1 ≡ suc (j + 1) = omega arith in rw e refl
drop_next (suc j) (x ∷ row) = let e : suc j + 1 ≡ suc (j + 1) = omega arith in rw e (drop_next j row)

cells_first : (j : ℕ) (rows : List (List Cell)) → list_all has_cell (map (drop j) rows) ≡ true → cells_at j rows ≡ map first_cell (map (drop j) rows)
cells_first j [] h = refl
cells_first j (row ∷ rows) h =
    let both = and_parts (has_cell (drop j row)) (list_all has_cell (map (drop j) rows)) h in
    λ i. cell_there j row both.0 i ++ cells_first j rows both.1 i

rows_next : (j : ℕ) (rows : List (List Cell)) → map other_cells (map (drop j) rows) ≡ map (drop (j + 1)) rows
rows_next j [] = refl
rows_next j (row ∷ rows) = λ i. drop_next j row i ∷ rows_next j rows i

all_drop : (rows : List (List Cell)) → map (drop 0) rows ≡ rows
all_drop [] = refl
all_drop (row ∷ rows) = ap (λ (xs : List (List Cell)). row ∷ xs) (all_drop rows)

span_cells : (c : Column) (cs : Columns) (arrays : Arrays) (from n : ℕ) → list_all has_cell (map (row_at (and_column c cs) arrays) (range_with_len from n)) ≡ true
unfolding part_cells
span_cells c cs arrays from zero = refl
span_cells c cs arrays from (suc n) = span_cells c cs arrays (from + 1) n

have_cells : (j : ℕ) (c : Column) (cs : Columns) (runs : List RowRun) → list_all has_cell (flat_map (rows_from_place j (and_column c cs)) runs) ≡ true
have_cells j c cs [] = refl
have_cells j c cs (r ∷ runs) =
    list_all-append has_cell (rows_from_place j (and_column c cs) r) (flat_map (rows_from_place j (and_column c cs)) runs)
    ∙ and_from _ _ (span_cells c cs (arrays_from_place j r) r.from r.len) (have_cells j c cs runs)

-- the rows from a place on of a piece and of the first rows of a run
abbrev rows_with : ℕ → Columns → List RowRun → RowRun → ℕ → List (List Cell)
rows_with j cs piece run k = flat_map (rows_from_place j cs) piece ++ take k (rows_from_place j cs run)

first_with : (j : ℕ) (c : Column) (cs : Columns) (piece : List RowRun) (run : RowRun) (k : ℕ)
    → map first_cell (rows_with j (and_column c cs) piece run k) ≡ flat_map (cells_at_place j c) piece ++ take k (cells_at_place j c run)
first_with j c cs piece run k =
    let rows : List (List Cell) = rows_from_place j (and_column c cs) run in
    let own : map first_cell (take k rows) ≡ take k (cells_at_place j c run) =
    sym (take-map first_cell k rows) ∙ ap (take k) (first_cells c cs (arrays_from_place j run) (range_with_len run.from run.len)) in
    map-append first_cell (flat_map (rows_from_place j (and_column c cs)) piece) (take k rows)
    ∙ λ i. rows_first j c cs piece i ++ own i

others_with : (j : ℕ) (c : Column) (cs : Columns) (piece : List RowRun) (run : RowRun) (k : ℕ) → map other_cells (rows_with j (and_column c cs) piece run k) ≡ rows_with (j + 1) cs piece run k
others_with j c cs piece run k =
    let rows : List (List Cell) = rows_from_place j (and_column c cs) run in
    let next : map other_cells rows ≡ rows_from_place (j + 1) cs run =
    other_rows c cs (arrays_from_place j run) (range_with_len run.from run.len) ∙ ap (λ (arrays : Arrays). map (row_at cs arrays) (range_with_len run.from run.len)) (arrays_next j run) in
    let own : map other_cells (take k rows) ≡ take k (rows_from_place (j + 1) cs run) = sym (take-map other_cells k rows) ∙ ap (take k) next in
    map-append other_cells (flat_map (rows_from_place j (and_column c cs)) piece) (take k rows)
    ∙ λ i. rows_others j c cs piece i ++ own i

have_with : (j : ℕ) (c : Column) (cs : Columns) (piece : List RowRun) (run : RowRun) (k : ℕ) → list_all has_cell (rows_with j (and_column c cs) piece run k) ≡ true
have_with j c cs piece run k =
    let rows : List (List Cell) = rows_from_place j (and_column c cs) run in
    let whole : list_all has_cell (take k rows ++ drop k rows) ≡ true = ap (list_all has_cell) (take-append-drop k rows) ∙ span_cells c cs (arrays_from_place j run) run.from run.len in
    let own = and_parts (list_all has_cell (take k rows)) (list_all has_cell (drop k rows)) (sym (list_all-append has_cell (take k rows) (drop k rows)) ∙ whole) in
    list_all-append has_cell (flat_map (rows_from_place j (and_column c cs)) piece) (take k rows)
    ∙ and_from _ _ (have_cells j c cs piece) own.0

-- the columns of the rows from a place on have room just if their cells have
fits_from : (j : ℕ) (cs : Columns) (piece : List RowRun) (run : RowRun) (k : ℕ) (rows : List (List Cell)) → map (drop j) rows ≡ rows_with j cs piece run k
    → list_all has_few_entries (holdings_from j cs rows) ≡ fit_with j cs piece run k
unfolding holdings_from fit_with
fits_from j no_column piece run k rows are = refl
fits_from j (and_column c cs) piece run k rows are =
    let have : list_all has_cell (map (drop j) rows) ≡ true = ap (list_all has_cell) are ∙ have_with j c cs piece run k in
    let own : cells_at j rows ≡ flat_map (cells_at_place j c) piece ++ take k (cells_at_place j c run) = cells_first j rows have ∙ ap (map first_cell) are ∙ first_with j c cs piece run k in
    let others : map (drop (j + 1)) rows ≡ rows_with (j + 1) cs piece run k = sym (rows_next j rows) ∙ ap (map other_cells) are ∙ others_with j c cs piece run k in
    let rest : list_all has_few_entries (holdings_from (j + 1) cs rows) ≡ fit_with (j + 1) cs piece run k = fits_from (j + 1) cs piece run k rows others in
    list_all-append has_few_entries (holdings c (cells_at j rows)) (holdings_from (j + 1) cs rows)
    ∙ λ i. column_fits c (own i) && rest i

pub all_fit : (s : PlainSchema) (piece : List RowRun) (run : RowRun) (k : ℕ)
    → fit_with 0 (columns_of s.columns) piece run k ≡ dictionaries_fit s (runs_rows (columns_of s.columns) piece ++ take k (run_rows (columns_of s.columns) run))
all_fit s piece run k =
    let rows : List (List Cell) = runs_rows (columns_of s.columns) piece ++ take k (run_rows (columns_of s.columns) run) in
    sym (fits_from 0 (columns_of s.columns) piece run k rows (all_drop rows))

-- ---- field by field

pub first_counted : (fields : List Field) (i : ℕ) (f : Field) (runs : List RowRun) → drop i fields ≡ f ∷ drop (i + 1) fields → AreCounted i (fields_of (drop i fields)) runs
    → IsCounted i (column_of f) runs × AreCounted (i + 1) (fields_of (drop (i + 1) fields)) runs
unfolding AreCounted
first_counted fields i f runs item are = subst (λ (fs : List Field). AreCounted i (fields_of fs) runs) item are

pub next_fits : (fields : List Field) (i : ℕ) (f : Field) (piece : List RowRun) (run : RowRun) (k : ℕ) → drop i fields ≡ f ∷ drop (i + 1) fields
    → fit_with i (fields_of (drop i fields)) piece run k
    ≡ (column_fits (column_of f) (flat_map (cells_at_place i (column_of f)) piece ++ take k (cells_at_place i (column_of f) run)) && fit_with (i + 1) (fields_of (drop (i + 1) fields)) piece run k)
unfolding fit_with
next_fits fields i f piece run k item = ap (λ (fs : List Field). fit_with i (fields_of fs) piece run k) item

coded_by : (c : Column) (index : Index) (cells : List Cell) → index_of_column c ≡ Some index → is_column_coded c cells ≡ true → list_all (λ x. is_null_or_entry x && has_utf8_texts x) cells ≡ true
coded_by (column name nullable kind None pairs) index cells is h = cc
coded_by (column name nullable kind (Some own) pairs) index cells is h = h

pub field_coded : (f : Field) (spec : DictSpec) (cells : List Cell) → f.dictionary ≡ Some spec → is_column_coded (column_of f) cells ≡ true → list_all (λ x. is_null_or_entry x && has_utf8_texts x) cells ≡ true
field_coded f spec cells is h =
    coded_by (column_of f) (index_of spec) cells (ap index_of_column (field_parts f) ∙ ap (option_map index_of) is) h

-- ---- how many cells there are

pub cells_more : (j : ℕ) (c : Column) (runs : List RowRun) (i : ℕ) (run : RowRun) → i < length runs → run ≡ get_or runs i run
    → length (flat_map (cells_at_place j c) (take (i + 1) runs)) ≡ length (flat_map (cells_at_place j c) (take i runs)) + run.len
cells_more j c runs i run lt is =
    let size = length-map-range_with_len (cell_at c (array_at j run)) run.from run.len in
    let long = length-append (flat_map (cells_at_place j c) (take i runs)) (cells_at_place j c run) in
    let joined = ap length (flat_map-item (cells_at_place j c) runs i run lt is) in
    omega (arith, size, long, joined)

-- ---- for how many cells there is room

-- more cells have no fewer entries
grown : (old xs : List Cell) (a b : ℕ) → a ≤ b → length (with_entries old (take a xs)) ≤ length (with_entries old (take b xs))
grown old xs a b le =
    let more = ap (with_entries old) (take-append-drop a (take b xs)) in
    let split = entries_append old (take a (take b xs)) (drop a (take b xs)) in
    let grow = entries_grow (with_entries old (take a (take b xs))) (drop a (take b xs)) in
    let front = ap (λ (ys : List Cell). length (with_entries old ys)) (take-take a b xs le) in
    omega (arith, ap length more, ap length split, grow, front)

-- what fits at a number fits below it, and what does not fit does not fit above
below_room : (most : ℕ) (start new own : List Cell) (n k : ℕ) → IsRoomFor most start new own n → k ≤ length own → nat_le (length (with_entries start (take k own))) most ≡ nat_le k n
below_room most start new own n k is le = elim (cases_lt n k) [
  | inl past ↦
      let more = is.full (omega (arith, past, le)) in
      let grow = grown start own (n + 1) k (omega (arith, past)) in
      lt-leb (length (with_entries start (take k own))) most (omega (arith, more, grow)) ∙ sym (lt-leb k n past)
  | inr low ↦
      let grow = grown start own k n low in
      le-leb (length (with_entries start (take k own))) most (omega (arith, is.fits, grow)) ∙ sym (le-leb k n low)
]

pub named_room : (index : Index) (most : ℕ) (before start new own : List Cell) (n : ℕ) → entry_limit index ≡ Some most → start ≡ entries_of before
    → IsRoomFor most start new own n → HasRoomFor (entries_fit index) before own n
named_room index most before start new own n limit is room = record {
  within = room.within;
  room = λ k le.
      let all : entries_of (before ++ take k own) ≡ with_entries start (take k own) = entries_append [] before (take k own) ∙ ap (λ (xs : List Cell). with_entries xs (take k own)) (sym is) in
      ap (λ (o : Option ℕ). is_within o (length (entries_of (before ++ take k own)))) limit
      ∙ ap (λ (xs : List Cell). nat_le (length xs) most) all ∙ below_room most start new own n k room le;
}

-- if all fits that there can be, there is room for all
pub all_room_for : (fits : List Cell → Bool) (before own : List Cell) (n : ℕ) → n ≡ length own → ((k : ℕ) → k ≤ length own → fits (before ++ take k own) ≡ true) → HasRoomFor fits before own n
all_room_for fits before own n whole all = record {
  within = omega (arith, whole);
  room = λ k le. all k le ∙ sym (le-leb k n (omega (arith, le, whole)));
}

pub same_room : (f g : List Cell → Bool) (before own : List Cell) (n : ℕ) → ((cells : List Cell) → f cells ≡ g cells) → HasRoomFor f before own n → HasRoomFor g before own n
same_room f g before own n same room = record { within = room.within; room = λ k le. sym (same (before ++ take k own)) ∙ room.room k le }

-- how many cells the column at a place has in a run
pub run_counted : (j : ℕ) (c : Column) (run : RowRun) → length (cells_at_place j c run) ≡ run.len
run_counted j c run = length-map-range_with_len (cell_at c (array_at j run)) run.from run.len

-- there is room for a number if there is room for it in a column and in those before it
pub least_room : (k m n r : ℕ) (rest : Bool) → r ≤ m → r ≤ n → (k ≤ m → k ≤ n → k ≤ r) → (nat_le k m && (nat_le k n && rest)) ≡ (nat_le k r && rest)
least_room k m n r rest low other least = elim (cases_lt m k) [
  | inl lt ↦ rw (lt-leb k m lt, lt-leb k r (omega (arith, lt, low))) refl
  | inr le ↦ elim (cases_lt n k) [
    | inl lt ↦ rw (le-leb k m le, lt-leb k n lt, lt-leb k r (omega (arith, lt, other))) refl
    | inr also ↦ rw (le-leb k m le, le-leb k n also, le-leb k r (least le also)) refl
  ]
]

-- the cells of a piece before a run, in it, and after it
pub piece_at : (j : ℕ) (c : Column) (piece : List RowRun) (i : ℕ) (run : RowRun) → i < length piece → run ≡ get_or piece i run
    → flat_map (cells_at_place j c) piece ≡ (flat_map (cells_at_place j c) (take i piece) ++ cells_at_place j c run) ++ flat_map (cells_at_place j c) (drop (i + 1) piece)
piece_at j c piece i run lt is =
    ap (flat_map (cells_at_place j c)) (sym (take-append-drop (i + 1) piece))
    ∙ flat_map-append (cells_at_place j c) (take (i + 1) piece) (drop (i + 1) piece)
    ∙ ap (λ (cells : List Cell). cells ++ flat_map (cells_at_place j c) (drop (i + 1) piece)) (flat_map-item (cells_at_place j c) piece i run lt is)

pub all_of_part : (test : Cell → Bool) (all xs ys zs : List Cell) → all ≡ (xs ++ ys) ++ zs → list_all test all ≡ true → list_all test ys ≡ true
all_of_part test all xs ys zs is h =
    let whole = and_parts (list_all test (xs ++ ys)) (list_all test zs) (sym (ap (list_all test) is ∙ list_all-append test (xs ++ ys) zs) ∙ h) in
    (and_parts (list_all test xs) (list_all test ys) (sym (list_all-append test xs ys) ∙ whole.0)).1

-- the first of some cells have no more entries than all
pub first_few : (most : ℕ) (all xs ys : List Cell) → all ≡ xs ++ ys → length (entries_of all) ≤ most → length (entries_of xs) ≤ most
first_few most all xs ys is few =
    let more = ap entries_of is ∙ entries_append [] xs ys in
    let grow = entries_grow (entries_of xs) ys in
    omega (arith, ap length more, grow, few)

-- if there is room for the entries of all cells, none of a part is left out
pub part_named : (most : ℕ) (all before own rest start new : List Cell) (n : ℕ) → all ≡ (before ++ own) ++ rest → length (entries_of all) ≤ most → start ≡ entries_of before
    → IsRoomFor most start new own n → new ≡ entries_of (before ++ own)
part_named most all before own rest start new n is few begun room =
    let joined : entries_of (before ++ own) ≡ with_entries start own = entries_append [] before own ∙ ap (λ (xs : List Cell). with_entries xs own) (sym begun) in
    elim (cases_lt n (length own)) [
      | inl lt ↦
          let past = room.full lt in
          let split = ap (with_entries start) (take-append-drop (n + 1) own) in
          let more = entries_append start (take (n + 1) own) (drop (n + 1) own) in
          let grow = entries_grow (with_entries start (take (n + 1) own)) (drop (n + 1) own) in
          let whole = first_few most all (before ++ own) rest is few in
          absurd (omega (arith, past, ap length split, ap length more, grow, whole, ap length joined))
      | inr ge ↦ room.named (omega (arith, room.within, ge)) ∙ sym joined
    ]

-- no more distinct cells than cells
pub few_fit : (index : Index) (most : ℕ) (cells : List Cell) → entry_limit index ≡ Some most → length cells ≤ most → is_within (entry_limit index) (length (entries_of cells)) ≡ true
few_fit index most cells limit few =
    let fewer = entries_few [] cells in
    ap (λ (o : Option ℕ). is_within o (length (entries_of cells))) limit ∙ le-leb (length (entries_of cells)) most (omega (arith, fewer, few))
