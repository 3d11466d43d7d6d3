-- Runs of rows, column by column.
use Rattle.std.specs.Prelude.{nat_le}
use Rattle.std.specs.List.{flat_map, list_all, range_with_len}
use Rattle.std.specs.Global.{Global}
use Rattle.std.proofs.Common.{Vec, ◌≡◌, ℕ, suc, ◌+◌, ◌<◌, Bool, true, List, [], ◌∷◌, ◌++◌, map, length, take, get_or, refl, sym, ap, subst, ◌∙◌, arith}
use Rattle.std.proofs.lemmas.Bool.{and_parts, and_from}
use Rattle.std.proofs.lemmas.List.{map-append}
use Rattle.std.proofs.lemmas.List.Folds.{list_all-append}
use Rattle.facts.specs.laws.Lists.{take-item, flat_map-push, all_with_item}
use Rattle.columns.specs.Runs.{run_cells, runs_cells, is_run_sound, are_runs_sound, HaveRuns, are_columns_sound}
use Rattle.columns.specs.declared.slot_runs.SlotRun.{SlotRun}
use Rattle.arrow_schema.specs.Column.{Column, Columns, and_column, columns_of}
use Rattle.cells.specs.Cell.{Cell}
use Rattle.columns.specs.Array.{Arrays, slots_in, other_arrays}
use Rattle.columns.specs.Built.{first_cell, other_cells}
use Rattle.columns.specs.CellAt.{row_at}
use Rattle.columns.specs.Sound.{is_sound, are_sound}
use Rattle.columns.specs.laws.Rows.{first_cells, other_rows, other_placed}
use Rattle.table_cut.specs.declared.row_run.RowRun.{RowRun}
use Rattle.table_cut.specs.inner.Columns.{arrays_from_place, rows_from_place, cells_at_place, array_at, has_sound_array, IsColumn, AreColumns}

-- ---- rows of arrays, column by column

pub arrays_next : (j : ℕ) (r : RowRun) → other_arrays (arrays_from_place j r) ≡ arrays_from_place (j + 1) r
arrays_next j r = other_placed r.bytes.now r.dictionaries.now r.arrays.now j

pub rows_first : (j : ℕ) (c : Column) (cs : Columns) (rows : List RowRun) → map first_cell (flat_map (rows_from_place j (and_column c cs)) rows) ≡ flat_map (cells_at_place j c) rows
rows_first j c cs [] = refl
rows_first j c cs (r ∷ rows) =
    map-append first_cell (rows_from_place j (and_column c cs) r) (flat_map (rows_from_place j (and_column c cs)) rows)
    ∙ λ i. first_cells c cs (arrays_from_place j r) (range_with_len r.from r.len) i ++ rows_first j c cs rows i

pub rows_others : (j : ℕ) (c : Column) (cs : Columns) (rows : List RowRun) → map other_cells (flat_map (rows_from_place j (and_column c cs)) rows) ≡ flat_map (rows_from_place (j + 1) cs) rows
rows_others j c cs [] = refl
rows_others j c cs (r ∷ rows) =
    let own : map other_cells (rows_from_place j (and_column c cs) r) ≡ rows_from_place (j + 1) cs r
    = other_rows c cs (arrays_from_place j r) (range_with_len r.from r.len) ∙ ap (λ (arrays : Arrays). map (row_at cs arrays) (range_with_len r.from r.len)) (arrays_next j r) in
    map-append other_cells (rows_from_place j (and_column c cs) r) (flat_map (rows_from_place j (and_column c cs)) rows)
    ∙ λ i. own i ++ rows_others j c cs rows i

-- ---- the runs of a column, and of all

pub no_column_runs : (j : ℕ) → IsColumn j [] []
no_column_runs j = λ c sound. (refl, refl)

pub column_more : (j : ℕ) (rows : List RowRun) (i : ℕ) (row : RowRun) (old new : List SlotRun) (slot : SlotRun) → i < length rows → row ≡ get_or rows i row → new ≡ old ++ slot ∷ []
    → ((c : Column) → has_sound_array j c row ≡ true → run_cells c slot ≡ cells_at_place j c row)
    → ((c : Column) → has_sound_array j c row ≡ true → is_run_sound c slot ≡ true)
    → IsColumn j (take i rows) old → IsColumn j (take (i + 1) rows) new
column_more j rows i row old new slot lt is pushed cells sound was = λ c all.
    let both = all_with_item (has_sound_array j c) rows i row lt is all in
    let before = was c both.0 in
    let last : run_cells c slot ≡ cells_at_place j c row = cells c both.1 in
    let joined : runs_cells c new ≡ flat_map (cells_at_place j c) (take (i + 1) rows) =
    ap (runs_cells c) pushed ∙ flat_map-push (run_cells c) old slot ∙ (λ k. before.0 k ++ last k)
    ∙ sym (flat_map-push (cells_at_place j c) (take i rows) row) ∙ ap (flat_map (cells_at_place j c)) (sym (take-item rows i row lt is)) in
    let good : are_runs_sound c new ≡ true =
    ap (are_runs_sound c) pushed ∙ list_all-append (is_run_sound c) old (slot ∷ []) ∙ and_from _ _ before.1 (and_from _ _ (sound c both.1) refl) in
    (joined, good)

pub are_more : (j : ℕ) (rows : List RowRun) (rss : List (List SlotRun)) (rs : List SlotRun) → AreColumns j rows rss → IsColumn (j + length rss) rows rs → AreColumns j rows (rss ++ rs ∷ [])
are_more j rows [] rs are is = let e : j + 0 ≡ j = omega arith in (subst (λ (k : ℕ). IsColumn k rows rs) e is, tt)
are_more j rows (r ∷ rss) rs are is =
    let e : j + suc (length rss) ≡ j + 1 + length rss = omega arith in
    (are.0, are_more (j + 1) rows rss rs are.1 (subst (λ (k : ℕ). IsColumn k rows rs) e is))

abbrev pub is_sound_from_place : ℕ → Columns → RowRun → Bool
is_sound_from_place j cs r = are_sound cs (r.from + r.len) (arrays_from_place j r)

pub sound_own : (j : ℕ) (c : Column) (cs : Columns) (rows : List RowRun) → list_all (is_sound_from_place j (and_column c cs)) rows ≡ true
    → (list_all (has_sound_array j c) rows ≡ true) × (list_all (is_sound_from_place (j + 1) cs) rows ≡ true)
unfolding are_sound
sound_own j c cs [] h = (refl, refl)
sound_own j c cs (r ∷ rows) h =
    let both = and_parts (is_sound_from_place j (and_column c cs) r) (list_all (is_sound_from_place j (and_column c cs)) rows) h in
    let long = and_parts (nat_le (r.from + r.len) (slots_in (array_at j r))) _ both.0 in
    let parts = and_parts (is_sound c (array_at j r)) _ long.1 in
    let more = sound_own j c cs rows both.1 in
    let next : is_sound_from_place (j + 1) cs r ≡ true = sym (ap (are_sound cs (r.from + r.len)) (arrays_next j r)) ∙ parts.1 in
    (and_from _ _ (and_from _ _ long.0 parts.0) more.0, and_from _ _ next more.1)

pub all_have : (cs : List Column) (j : ℕ) (rows : List RowRun) (rss : List (List SlotRun)) → AreColumns j rows rss → length rss ≡ length cs → list_all (is_sound_from_place j (columns_of cs)) rows ≡ true
    → HaveRuns (columns_of cs) rss (flat_map (rows_from_place j (columns_of cs)) rows) × (are_columns_sound (columns_of cs) rss ≡ true)
unfolding HaveRuns are_columns_sound
all_have [] j rows [] are len sound = (tt, refl)
all_have [] j rows (rs ∷ rss) are len sound = absurd (omega arith)
all_have (c ∷ cs) j rows [] are len sound = absurd (omega arith)
all_have (c ∷ cs) j rows (rs ∷ rss) are len sound =
    let parts = sound_own j c (columns_of cs) rows sound in
    let own = are.0 c parts.0 in
    let rest = all_have cs (j + 1) rows rss are.1 (omega arith) parts.1 in
    let first : map first_cell (flat_map (rows_from_place j (and_column c (columns_of cs))) rows) ≡ runs_cells c rs = rows_first j c (columns_of cs) rows ∙ sym own.0 in
    let remaining : HaveRuns (columns_of cs) rss (map other_cells (flat_map (rows_from_place j (and_column c (columns_of cs))) rows))
    = subst (λ (xs : List (List Cell)). HaveRuns (columns_of cs) rss xs) (sym (rows_others j c (columns_of cs) rows)) rest.0 in
    ((first, remaining), and_from _ _ own.1 rest.1)

-- the lists of vectors
abbrev pub run_lists : List (Vec SlotRun Global) → List (List SlotRun)
run_lists vs = map (λ v. v.items) vs
