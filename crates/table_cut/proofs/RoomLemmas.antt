-- Rows of a piece, and those of the run that it is at.
use Rattle.std.specs.List.{list_all, range_with_len}
use Rattle.std.proofs.Common.{◌≡◌, ℕ, zero, suc, ◌+◌, ◌<◌, ◌≤◌, Bool, true, false, List, [], ◌∷◌, ◌++◌, map, length, take, drop, get_or, refl, sym, ap, ◌∙◌, arith, append_assoc}
use Rattle.std.proofs.lemmas.Bool.{and_parts, and_from, lt-ltb}
use Rattle.std.proofs.lemmas.List.{take-append-drop, take-take, take_all}
use Rattle.std.proofs.lemmas.List.Folds.{list_all-append}
use Rattle.std.proofs.lemmas.List.Sums.{sum_by-append}
use Rattle.arrays.specs.Bytes.{are_bytes, have_bytes}
use Rattle.arrays.specs.Shared.{ShareEntries, AreRowsSharing}
use Rattle.arrow_schema.specs.Column.{PlainSchema, Columns, columns_of}
use Rattle.cells.specs.Cell.{Cell, Cells, cell_list}
use Rattle.cells.specs.Dictionary.{dictionaries_fit}
use Rattle.cells.specs.Fit.{each_fits}
use Rattle.cells.specs.Row.{is_row, row_fits}
use Rattle.cells.specs.Weight.{row_weight, table_weight}
use Rattle.cells.specs.laws.Cells.{cells_list}
use Rattle.columns.specs.Array.{Arrays}
use Rattle.columns.specs.CellAt.{part_cells, row_at}
use Rattle.columns.specs.Texts.{have_utf8_texts}
use Rattle.columns.specs.laws.FitTexts.{row_texts}
use Rattle.facts.specs.Bytes.{AreBytes}
use Rattle.facts.specs.laws.Lists.{take-item, flat_map-push}
use Rattle.table_cut.specs.Rows.{arrays_of_run, run_rows, runs_rows}
use Rattle.table_cut.specs.declared.row_run.RowRun.{RowRun}
use Rattle.table_cut.specs.inner.Room.{HasRoom, row_in}
use Rattle.table_cut.specs.laws.Runs.{run_size}

-- ---- rows that a table takes

pub rows_of_parts : (s : PlainSchema) (all piece rest : List (List Cell)) → all ≡ piece ++ rest → list_all (is_row s) all ≡ true → (list_all (is_row s) piece ≡ true) × (list_all (is_row s) rest ≡ true)
rows_of_parts s all piece rest is are =
    let both = and_parts (list_all (is_row s) piece) (list_all (is_row s) rest) (sym (list_all-append (is_row s) piece rest) ∙ ap (list_all (is_row s)) (sym is) ∙ are) in
    (both.0, both.1)

pub rows_of_first : (s : PlainSchema) (left own others : List (List Cell)) (k : ℕ) → left ≡ own ++ others → list_all (is_row s) left ≡ true → list_all (is_row s) (take k own) ≡ true
rows_of_first s left own others k is are =
    let here = (rows_of_parts s left own others is are).0 in
    (rows_of_parts s own (take k own) (drop k own) (sym (take-append-drop k own)) here).0

-- ---- the front of a run

pub lighter_front : (s : PlainSchema) (rows : List (List Cell)) (k t : ℕ) → k ≤ t → table_weight s (take k rows) ≤ table_weight s (take t rows)
lighter_front s rows k t le =
    let whole = ap (table_weight s) (take-append-drop k (take t rows)) in
    let both = sum_by-append (row_weight s) (take k (take t rows)) (drop k (take t rows)) in
    let own = ap (table_weight s) (take-take k t rows le) in
    omega (arith, both, whole, own)

-- the room for rows of the front of a run, as room for rows of that run
pub record HasRoomBelow (s : PlainSchema) (before : List (List Cell)) (run : RowRun) (t k : ℕ) : Type 0 where
  pub within : k ≤ t
  pub fits : dictionaries_fit s (before ++ take k (run_rows (columns_of s.columns) run)) ≡ true
  pub full : k < t → dictionaries_fit s ((before ++ take k (run_rows (columns_of s.columns) run)) ++ row_in s run k ∷ []) ≡ false

pub front_room : (s : PlainSchema) (before : List (List Cell)) (run most : RowRun) (t k : ℕ) → most.len ≡ t → run_rows (columns_of s.columns) most ≡ take t (run_rows (columns_of s.columns) run)
    → arrays_of_run most ≡ arrays_of_run run → most.from ≡ run.from → HasRoom s before most k → HasRoomBelow s before run t k
front_room s before run most t k len rows arrays from room =
    let cs : Columns = columns_of s.columns in
    let le : k ≤ t = omega (arith, room.within, len) in
    let same : take k (run_rows cs run) ≡ take k (run_rows cs most) = sym (ap (take k) rows ∙ take-take k t (run_rows cs run) le) in
    record {
      within = le;
      fits = ap (λ (xs : List (List Cell)). dictionaries_fit s (before ++ xs)) same ∙ room.fits;
      full = λ lt. (λ i. dictionaries_fit s ((before ++ same i) ++ row_at cs (sym arrays i) (sym from i + k) ∷ [])) ∙ room.full (omega (arith, lt, len));
    }

-- ---- the rows of a run, one after another

passes_at : {X : Type 0} (p : X → Bool) (f : ℕ → X) (from n i : ℕ) → list_all p (map f (range_with_len from n)) ≡ true → i < n → p (f (from + i)) ≡ true
passes_at p f from zero i h lt = absurd (omega arith)
passes_at p f from (suc n) zero h lt = let e : from + 0 ≡ from = omega arith in rw e (and_parts (p (f from)) (list_all p (map f (range_with_len (from + 1) n))) h).0
passes_at p f from (suc n) (suc i) h lt =
    let e : from + suc i ≡ from + 1 + i = omega arith in
    rw e (passes_at p f (from + 1) n i (and_parts (p (f from)) (list_all p (map f (range_with_len (from + 1) n))) h).1 (omega arith))

-- the texts of a row that a table takes
pub row_utf8 : (s : PlainSchema) (run : RowRun) (i : ℕ) → list_all (is_row s) (run_rows (columns_of s.columns) run) ≡ true → i < run.len
    → have_utf8_texts (part_cells (columns_of s.columns) (arrays_of_run run) (run.from + i)) ≡ true
unfolding is_row
row_utf8 s run i h lt =
    let cs : Columns = columns_of s.columns in
    let cells : Cells = part_cells cs (arrays_of_run run) (run.from + i) in
    let is : is_row s (cell_list cells) ≡ true = passes_at (is_row s) (row_at cs (arrays_of_run run)) run.from run.len i h lt in
    row_texts cs cells (sym (ap (each_fits cs) (cells_list cells)) ∙ (and_parts (row_fits s (cell_list cells)) _ is).0)

one_more : {X : Type 0} (f : ℕ → X) (from n i : ℕ) → i < n → take (i + 1) (map f (range_with_len from n)) ≡ take i (map f (range_with_len from n)) ++ f (from + i) ∷ []
one_more f from zero i lt = absurd (omega arith)
one_more f from (suc n) zero lt = let e : from + 0 ≡ from = omega arith in rw e refl
one_more {X = X} f from (suc n) (suc i) lt =
    let e : from + suc i ≡ from + 1 + i = omega arith in
    let m : suc i + 1 ≡ suc (i + 1) = omega arith in
    rw (e, m) (ap (λ (xs : List X). f from ∷ xs) (one_more f (from + 1) n i (omega arith)))

-- after some rows, one row more of a run
pub one_row_more : (s : PlainSchema) (rows : List (List Cell)) (run : RowRun) (i : ℕ) (row : List Cell) → i < run.len → row ≡ row_in s run i
    → (rows ++ take i (run_rows (columns_of s.columns) run)) ++ row ∷ [] ≡ rows ++ take (i + 1) (run_rows (columns_of s.columns) run)
one_row_more s rows run i row lt is =
    let cs : Columns = columns_of s.columns in
    append_assoc rows (take i (run_rows cs run)) (row ∷ [])
    ∙ ap (λ (x : List Cell). rows ++ (take i (run_rows cs run) ++ x ∷ [])) is
    ∙ ap (λ (xs : List (List Cell)). rows ++ xs) (sym (one_more (row_at cs (arrays_of_run run)) run.from run.len i lt))

pub all_of_run : (cs : Columns) (run : RowRun) (i : ℕ) → run.len ≤ i → take i (run_rows cs run) ≡ run_rows cs run
all_of_run cs run i past = let size = run_size cs run in take_all i (run_rows cs run) (omega (arith, size, past))

-- ---- a run among others

pub item_passes : {X : Type 0} (p : X → Bool) (xs : List X) (i : ℕ) (x : X) → i < length xs → x ≡ get_or xs i x → list_all p xs ≡ true → p x ≡ true
item_passes p [] i x lt is h = absurd (omega arith)
item_passes p (y ∷ ys) zero x lt is h = ap p is ∙ (and_parts (p y) (list_all p ys) h).0
item_passes p (y ∷ ys) (suc i) x lt is h = item_passes p ys i x (omega arith) is (and_parts (p y) (list_all p ys) h).1

pub rows_of_run : (s : PlainSchema) (runs : List RowRun) (i : ℕ) (run : RowRun) → i < length runs → run ≡ get_or runs i run
    → list_all (is_row s) (runs_rows (columns_of s.columns) runs) ≡ true → list_all (is_row s) (run_rows (columns_of s.columns) run) ≡ true
rows_of_run s [] i run lt is h = absurd (omega arith)
rows_of_run s (r ∷ runs) zero run lt is h =
    let cs : Columns = columns_of s.columns in
    ap (λ (x : RowRun). list_all (is_row s) (run_rows cs x)) is ∙ (rows_of_parts s (runs_rows cs (r ∷ runs)) (run_rows cs r) (runs_rows cs runs) refl h).0
rows_of_run s (r ∷ runs) (suc i) run lt is h =
    let cs : Columns = columns_of s.columns in
    rows_of_run s runs i run (omega arith) is (rows_of_parts s (runs_rows cs (r ∷ runs)) (run_rows cs r) (runs_rows cs runs) refl h).1

pub one_run_more : (cs : Columns) (runs : List RowRun) (i : ℕ) (run : RowRun) → i < length runs → run ≡ get_or runs i run
    → runs_rows cs (take i runs) ++ run_rows cs run ≡ runs_rows cs (take (i + 1) runs)
one_run_more cs runs i run lt is = sym (ap (runs_rows cs) (take-item runs i run lt is) ∙ flat_map-push (run_rows cs) (take i runs) run)

-- ---- bytes, and rows that share entries

pub small_bytes : (xs : List ℕ) → AreBytes xs → are_bytes xs ≡ true
small_bytes [] small = refl
small_bytes (x ∷ xs) small = and_from _ _ (lt-ltb x 256 (small 0)) (small_bytes xs (λ k. small (suc k)))

span_shares : (cs : Columns) (own others : Arrays) (from n : ℕ) → have_bytes others ≡ true → ShareEntries cs own others → AreRowsSharing cs own (map (row_at cs others) (range_with_len from n))
span_shares cs own others from zero small shares = tt
span_shares cs own others from (suc n) small shares = ((others, from, small, shares, refl), span_shares cs own others (from + 1) n small shares)

pub run_shares : (cs : Columns) (own : Arrays) (run : RowRun) → have_bytes (arrays_of_run run) ≡ true → ShareEntries cs own (arrays_of_run run) → AreRowsSharing cs own (run_rows cs run)
run_shares cs own run small shares = span_shares cs own (arrays_of_run run) run.from run.len small shares

pub both_share : (cs : Columns) (own : Arrays) (xs ys : List (List Cell)) → AreRowsSharing cs own xs → AreRowsSharing cs own ys → AreRowsSharing cs own (xs ++ ys)
both_share cs own [] ys a b = b
both_share cs own (x ∷ xs) ys a b = (a.0, both_share cs own xs ys a.1 b)

-- there is room for all rows of a run, if the dictionaries have room for all together
pub all_room : (s : PlainSchema) (rows : List (List Cell)) (run : RowRun) → dictionaries_fit s (rows ++ run_rows (columns_of s.columns) run) ≡ true → HasRoom s rows run run.len
all_room s rows run fits = record {
  within = omega arith;
  fits = ap (λ (xs : List (List Cell)). dictionaries_fit s (rows ++ xs)) (all_of_run (columns_of s.columns) run run.len (omega arith)) ∙ fits;
  full = λ lt. absurd (omega (arith, lt));
}
