-- The run that a piece is at, taken whole or in part.
use Rattle.std.specs.List.{range_with_len}
use Rattle.std.proofs.Common.{◌≡◌, ℕ, ◌+◌, ◌-◌, ◌<◌, ◌≤◌, true, List, ◌++◌, map, length, take, drop, get_or, set, sym, ap, subst, ◌∙◌, arith, append_assoc, length-append}
use Rattle.std.proofs.lemmas.Bool.{and_parts}
use Rattle.std.proofs.lemmas.List.{drop-set, take-append-drop, length-take-le, take_all}
use Rattle.std.proofs.lemmas.List.Concat.{flat_map-cons}
use Rattle.std.proofs.lemmas.List.Sums.{sum_by-append}
use Rattle.facts.specs.laws.Lists.{drop-item}
use Rattle.arrow_schema.specs.Column.{PlainSchema, Columns, columns_of}
use Rattle.cells.specs.Cell.{Cell}
use Rattle.cells.specs.Weight.{row_weight, table_weight}
use Rattle.columns.specs.CellAt.{row_at}
use Rattle.columns.specs.Sound.{are_sound}
use Rattle.columns.specs.View.{placed_arrays}
use Rattle.columns.specs.declared.array.Dictionary.{Dictionary}
use Rattle.columns.specs.declared.array.PlacedArray.{PlacedArray}
use Rattle.table_cut.specs.declared.row_run.RowRun.{RowRun}
use Rattle.table_cut.specs.Rows.{arrays_of_run, run_rows, runs_rows, is_run_sound, are_runs_sound}
use Rattle.table_cut.proofs.PieceLemmas.{IsFull, IsPastLimits, run_full}
use Rattle.table_cut.proofs.RowLemmas.{rows_after}
use Rattle.table_cut.specs.laws.Runs.{run_size}

pub front_size : (cs : Columns) (run : RowRun) (k : ℕ) → k ≤ run.len → length (take k (run_rows cs run)) ≡ k
front_size cs run k le = let size = run_size cs run in length-take-le k (run_rows cs run) (omega (arith, size))

-- rows of a piece, and n of a run after them
pub record HasTaken (s : PlainSchema) (before new : List (List Cell)) (run : RowRun) (k : ℕ) : Type 0 where
  pub count : length new ≡ length before + k
  pub weight : table_weight s new ≡ table_weight s before + table_weight s (take k (run_rows (columns_of s.columns) run))

pub has_taken : (s : PlainSchema) (before new : List (List Cell)) (run : RowRun) (k : ℕ) → k ≤ run.len → new ≡ before ++ take k (run_rows (columns_of s.columns) run)
    → HasTaken s before new run k
has_taken s before new run k le taken =
    let rows : List (List Cell) = take k (run_rows (columns_of s.columns) run) in
    let size = front_size (columns_of s.columns) run k le in
    let long = length-append before rows in
    let both = sum_by-append (row_weight s) before rows in
    record { count = omega (arith, ap length taken, long, size); weight = omega (arith, ap (table_weight s) taken, both) }

-- the run at a place, before the others
pub run_first : (cs : Columns) (items : List RowRun) (next : ℕ) (run : RowRun) → next < length items → run ≡ get_or items next run
    → runs_rows cs (drop next items) ≡ run_rows cs run ++ runs_rows cs (drop (next + 1) items)
run_first cs items next run lt is = ap (runs_rows cs) (drop-item items next run lt is) ∙ flat_map-cons (run_rows cs) run (drop (next + 1) items)

pub sound_first : (cs : Columns) (items : List RowRun) (next : ℕ) (run : RowRun) → next < length items → run ≡ get_or items next run → are_runs_sound cs (drop next items) ≡ true
    → (is_run_sound cs run ≡ true) × (are_runs_sound cs (drop (next + 1) items) ≡ true)
sound_first cs items next run lt is sound =
    let both = and_parts (is_run_sound cs run) (are_runs_sound cs (drop (next + 1) items)) (sym (ap (are_runs_sound cs) (drop-item items next run lt is)) ∙ sound) in
    (both.0, both.1)

-- n of its rows are taken
pub taken_front : (cs : Columns) (items : List RowRun) (next : ℕ) (run : RowRun) (all before new : List (List Cell)) (k : ℕ) → next < length items → run ≡ get_or items next run
    → all ≡ before ++ runs_rows cs (drop next items) → new ≡ before ++ take k (run_rows cs run)
    → all ≡ new ++ (drop k (run_rows cs run) ++ runs_rows cs (drop (next + 1) items))
taken_front cs items next run all before new k lt is whole taken =
    let rows : List (List Cell) = run_rows cs run in
    let rest : List (List Cell) = runs_rows cs (drop (next + 1) items) in
    whole
    ∙ ap (λ (xs : List (List Cell)). before ++ xs) (run_first cs items next run lt is)
    ∙ ap (λ (xs : List (List Cell)). before ++ (xs ++ rest)) (sym (take-append-drop k rows))
    ∙ ap (λ (xs : List (List Cell)). before ++ xs) (append_assoc (take k rows) (drop k rows) rest)
    ∙ sym (append_assoc before (take k rows) (drop k rows ++ rest))
    ∙ ap (λ (xs : List (List Cell)). xs ++ (drop k rows ++ rest)) (sym taken)

-- what is left after them
pub left_after : (cs : Columns) (items : List RowRun) (next : ℕ) (run remaining : RowRun) (k : ℕ) → next < length items → run_rows cs remaining ≡ drop k (run_rows cs run)
    → runs_rows cs (drop next (set items next remaining)) ≡ drop k (run_rows cs run) ++ runs_rows cs (drop (next + 1) items)
left_after cs items next run remaining k lt is =
    ap (runs_rows cs) (drop-set items next remaining lt)
    ∙ flat_map-cons (run_rows cs) remaining (drop (next + 1) items)
    ∙ ap (λ (xs : List (List Cell)). xs ++ runs_rows cs (drop (next + 1) items)) is

pub cut_front : (cs : Columns) (items : List RowRun) (next : ℕ) (run remaining : RowRun) (all before new : List (List Cell)) (k : ℕ) → next < length items → run ≡ get_or items next run
    → all ≡ before ++ runs_rows cs (drop next items) → new ≡ before ++ take k (run_rows cs run) → run_rows cs remaining ≡ drop k (run_rows cs run)
    → all ≡ new ++ runs_rows cs (drop next (set items next remaining))
cut_front cs items next run remaining all before new k lt is whole taken rest =
    taken_front cs items next run all before new k lt is whole taken
    ∙ ap (λ (xs : List (List Cell)). new ++ xs) (sym (left_after cs items next run remaining k lt rest))

pub cut_full : (s : PlainSchema) (items : List RowRun) (next : ℕ) (run remaining : RowRun) (new : List (List Cell)) (k : ℕ) → next < length items
    → run_rows (columns_of s.columns) remaining ≡ drop k (run_rows (columns_of s.columns) run) → k < run.len
    → IsPastLimits s new (row_at (columns_of s.columns) (arrays_of_run run) (run.from + k))
    → IsFull s new (runs_rows (columns_of s.columns) (drop next (set items next remaining)))
cut_full s items next run remaining new k lt rest more full =
    let cs : Columns = columns_of s.columns in
    let others : List (List Cell) = runs_rows cs (drop (next + 1) items) in
    let span : List (List Cell) = map (row_at cs (arrays_of_run run)) (range_with_len (run.from + k) (run.len - k)) in
    let here : IsFull s new (span ++ others) = run_full s new (arrays_of_run run) run.from run.len k others more full in
    let left : span ++ others ≡ runs_rows cs (drop next (set items next remaining))
    = ap (λ (xs : List (List Cell)). xs ++ others) (rows_after cs (arrays_of_run run) run.from run.len k (omega arith)) ∙ sym (left_after cs items next run remaining k lt rest) in
    subst (λ (xs : List (List Cell)). IsFull s new xs) left here

-- ---- the batches of a part

pub all_items : {X : Type 0} (i : ℕ) (given own : List X) → length given ≤ i → given ≡ own → take i given ≡ own
all_items i given own past same = take_all i given past ∙ same

-- the rows of arrays in the bytes and with the dictionaries of a part
pub rows_placed : (cs : Columns) (n : ℕ) (bytes bytes' : List ℕ) (dictionaries dictionaries' : List Dictionary) (arrays : List PlacedArray) → bytes ≡ bytes' → dictionaries ≡ dictionaries'
    → map (row_at cs (placed_arrays bytes dictionaries arrays)) (range_with_len 0 n) ≡ map (row_at cs (placed_arrays bytes' dictionaries' arrays)) (range_with_len 0 n)
rows_placed cs n bytes bytes' dictionaries dictionaries' arrays same known = λ i. map (row_at cs (placed_arrays (same i) (known i) arrays)) (range_with_len 0 n)

pub sound_placed : (cs : Columns) (n : ℕ) (bytes bytes' : List ℕ) (dictionaries dictionaries' : List Dictionary) (arrays : List PlacedArray) → bytes ≡ bytes' → dictionaries ≡ dictionaries'
    → are_sound cs n (placed_arrays bytes' dictionaries' arrays) ≡ true → are_sound cs (0 + n) (placed_arrays bytes dictionaries arrays) ≡ true
sound_placed cs n bytes bytes' dictionaries dictionaries' arrays same known sound =
    let slots : 0 + n ≡ n = omega arith in
    (λ i. are_sound cs (slots i) (placed_arrays (same i) (known i) arrays)) ∙ sound
