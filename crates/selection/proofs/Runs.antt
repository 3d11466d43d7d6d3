-- The rows that a mask keeps, as runs.
use Rattle.std.proofs.Common.{◌≡◌, ℕ, ◌+◌, ◌-◌, ◌<◌, ◌≤◌, true, false, List, ◌++◌, length, take, drop, sym, ap, subst, ◌∙◌, arith, length-append}
use Rattle.std.proofs.lemmas.List.{length-take-le, length-drop, take-take}
use Rattle.arrow_schema.specs.Column.{Columns}
use Rattle.bitmap.specs.Bits.{bit}
use Rattle.cells.specs.Cell.{Cell}
use Rattle.query.specs.Choice.{rows_set}
use Rattle.query.specs.laws.RowsSet.{kept_front, set_append, front_start, front_next, front_run, front_done}
use Rattle.table_cut.specs.Rows.{runs_rows, are_runs_sound}
use Rattle.selection.specs.declared.kept.KeptRuns.{KeptRuns}
use Rattle.selection.specs.inner.Kept.{AreKept, Keeps}

-- the same rows
pub kept_same : (cs : Columns) (before after : List (List Cell)) (k : KeptRuns) → before ≡ after → AreKept cs before k → AreKept cs after k
kept_same cs before after k e h = let P : List (List Cell) → Type 0 = λ rows. AreKept cs rows k in subst P e h

-- the first rows of a run
pub front_taken : (xs front run : List (List Cell)) (from size n : ℕ) → front ≡ take size (drop from xs) → run ≡ take n front → n ≤ size → run ≡ take n (drop from xs)
front_taken xs front run from size n is taken le = taken ∙ ap (take n) is ∙ take-take n size (drop from xs) le

-- a run more
pub kept_run : (cs : Columns) (most : ℕ) (others : List (List Cell)) (mask : List ℕ) (start : ℕ) (xs : List (List Cell)) (i n : ℕ) (old new : KeptRuns) → i + n ≤ length xs
    → ((j : ℕ) → i ≤ j → j < i + n → bit mask (start + j) ≡ true) → old.rows + n ≤ most → AreKept cs (kept_front most others mask start xs i) old
    → runs_rows cs new.runs.items ≡ runs_rows cs old.runs.items ++ take n (drop i xs) → are_runs_sound cs new.runs.items ≡ true → new.rows ≡ old.rows + n
    → AreKept cs (kept_front most others mask start xs (i + n)) new
kept_run cs most others mask start xs i n old new within set room h added sound counted =
    let front = kept_front most others mask start xs i in
    let more = front_run most others mask start xs i n within set (omega (arith, room, h.count_is)) in
    let behind : length (drop i xs) ≡ length xs - i = length-drop i xs in
    let own : length (take n (drop i xs)) ≡ n = length-take-le n (drop i xs) (omega (arith, within, behind)) in
    record {
      rows_are = added ∙ ap (λ (ys : List (List Cell)). ys ++ take n (drop i xs)) h.rows_are ∙ sym more;
      sound = sound;
      count_is = omega (arith, counted, h.count_is, own, ap length more, length-append front (take n (drop i xs)));
    }

pub kept_start : (cs : Columns) (most : ℕ) (others : List (List Cell)) (mask : List ℕ) (start : ℕ) (xs : List (List Cell)) (k : KeptRuns) → AreKept cs (take most others) k
    → AreKept cs (kept_front most others mask start xs 0) k
kept_start cs most others mask start xs k h = kept_same cs _ _ k (front_start most others mask start xs) h

pub kept_next : (cs : Columns) (most : ℕ) (others : List (List Cell)) (mask : List ℕ) (start : ℕ) (xs : List (List Cell)) (from to : ℕ) (k : KeptRuns) → from ≤ to → to ≤ length xs
    → ((i : ℕ) → from ≤ i → i < to → bit mask (start + i) ≡ false) → AreKept cs (kept_front most others mask start xs from) k → AreKept cs (kept_front most others mask start xs to) k
kept_next cs most others mask start xs from to k order within unset h = kept_same cs _ _ k (front_next most others mask start xs from to order within unset) h

pub kept_done : (cs : Columns) (most : ℕ) (others : List (List Cell)) (mask : List ℕ) (start : ℕ) (xs : List (List Cell)) (i : ℕ) (k : KeptRuns) → i ≤ length xs → (i < length xs → most ≤ k.rows)
    → AreKept cs (kept_front most others mask start xs i) k → AreKept cs (take most (others ++ rows_set mask start xs)) k
kept_done cs most others mask start xs i k within full h =
    kept_same cs _ _ k (front_done most others mask start xs i within (λ lt. omega (arith, full lt, h.count_is))) h

-- of one more batch
pub kept_batch : (cs : Columns) (most : ℕ) (mask : List ℕ) (start : ℕ) (front own whole : List (List Cell)) (before after : KeptRuns) → start ≡ length front → whole ≡ front ++ own
    → AreKept cs (take most (rows_set mask 0 front)) before → Keeps cs most before after (rows_set mask start own) → AreKept cs (take most (rows_set mask 0 whole)) after
kept_batch cs most mask start front own whole before after at is h more =
    let e : start ≡ 0 + length front = omega (arith, at) in
    kept_same cs _ _ after
    (ap (take most)
    (ap (λ n. rows_set mask 0 front ++ rows_set mask n own) e ∙ sym (set_append mask 0 front own) ∙ ap (rows_set mask 0) (sym is)))
    (more (rows_set mask 0 front) h)
