-- The entries of the first of some slots.
use Rattle.std.proofs.Common.{◌≡◌, ◌≤◌, ◌<◌, ◌+◌, ◌-◌, ◌++◌, ◌∷◌, [], ℕ, List, length, take, ap, sym, ◌∙◌, arith}
use Rattle.std.proofs.lemmas.List.{take_all}
use Rattle.std.proofs.lemmas.List.FromFn.{length-map-range_with_len}
use Rattle.std.proofs.Math.Seq.{take-append_seam}
use Rattle.cells.specs.Cell.{Cell}
use Rattle.cells.specs.Dictionary.{with_entries, with_entry}
use Rattle.cells.specs.laws.Entries.{entries_append}
use Rattle.columns.specs.CellAt.{cells_from}
use Rattle.columns.specs.laws.Rows.{cells_from-append}
use Rattle.dictionary_codes.specs.Room.{IsRoomFor}
use Rattle.dictionary_codes.proofs.CodedRuns.{cells_split}

pub cells_size : (f : ℕ → Cell) (from n : ℕ) → length (cells_from f from n) ≡ n
cells_size f from n = length-map-range_with_len f from n

-- the cells of the first slots are the first of the cells
pub first_cells : (f : ℕ → Cell) (from i to : ℕ) → from ≤ i → i ≤ to → take (i - from) (cells_from f from (to - from)) ≡ cells_from f from (i - from)
first_cells f from i to low high =
    let own : List Cell = cells_from f from (i - from) in
    ap (take (i - from)) (cells_split f from i to low high)
    ∙ ap (λ (n : ℕ). take n (own ++ cells_from f i (to - i))) (sym (cells_size f from (i - from)))
    ∙ take-append_seam own (cells_from f i (to - i))

-- the entries with those of one slot more
pub one_named : (f : ℕ → Cell) (from i : ℕ) (start es : List Cell) → from ≤ i → es ≡ with_entries start (cells_from f from (i - from))
    → with_entry es (f i) ≡ with_entries start (cells_from f from (i + 1 - from))
unfolding with_entries
one_named f from i start es low is =
    let size : i + 1 - from ≡ (i - from) + 1 = omega (arith, low) in
    let at : from + (i - from) ≡ i = omega (arith, low) in
    let more : cells_from f from (i + 1 - from) ≡ cells_from f from (i - from) ++ f i ∷ [] =
    ap (cells_from f from) size ∙ cells_from-append f from (i - from) 1 ∙ ap (λ (k : ℕ). cells_from f from (i - from) ++ f k ∷ []) at in
    ap (λ (xs : List Cell). with_entry xs (f i)) is ∙ sym (ap (with_entries start) more ∙ entries_append start (cells_from f from (i - from)) (f i ∷ []))

-- there is room for the slots before one, and not for it
pub some_named : (f : ℕ → Cell) (from i to most : ℕ) (start es new : List Cell) → from ≤ i → i < to → es ≡ with_entries start (cells_from f from (i - from)) → length es ≤ most
    → new ≡ with_entry es (f i) → most < length new → IsRoomFor most start new (cells_from f from (to - from)) (i - from)
some_named f from i to most start es new low lt is few more past =
    let all : List Cell = cells_from f from (to - from) in
    let size = cells_size f from (to - from) in
    let here : with_entries start (take (i - from) all) ≡ es = ap (with_entries start) (first_cells f from i to low (omega (arith, lt))) ∙ sym is in
    let count : i + 1 - from ≡ (i - from) + 1 = omega (arith, low) in
    let next : with_entries start (take (i - from + 1) all) ≡ new =
    ap (λ (n : ℕ). with_entries start (take n all)) (sym count)
    ∙ ap (with_entries start) (first_cells f from (i + 1) to (omega (arith, low)) (omega (arith, lt))) ∙ sym (more ∙ one_named f from i start es low is) in
    record {
      within = omega (arith, size, lt);
      fits = omega (arith, ap length here, few);
      full = λ some. omega (arith, ap length next, past);
      named = λ whole. absurd (omega (arith, size, whole, lt, low));
    }

-- there is room for all cells
pub all_named : (most : ℕ) (start new cells : List Cell) (n : ℕ) → n ≡ length cells → new ≡ with_entries start cells → length new ≤ most → IsRoomFor most start new cells n
all_named most start new cells n whole is few =
    let all : with_entries start (take n cells) ≡ new = ap (with_entries start) (take_all n cells (omega (arith, whole))) ∙ sym is in
    record {
      within = omega (arith, whole);
      fits = omega (arith, ap length all, few);
      full = λ some. absurd (omega (arith, some, whole));
      named = λ same. is;
    }
