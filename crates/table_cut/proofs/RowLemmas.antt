-- Runs of rows, cut in two.
use Rattle.std.specs.List.{range_with_len}
use Rattle.std.proofs.Common.{◌≡◌, ℕ, zero, suc, ◌+◌, ◌-◌, ◌≤◌, map, take, drop, refl, sym, arith}
use Rattle.std.proofs.lemmas.List.FromFn.{take-map-range_with_len}
use Rattle.arrow_schema.specs.Column.{Columns}
use Rattle.columns.specs.Array.{Arrays}
use Rattle.columns.specs.CellAt.{row_at}

drop_range : {X : Type 0} (f : ℕ → X) (a n k : ℕ) → k ≤ n → drop k (map f (range_with_len a n)) ≡ map f (range_with_len (a + k) (n - k))
drop_range f a n zero le =
    let e : a + 0 ≡ a = omega arith in
    let d : n - 0 ≡ n = omega arith in
    rw (e, d) refl
drop_range f a zero (suc k) le = absurd (omega arith)
drop_range f a (suc n) (suc k) le =
    let e : a + suc k ≡ a + 1 + k = omega arith in
    let d : suc n - suc k ≡ n - k = omega arith in
    rw (e, d) (drop_range f (a + 1) n k (omega arith))

-- the first rows of a span, and those after them
pub front_rows : (cs : Columns) (arrays : Arrays) (from n k : ℕ) → k ≤ n → map (row_at cs arrays) (range_with_len from k) ≡ take k (map (row_at cs arrays) (range_with_len from n))
front_rows cs arrays from n k le = sym (take-map-range_with_len (row_at cs arrays) from n k le)

pub rows_after : (cs : Columns) (arrays : Arrays) (from n k : ℕ) → k ≤ n
    → map (row_at cs arrays) (range_with_len (from + k) (n - k)) ≡ drop k (map (row_at cs arrays) (range_with_len from n))
rows_after cs arrays from n k le = sym (drop_range (row_at cs arrays) from n k le)
