-- The rows of record batches, by where these start.
use Rattle.std.specs.Prelude.{sum, slice_get, Vec}
use Rattle.std.specs.Global.{Global}
use Rattle.std.specs.List.{flat_map}
use Rattle.std.proofs.Common.{◌≡◌, ℕ, zero, suc, ◌+◌, ◌-◌, ◌≤◌, ◌<◌, List, [], ◌∷◌, ◌++◌, map, length, get_or, take, Some, refl, ap, sym, ◌∙◌, arith, length-append}
use Rattle.std.proofs.lemmas.List.{length-map, get_or-map}
use Rattle.std.proofs.lemmas.List.Concat.{flat_map-cons}
use Rattle.std.proofs.lemmas.List.FromFn.{length-map-range_with_len, get_or-map-range_with_len}
use Rattle.std.proofs.lemmas.List.Sums.{sum_by-cons, sum_by_more_le, sum-map}
use Rattle.std.proofs.lemmas.Option.{slice_get-get_or}
use Rattle.arrow_schema.specs.Column.{Columns}
use Rattle.columns.specs.CellAt.{row_at}
use Rattle.values.specs.declared.table_part.Batch.{Batch}
use Rattle.values.specs.declared.table_part.TablePart.{TablePart}
use Rattle.values.specs.Parts.{arrays_with, batch_rows, part_rows, parts_rows}
use Rattle.values.specs.inner.Starts.{starts_from, IsInRun, IsInBatch, batch_lengths, batch_lengths_at, part_lengths}

-- ---- runs of any items

pub length_runs : {X A : Type 0} (f : X → List A) (g : X → ℕ) → ((x : X) → length (f x) ≡ g x) → (xs : List X) → length (flat_map f xs) ≡ sum (map g xs)
length_runs f g same [] = refl
length_runs f g same (x ∷ xs) =
    let whole = ap length (flat_map-cons f x xs) ∙ length-append (f x) (flat_map f xs) in
    let parts = sum_by-cons (λ (n : ℕ). n) (g x) (map g xs) in
    let rest = length_runs f g same xs in
    omega (arith, whole, parts, rest, same x)

in_front : {A : Type 0} (xs ys : List A) (i : ℕ) → i < length xs → slice_get (xs ++ ys) i ≡ slice_get xs i
in_front [] ys i lt = absurd (omega arith)
in_front (x ∷ xs) ys zero lt = refl
in_front (x ∷ xs) ys (suc i) lt = in_front xs ys i (omega arith)

behind : {A : Type 0} (xs ys : List A) (i : ℕ) → length xs ≤ i → slice_get (xs ++ ys) i ≡ slice_get ys (i - length xs)
behind [] ys i le = let e : i - 0 ≡ i = omega arith in rw e refl
behind (x ∷ xs) ys zero le = absurd (omega arith)
behind (x ∷ xs) ys (suc i) le =
    let e : suc i - suc (length xs) ≡ i - length xs = omega arith in
    rw e (behind xs ys i (omega arith))

-- the item at a place, in the run that has the place
pub run_item : {X A : Type 0} (f : X → List A) (g : X → ℕ) → ((x : X) → length (f x) ≡ g x) → (xs : List X) (run place : ℕ) (x : X) → IsInRun (map g xs) run place → x ≡ get_or xs run x
    → (slice_get (flat_map f xs) place ≡ slice_get (f x) (place - sum (take run (map g xs)))) × (place < sum (take run (map g xs)) + g x)
run_item f g same [] run place x h is = absurd (omega (arith, h.there))
run_item {A = A} f g same (y ∷ ys) zero place x h is =
    let start : place - 0 ≡ place = omega arith in
    let within : place < g y = omega (arith, h.high) in
    let front = in_front (f y) (flat_map f ys) place (omega (arith, within, same y)) in
    (rw (is, start) (ap (λ (zs : List A). slice_get zs place) (flat_map-cons f y ys) ∙ front), rw is (omega (arith, within)))
run_item {A = A} f g same (y ∷ ys) (suc run) place x h is =
    let more = sum_by-cons (λ (n : ℕ). n) (g y) (take run (map g ys)) in
    let past : g y ≤ place = omega (arith, more, h.low) in
    let rest : IsInRun (map g ys) run (place - g y) = record {
      there = omega (arith, h.there);
      low = omega (arith, more, h.low);
      high = omega (arith, more, h.low, h.high);
    } in
    let others = run_item f g same ys run (place - g y) x rest is in
    let back = behind (f y) (flat_map f ys) place (omega (arith, past, same y)) in
    let e : place - length (f y) ≡ place - g y = ap (λ (n : ℕ). place - n) (same y) in
    let d : place - g y - sum (take run (map g ys)) ≡ place - sum (g y ∷ take run (map g ys)) = omega (arith, more) in (
      ap (λ (zs : List A). slice_get zs place) (flat_map-cons f y ys)
          ∙ (back ∙ (ap (λ (n : ℕ). slice_get (flat_map f ys) n) e ∙ (others.0 ∙ ap (λ (n : ℕ). slice_get (f x) n) d))),
      omega (arith, more, others.1, past),
    )

-- ---- the rows of a batch, and of a part

pub length_batch : (columns : Columns) (p : TablePart) (b : Batch) → length (batch_rows columns p b) ≡ b.rows
length_batch columns p b = length-map-range_with_len (row_at columns (arrays_with p b)) 0 b.rows

pub length_part : (columns : Columns) (p : TablePart) → length (part_rows columns p) ≡ sum (batch_lengths p)
length_part columns p = length_runs (batch_rows columns p) (λ (b : Batch). b.rows) (length_batch columns p) p.batches.items

pub length_parts : (columns : Columns) (parts : List TablePart) → length (parts_rows columns parts) ≡ sum (part_lengths parts)
length_parts columns parts = length_runs (part_rows columns) (λ (p : TablePart). sum (batch_lengths p)) (length_part columns) parts

batch_row : (columns : Columns) (p : TablePart) (b : Batch) (i : ℕ) → i < b.rows → slice_get (batch_rows columns p b) i ≡ Some (row_at columns (arrays_with p b) i)
batch_row columns p b i lt =
    let long = length_batch columns p b in
    let e : 0 + i ≡ i = omega arith in
    slice_get-get_or (batch_rows columns p b) i [] (omega (arith, long)) ∙ ap Some (get_or-map-range_with_len (row_at columns (arrays_with p b)) 0 b.rows i i [] lt e)

-- the lengths of the batches of the part at a place
pub lengths_at : (parts : List TablePart) (k : ℕ) (p : TablePart) → k < length parts → p ≡ get_or parts k p → batch_lengths_at parts k ≡ batch_lengths p
lengths_at parts k p lt is = get_or-map batch_lengths parts k p [] lt ∙ ap batch_lengths (sym is)

-- where a batch starts
abbrev pub batch_start : List TablePart → ℕ → ℕ → ℕ
batch_start parts k j = sum (take k (part_lengths parts)) + sum (take j (batch_lengths_at parts k))

-- the row at a place
pub row_in_parts : (columns : Columns) (parts : List TablePart) (k j row : ℕ) (p : TablePart) (b : Batch) → IsInBatch parts k j row → p ≡ get_or parts k p → b ≡ get_or p.batches.items j b
    → (slice_get (parts_rows columns parts) row ≡ Some (row_at columns (arrays_with p b) (row - batch_start parts k j))) × (batch_start parts k j ≤ row) × (row - batch_start parts k j < b.rows)
row_in_parts columns parts k j row p b h pis bis =
    let lt : k < length parts = omega (arith, h.in_part.there, length-map parts (λ (q : TablePart). sum (batch_lengths q))) in
    let lengths = lengths_at parts k p lt pis in
    let in_batch = rw lengths at h.in_batch in
    let part = run_item (part_rows columns) (λ (q : TablePart). sum (batch_lengths q)) (length_part columns) parts k row p h.in_part pis in
    let batch = run_item (batch_rows columns p) (λ (c : Batch). c.rows) (length_batch columns p) p.batches.items j (row - sum (take k (part_lengths parts))) b in_batch bis in
    let within : row - sum (take k (part_lengths parts)) - sum (take j (batch_lengths p)) < b.rows = omega (arith, batch.1, in_batch.low) in
    let e : row - sum (take k (part_lengths parts)) - sum (take j (batch_lengths p)) ≡ row - (sum (take k (part_lengths parts)) + sum (take j (batch_lengths p))) = omega arith in
    rw lengths (
      part.0 ∙ (batch.0 ∙ (batch_row columns p b _ within ∙ ap (λ (i : ℕ). Some (row_at columns (arrays_with p b) i)) e)),
      omega (arith, h.in_part.low, in_batch.low),
      rw (← e) within,
    )

-- ---- the starts that are kept

pub many_parts : (parts : List TablePart) → length (part_lengths parts) ≡ length parts
many_parts parts = length-map parts (λ (p : TablePart). sum (batch_lengths p))

-- how many rows the part at a place has
pub part_length_at : (parts : List TablePart) (k : ℕ) → get_or (part_lengths parts) k 0 ≡ sum (batch_lengths_at parts k)
part_length_at [] k = refl
part_length_at (p ∷ parts) zero = refl
part_length_at (p ∷ parts) (suc k) = part_length_at parts k

pub rest_in_part : (parts : List TablePart) (k row : ℕ) → IsInRun (part_lengths parts) k row → row - sum (take k (part_lengths parts)) < sum (batch_lengths_at parts k)
rest_in_part parts k row h = omega (arith, h.low, h.high, part_length_at parts k)

starts_of_part : (parts : List TablePart) (k : ℕ) → get_or (map (λ p. starts_from 0 (batch_lengths p)) parts) k [] ≡ starts_from 0 (batch_lengths_at parts k)
starts_of_part [] k = refl
starts_of_part (p ∷ parts) zero = refl
starts_of_part (p ∷ parts) (suc k) = starts_of_part parts k

pub many_starts : (parts : List TablePart) (vs : List (Vec ℕ Global)) → map (λ v. v.items) vs ≡ map (λ p. starts_from 0 (batch_lengths p)) parts → length vs ≡ length parts
many_starts parts vs are =
    let left = length-map vs (λ (v : Vec ℕ Global). v.items) in
    let right = length-map parts (λ (p : TablePart). starts_from 0 (batch_lengths p)) in
    omega (arith, left, right, ap length are)

pub kept_starts : (parts : List TablePart) (vs : List (Vec ℕ Global)) (k : ℕ) (v : Vec ℕ Global) → map (λ v. v.items) vs ≡ map (λ p. starts_from 0 (batch_lengths p)) parts → k < length parts → v ≡ get_or vs k v
    → v.items ≡ starts_from 0 (batch_lengths_at parts k)
kept_starts parts vs k v are lt is =
    let many = many_starts parts vs are in
    let left = get_or-map (λ (v : Vec ℕ Global). v.items) vs k v [] (omega (arith, many)) in
    ap (λ (x : Vec ℕ Global). x.items) is ∙ (sym left ∙ (ap (λ (xs : List (List ℕ)). get_or xs k []) are ∙ starts_of_part parts k))

-- a part has no more rows than all
pub part_le : (parts : List TablePart) (i : ℕ) (p : TablePart) → i < length parts → p ≡ get_or parts i p → sum (batch_lengths p) ≤ sum (part_lengths parts)
part_le parts i p lt is =
    let f : TablePart → ℕ = λ q. sum (batch_lengths q) in
    let whole = sum_by_more_le f parts i p lt in
    let same : sum (batch_lengths p) ≡ sum (batch_lengths (get_or parts i p)) = ap f is in
    omega (arith, whole, same, sum-map f parts)
