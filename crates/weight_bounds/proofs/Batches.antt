-- What the rows of a record batch weigh, by their number and the bytes of its body.
use Rattle.std.specs.Prelude.{◌||◌, ◌&&◌, ◌==◌, not, nat_le, nat_lt}
use Rattle.std.specs.List.{list_any, range_with_len, zip}
use Rattle.std.proofs.Common.{◌≡◌, ℕ, zero, suc, ◌+◌, ◌-◌, ◌*◌, ◌≤◌, ◌<◌, Bool, true, false, List, [], ◌∷◌, ◌++◌, length, map, take, drop, get_or, sum_by, Option, Some, None, Ok, refl, sym, ap, arith, ◌∙◌, subst}
use Rattle.std.proofs.lemmas.Bool.{or_parts, le-leb}
use Rattle.std.proofs.lemmas.List.{length-take, length-drop}
use Rattle.std.proofs.lemmas.List.Sums.{sum_by-cons}
use Rattle.facts.specs.Checks.{when, first_some, unless}
use Rattle.facts.specs.laws.Checks.{unless_passed, first_some-both}
use Rattle.arrow_schema.specs.Column.{Columns, columns_of, PlainSchema}
use Rattle.cells.specs.Cell.{Cell, Cells, no_cell}
use Rattle.cells.specs.Weight.{parts_weight, row_weight, table_weight}
use Rattle.cells.specs.laws.Cells.{cells_list}
use Rattle.columns.specs.Array.{Array, Arrays, array_list, slots_in}
use Rattle.columns.specs.CellAt.{part_cells, row_at, rows_in}
use Rattle.columns.specs.Tests.{every_array}
use Rattle.columns.specs.laws.Rows.{none_shorter}
use Rattle.ipc_message.specs.declared.fault.Fault.{Fault}
use Rattle.ipc_message.specs.Raw.{RawBatch, RawBuffer}
use Rattle.arrays.specs.Checks.{plain_node, buffer_bytes, batch_arrays, array_checks, slot_checks, batch_checks, batch_read, has_other_layout, has_bad_length, is_bad_length, is_outside, is_miscounted, typed_is_short, typed_is_unordered}
use Rattle.weight_bounds.specs.Bound.{row_more_in_eight, most_in_eight}
use Rattle.weight_bounds.proofs.Climbing.{sum_from}
use Rattle.weight_bounds.proofs.Fitting.{are_fit, all_fit, AreClean, AreFew}
use Rattle.weight_bounds.proofs.Steps.{reach_parts, parts_steps, IsBounded}
use Rattle.weight_bounds.proofs.Most.{parts_reach_most}

-- ---- rows of arrays

module _ (s : PlainSchema) (arrays : Arrays) (most rows : ℕ) where
  abbrev cs : Columns
  cs = columns_of s.columns

  one_row : (i : ℕ) → row_weight s (row_at cs arrays i) ≡ 1 + parts_weight cs (part_cells cs arrays i)
  one_row i = ap (λ (xs : Cells). 1 + parts_weight cs xs) (cells_list (part_cells cs arrays i))

  -- rows in a row
  rows_climb : are_fit most cs rows arrays ≡ true → IsBounded (row_more_in_eight s) → (start n : ℕ) → start + n ≤ rows
      → sum_from (row_weight s) (row_at cs arrays) start n + reach_parts cs arrays start ≤ n * row_weight s [] + reach_parts cs arrays (start + n)
  rows_climb fit bounded start zero le =
      let e : start + 0 ≡ start = omega arith in
      let none : sum_from (row_weight s) (row_at cs arrays) start 0 ≡ 0 = refl in
      rw e (omega (arith, none))
  rows_climb fit bounded start (suc n) le =
      let e : start + suc n ≡ start + 1 + n = omega arith in
      let step = parts_steps most cs rows arrays fit bounded start (omega arith) in
      let own : parts_weight cs (part_cells cs arrays start) + reach_parts cs arrays start ≤ parts_weight cs no_cell + reach_parts cs arrays (start + 1) = step.0 in
      let here : row_weight s (row_at cs arrays start) ≡ 1 + parts_weight cs (part_cells cs arrays start) = one_row start in
      let null : row_weight s [] ≡ 1 + parts_weight cs no_cell = refl in
      let rest : sum_from (row_weight s) (row_at cs arrays) (start + 1) n + reach_parts cs arrays (start + 1) ≤ n * row_weight s [] + reach_parts cs arrays (start + 1 + n)
      = rows_climb fit bounded (start + 1) n (omega arith) in
      let next : sum_from (row_weight s) (row_at cs arrays) start (suc n) ≡ row_weight s (row_at cs arrays start) + sum_from (row_weight s) (row_at cs arrays) (start + 1) n
      = sum_by-cons (row_weight s) (row_at cs arrays start) (map (row_at cs arrays) (range_with_len (start + 1) n)) in
      let whole : suc n * row_weight s [] ≡ row_weight s [] + n * row_weight s [] = omega arith in
      rw e (omega (arith, own, here, null, rest, next, whole))

  pub rows_most : (more : ℕ) → are_fit most cs rows arrays ≡ true → row_more_in_eight s ≡ Some more → 8 * table_weight s (rows_in cs arrays rows) ≤ most_in_eight s more rows most
  rows_most more fit is =
      let z : 0 + rows ≡ rows = omega arith in
      let climb : sum_from (row_weight s) (row_at cs arrays) 0 rows + reach_parts cs arrays 0 ≤ rows * row_weight s [] + reach_parts cs arrays rows
      = rw z at (rows_climb fit (more, is) 0 rows (omega arith)) in
      let end : 8 * reach_parts cs arrays rows ≤ more * most = parts_reach_most most cs rows arrays more fit is rows (omega arith) in
      let same : table_weight s (rows_in cs arrays rows) ≡ sum_from (row_weight s) (row_at cs arrays) 0 rows = refl in
      omega (arith, climb, end, same)

-- ---- the arrays that were read

passed : (t : Bool) (f : Fault) (rest : List (Option Fault)) → first_some (when t f ∷ rest) ≡ None → (t ≡ false) × (first_some rest ≡ None)
passed true f rest h = absurd (cc h)
passed false f rest h = (refl, h)

taken_most : (n : ℕ) (xs : List ℕ) (m : ℕ) → length xs ≤ m → length (take n xs) ≤ m
taken_most n xs m le = simp (length-take) (omega (arith, le))

dropped_most : (n : ℕ) (xs : List ℕ) → length (drop n xs) ≤ length xs
dropped_most n xs = simp (length-drop) (omega arith)

-- a buffer of a body has no more bytes than the body
buffer_most : (body : List ℕ) (bs : List RawBuffer) → AreFew (length body) (map (buffer_bytes body) bs)
buffer_most body [] zero = le-leb 0 (length body) (omega arith)
buffer_most body [] (suc k) = le-leb 0 (length body) (omega arith)
buffer_most body (b ∷ bs) zero = le-leb (length (buffer_bytes body b)) (length body) (taken_most b.length (drop b.offset body) (length body) (dropped_most b.offset body))
buffer_most body (b ∷ bs) (suc k) = buffer_most body bs k

pub batch_most : (s : PlainSchema) (before : ℕ) (b : RawBatch) (body : List ℕ) (known : List (List Array)) (arrays : Arrays) (more : ℕ) → batch_read s before b body known ≡ Ok arrays
    → row_more_in_eight s ≡ Some more → 8 * table_weight s (rows_in (columns_of s.columns) arrays b.length) ≤ most_in_eight s more b.length (length body)
unfolding batch_read batch_checks
batch_most s before b body known arrays more read is =
    let cs : Columns = columns_of s.columns in
    let own : Arrays = batch_arrays cs b body known in
    let whole = unless_passed (first_some (array_checks cs b body own ++ slot_checks s before b.length own)) (Ok own) arrays read in
    let same : own ≡ arrays = cc in
    let found = (first_some-both (array_checks cs b body own) (slot_checks s before b.length own) whole.0).0 in
    let one = passed b.compressed _ _ found in
    let two = passed (has_other_layout cs b) _ _ one.1 in
    let three = passed (has_bad_length cs b own) _ _ two.1 in
    let four = passed (list_any (is_outside body) b.buffers) _ _ three.1 in
    let five = passed (list_any typed_is_short (every_array cs own)) _ _ four.1 in
    let six = passed (list_any is_miscounted (zip b.nodes (every_array cs own))) _ _ five.1 in
    let seven = passed (list_any typed_is_unordered (every_array cs own)) _ _ six.1 in
    let lengths = or_parts (is_bad_length b.length) _ three.0 in
    let nodes = or_parts (list_any (λ n. is_bad_length n.length) b.nodes) _ lengths.1 in
    let others = or_parts (list_any (λ a. not (slots_in a == b.length)) (array_list own)) _ nodes.1 in
    let clean : AreClean (every_array cs own) = record { long = five.0; ordered = seven.0; children = others.1 } in
    let fit : are_fit (length body) cs b.length own ≡ true =
    all_fit (length body) cs b.length (map plain_node b.nodes) (map (buffer_bytes body) b.buffers) known (buffer_most body b.buffers) clean (none_shorter b.length (array_list own) others.0) in
    subst (λ (a : Arrays). 8 * table_weight s (rows_in cs a b.length) ≤ most_in_eight s more b.length (length body)) same (rows_most s own (length body) b.length more fit is)
