-- The spans of the slots of runs: how large they are together, and that they are those of the cells.
use Rattle.std.specs.Prelude.{Some, None, replicate}
use Rattle.std.proofs.Common.{◌≡◌, ℕ, zero, suc, ◌+◌, ◌-◌, ◌≤◌, ◌++◌, true, false, List, [], ◌∷◌, length, refl, ap, ap₂, sym, subst, ◌∙◌, arith, length-append}
use Rattle.std.proofs.lemmas.Bool.{and_parts, leb-true}
use Rattle.std.proofs.lemmas.List.{map-append}
use Rattle.std.proofs.lemmas.List.Sums.{sum_by-append, sum_by-cons}
use Rattle.array_build.proofs.MaskedContents.{next_run, run_of_nulls_under, run_texts_under, total_length}
use Rattle.array_build.proofs.MaskedLists.{run_lists_under}
use Rattle.array_build.proofs.RunContents.{contents_room, no_sizes, run_texts}
use Rattle.array_build.proofs.RunItems.{are_lists, list_tests, null_list_sizes, run_list_sizes}
use Rattle.array_build.specs.inner.Masked.{are_below}
use Rattle.array_build.specs.inner.MaskedContents.{masked_sizes, run_under, runs_under, total}
use Rattle.array_build.specs.inner.RunItems.{list_column, list_sizes, run_lists}
use Rattle.array_build.specs.inner.RunOffsets.{HasOffsets, HaveOffsets, HaveSpans, run_sizes, run_sizes_under, runs_sizes, runs_sizes_under}
use Rattle.array_build.specs.inner.Runs.{are_runs_as_written, cell_sizes, is_run_as_written, kind_cells, slot_sizes, span_of}
use Rattle.arrow_schema.specs.Column.{Column, Kind}
use Rattle.batch_build.specs.Batch.{plain_column}
use Rattle.batch_build.specs.Nodes.{list_kind}
use Rattle.batch_build.specs.laws.Premises.{lists_fit}
use Rattle.cells.specs.Cell.{Cell}
use Rattle.cells.specs.Dictionary.{item_list}
use Rattle.columns.specs.Array.{Array, offsets_in, slots_in}
use Rattle.columns.specs.Buildable.{can_build, large_offset}
use Rattle.columns.specs.Built.{contents_of}
use Rattle.columns.specs.CellAt.{number_at}
use Rattle.columns.specs.Offsets.{contents_width, width_of}
use Rattle.columns.specs.Runs.{are_runs_sound, is_run_sound, run_cells}
use Rattle.columns.specs.Tests.{are_unordered}
use Rattle.columns.specs.View.{view_array}
use Rattle.columns.specs.declared.numbers.OffsetWidth.{OffsetWidth}
use Rattle.columns.specs.declared.slot_runs.SlotRun.{SlotRun}
use Rattle.columns.specs.declared.slot_runs.SlotRun.TheVariants.{Slots, Nulls}
use Rattle.columns.specs.declared.view.ArrayView.{ArrayView}
use Rattle.columns.specs.laws.Offsets.{offsets_ascend}
use Rattle.dictionary_codes.specs.Masks.{mask_bits, run_bits, runs_bits}

-- ---- how large spans are together

-- those of slots are what is between two offsets
spans_sum : (w end : ℕ) (a : Array) (from n : ℕ) → are_unordered w end a ≡ false → from + n ≤ slots_in a → total (slot_sizes w a from n) ≡ span_of w a from n
spans_sum w end a from zero up within =
    let e : from + 0 ≡ from = omega arith in
    let same = ap (number_at w (offsets_in a)) e in
    let none : 0 ≡ span_of w a from 0 = omega (arith, same) in
    none
spans_sum w end a from (suc n) up within =
    let f : ℕ → ℕ = number_at w (offsets_in a) in
    let first : f from ≤ f (from + 1) = offsets_ascend w end a from 1 up (omega arith) (omega arith) in
    let others : f (from + 1) ≤ f (from + 1 + n) = offsets_ascend w end a (from + 1) n up (omega arith) (omega arith) in
    let last : f (from + 1 + n) ≡ f (from + suc n) = (let e : from + 1 + n ≡ from + suc n = omega arith in ap f e) in
    let rest = spans_sum w end a (from + 1) n up (omega arith) in
    let one = sum_by-cons (λ (k : ℕ). k) (f (from + 1) - f from) (slot_sizes w a (from + 1) n) in
    omega (arith, first, others, last, rest, one)

nulls_sum : (n : ℕ) → total (replicate n 0) ≡ 0
nulls_sum zero = refl
nulls_sum (suc n) =
    let rest = nulls_sum n in
    let one = sum_by-cons (λ (k : ℕ). k) 0 (replicate n 0) in
    omega (arith, rest, one)

-- ---- a run

pub slots_have : (w : ℕ) (v : ArrayView) (from n : ℕ) (run : SlotRun) → run ≡ Slots v from n → HasOffsets w run → HaveSpans w (view_array v) from n
slots_have w v from n run is has = subst (λ (r : SlotRun). HasOffsets w r) is has

pub slots_sum : (w : ℕ) (v : ArrayView) (from n : ℕ) (run : SlotRun) → run ≡ Slots v from n → HasOffsets w run → total (run_sizes w run) ≡ span_of w (view_array v) from n
slots_sum w v from n run is has =
    let have = slots_have w v from n run is has in
    ap (λ (r : SlotRun). total (run_sizes w r)) is ∙ spans_sum w have.ordered.0 (view_array v) from n have.ordered.1 have.within

pub none_sum : (w n : ℕ) (run : SlotRun) → run ≡ Nulls n → total (run_sizes w run) ≡ 0
none_sum w n run is = ap (λ (r : SlotRun). total (run_sizes w r)) is ∙ nulls_sum n

-- the same slots under a mask
pub slots_under : (w : ℕ) (mask : List ℕ) (at : ℕ) (v : ArrayView) (from n : ℕ) (run : SlotRun) → run ≡ Slots v from n
    → masked_sizes w (view_array v) from (mask_bits mask at (at + n - at)) ≡ run_sizes_under w mask at run
slots_under w mask at v from n run is =
    let same : at + n - at ≡ n = omega arith in
    ap (λ (k : ℕ). masked_sizes w (view_array v) from (mask_bits mask at k)) same ∙ sym (ap (λ (r : SlotRun). run_sizes_under w mask at r) is)

pub none_under : (w : ℕ) (mask : List ℕ) (at n : ℕ) (run : SlotRun) → run ≡ Nulls n → total (run_sizes_under w mask at run) ≡ 0
none_under w mask at n run is = ap (λ (r : SlotRun). total (run_sizes_under w mask at r)) is ∙ nulls_sum n

-- ---- the run that a loop is at, and the others

pub sizes_sum : (w : ℕ) (runs : List SlotRun) (run : SlotRun) (others : List SlotRun) → runs ≡ run ∷ others
    → total (runs_sizes w runs) ≡ total (run_sizes w run) + total (runs_sizes w others)
sizes_sum w runs run others is =
    ap (λ (rs : List SlotRun). total (runs_sizes w rs)) is ∙ sum_by-append (λ (k : ℕ). k) (run_sizes w run) (runs_sizes w others)

pub sizes_under_sum : (w : ℕ) (mask : List ℕ) (at : ℕ) (runs : List SlotRun) (run : SlotRun) (others : List SlotRun) → runs ≡ run ∷ others
    → total (runs_sizes_under w mask at runs) ≡ total (run_sizes_under w mask at run) + total (runs_sizes_under w mask (at + length (run_bits run)) others)
sizes_under_sum w mask at runs run others is =
    ap (λ (rs : List SlotRun). total (runs_sizes_under w mask at rs)) is
    ∙ sum_by-append (λ (k : ℕ). k) (run_sizes_under w mask at run) (runs_sizes_under w mask (at + length (run_bits run)) others)

pub bits_sum : (runs : List SlotRun) (run : SlotRun) (others : List SlotRun) → runs ≡ run ∷ others → length (runs_bits runs) ≡ length (run_bits run) + length (runs_bits others)
bits_sum runs run others is = ap (λ (rs : List SlotRun). length (runs_bits rs)) is ∙ length-append (run_bits run) (runs_bits others)

-- ---- strings and binaries

text_spans : (kind : Kind) (width : ℕ) (run : SlotRun) → contents_width kind ≡ Some width → is_run_sound (plain_column kind None) run ≡ true → is_run_as_written kind run ≡ true
    → HasOffsets width run × (run_sizes width run ≡ cell_sizes (run_cells (plain_column kind None) run))
text_spans kind width (Slots v from n) wide sound written =
    let known = run_texts kind width v from n (Slots v from n) refl wide sound written in
    let have : HaveSpans width (view_array v) from n = record { few = known.few; ordered = (_, known.up); within = known.within } in
    (have, sym known.sizes)
text_spans kind width (Nulls n) wide sound written = (tt, sym (no_sizes kind n (Nulls n) refl))

pub texts_spans : (kind : Kind) (width : ℕ) (runs : List SlotRun) → contents_width kind ≡ Some width → are_runs_sound (plain_column kind None) runs ≡ true → are_runs_as_written kind runs ≡ true
    → HaveOffsets width runs × (runs_sizes width runs ≡ cell_sizes (kind_cells kind runs))
texts_spans kind width [] wide sound written = (tt, refl)
texts_spans kind width (run ∷ runs) wide sound written =
    let col : Column = plain_column kind None in
    let both = and_parts (is_run_sound col run) (are_runs_sound col runs) sound in
    let ready = and_parts (is_run_as_written kind run) (are_runs_as_written kind runs) written in
    let first = text_spans kind width run wide both.0 ready.0 in
    let others = texts_spans kind width runs wide both.1 ready.1 in (
      (first.0, others.0),
      ap₂ (λ (xs ys : List ℕ). xs ++ ys) first.1 others.1 ∙ sym (map-append (λ c. length (contents_of c)) (run_cells col run) (kind_cells kind runs)),
    )

text_spans_under : (kind : Kind) (width : ℕ) (mask : List ℕ) (at : ℕ) (run : SlotRun) → contents_width kind ≡ Some width → is_run_sound (plain_column kind None) run ≡ true
    → are_below (mask_bits mask at (length (run_bits run))) (run_bits run) ≡ true → HasOffsets width run × (run_sizes_under width mask at run ≡ cell_sizes (run_under kind mask at run))
text_spans_under kind width mask at (Slots v from n) wide sound below =
    let known = run_texts_under kind width mask at v from n (Slots v from n) refl wide sound below in
    let have : HaveSpans width (view_array v) from n = record { few = known.few; ordered = (_, known.up); within = (let within = known.within in omega (arith, within)) } in
    (have, sym known.sizes)
text_spans_under kind width mask at (Nulls n) wide sound below = (tt, sym (ap cell_sizes (run_of_nulls_under kind mask at n (Nulls n) refl) ∙ no_sizes kind n (Nulls n) refl))

pub texts_spans_under : (kind : Kind) (width : ℕ) (mask : List ℕ) (at : ℕ) (runs : List SlotRun) → contents_width kind ≡ Some width → are_runs_sound (plain_column kind None) runs ≡ true
    → are_below (mask_bits mask at (length (runs_bits runs))) (runs_bits runs) ≡ true → HaveOffsets width runs × (runs_sizes_under width mask at runs ≡ cell_sizes (runs_under kind mask at runs))
texts_spans_under kind width mask at [] wide sound below = (tt, refl)
texts_spans_under kind width mask at (run ∷ runs) wide sound below =
    let col : Column = plain_column kind None in
    let next = next_run kind mask at (run ∷ runs) run runs refl below in
    let both = and_parts (is_run_sound col run) (are_runs_sound col runs) sound in
    let first = text_spans_under kind width mask at run wide both.0 next.own in
    let others = texts_spans_under kind width mask (at + length (run_bits run)) runs wide both.1 next.below in (
      (first.0, others.0),
      ap₂ (λ (xs ys : List ℕ). xs ++ ys) first.1 others.1
          ∙ sym (ap cell_sizes next.cells ∙ map-append (λ c. length (contents_of c)) (run_under kind mask at run) (runs_under kind mask (at + length (run_bits run)) runs)),
    )

-- offsets up to the largest hold those of cells that can be built
pub texts_room : (kind : Kind) (width : ℕ) (sizes : List ℕ) (cells : List Cell) → contents_width kind ≡ Some width → can_build (plain_column kind None) cells ≡ true → sizes ≡ cell_sizes cells
    → total sizes ≤ large_offset
texts_room kind width sizes cells wide can are =
    let most = contents_room kind width cells wide can in
    let whole = ap total are ∙ total_length contents_of cells in
    omega (arith, most, whole)

-- ---- lists

list_spans : (width : OffsetWidth) (item : Column) (run : SlotRun) → is_run_sound (list_column width item) run ≡ true → is_run_as_written (list_kind width item) run ≡ true
    → HasOffsets (width_of width) run × (run_sizes (width_of width) run ≡ list_sizes (run_lists width item run))
list_spans width item (Slots v from n) sound written =
    let known = are_lists width item v from n (Slots v from n) refl sound written in
    let have : HaveSpans (width_of width) (view_array v) from n = record { few = known.few; ordered = (_, known.up); within = known.within } in
    (have, sym (run_list_sizes width item v from n (Slots v from n) refl known))
list_spans width item (Nulls n) sound written = (tt, sym (null_list_sizes width item n (Nulls n) refl))

pub lists_spans : (width : OffsetWidth) (item : Column) (runs : List SlotRun) → are_runs_sound (list_column width item) runs ≡ true → are_runs_as_written (list_kind width item) runs ≡ true
    → HaveOffsets (width_of width) runs × (runs_sizes (width_of width) runs ≡ list_sizes (kind_cells (list_kind width item) runs))
lists_spans width item [] sound written = (tt, refl)
lists_spans width item (run ∷ runs) sound written =
    let col : Column = list_column width item in
    let kind : Kind = list_kind width item in
    let both = and_parts (is_run_sound col run) (are_runs_sound col runs) sound in
    let ready = and_parts (is_run_as_written kind run) (are_runs_as_written kind runs) written in
    let first = list_spans width item run both.0 ready.0 in
    let others = lists_spans width item runs both.1 ready.1 in (
      (first.0, others.0),
      ap₂ (λ (xs ys : List ℕ). xs ++ ys) first.1 others.1 ∙ sym (map-append (λ c. length (item_list c)) (run_lists width item run) (kind_cells kind runs)),
    )

list_spans_under : (width : OffsetWidth) (item : Column) (mask : List ℕ) (at : ℕ) (run : SlotRun) → is_run_sound (list_column width item) run ≡ true
    → are_below (mask_bits mask at (length (run_bits run))) (run_bits run) ≡ true
    → HasOffsets (width_of width) run × (run_sizes_under (width_of width) mask at run ≡ list_sizes (run_under (list_kind width item) mask at run))
list_spans_under width item mask at (Slots v from n) sound below =
    let known = run_lists_under width item mask at v from n (Slots v from n) refl sound below in
    let tests = list_tests width item (view_array v) known.sound in
    let have : HaveSpans (width_of width) (view_array v) from n = record { few = tests.0; ordered = (_, tests.1.0); within = known.slots } in
    (have, sym known.sizes)
list_spans_under width item mask at (Nulls n) sound below =
    (tt, sym (ap list_sizes (run_of_nulls_under (list_kind width item) mask at n (Nulls n) refl) ∙ null_list_sizes width item n (Nulls n) refl))

pub lists_spans_under : (width : OffsetWidth) (item : Column) (mask : List ℕ) (at : ℕ) (runs : List SlotRun) → are_runs_sound (list_column width item) runs ≡ true
    → are_below (mask_bits mask at (length (runs_bits runs))) (runs_bits runs) ≡ true
    → HaveOffsets (width_of width) runs × (runs_sizes_under (width_of width) mask at runs ≡ list_sizes (runs_under (list_kind width item) mask at runs))
lists_spans_under width item mask at [] sound below = (tt, refl)
lists_spans_under width item mask at (run ∷ runs) sound below =
    let col : Column = list_column width item in
    let kind : Kind = list_kind width item in
    let next = next_run kind mask at (run ∷ runs) run runs refl below in
    let both = and_parts (is_run_sound col run) (are_runs_sound col runs) sound in
    let first = list_spans_under width item mask at run both.0 next.own in
    let others = lists_spans_under width item mask (at + length (run_bits run)) runs both.1 next.below in (
      (first.0, others.0),
      ap₂ (λ (xs ys : List ℕ). xs ++ ys) first.1 others.1
          ∙ sym (ap list_sizes next.cells ∙ map-append (λ c. length (item_list c)) (run_under kind mask at run) (runs_under kind mask (at + length (run_bits run)) runs)),
    )

pub lists_room : (width : OffsetWidth) (item : Column) (sizes : List ℕ) (cells : List Cell) → can_build (list_column width item) cells ≡ true → sizes ≡ list_sizes cells → total sizes ≤ large_offset
lists_room width item sizes cells can are =
    let most = leb-true _ _ (lists_fit width item cells can) in
    let whole = ap total are ∙ total_length item_list cells in
    omega (arith, most, whole)
