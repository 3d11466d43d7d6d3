-- The lines of the first of the slots whose bits are set, run by run.
use Rattle.std.proofs.Common.{◌≡◌, ℕ, ◌+◌, ◌-◌, ◌<◌, ◌≤◌, true, false, List, [], ◌++◌, map, length, take, sym, ap, subst, ◌∙◌, arith}
use Rattle.std.specs.List.{range_with_len}
use Rattle.std.proofs.Math.Seq.{take-nil}
use Rattle.std.proofs.lemmas.List.FromFn.{length-map-range_with_len}
use Rattle.arrow_schema.specs.Column.{Column}
use Rattle.bitmap.specs.Bits.{bit}
use Rattle.cells.specs.Cell.{Cell}
use Rattle.query.specs.Choice.{rows_set}
use Rattle.query.specs.ObjectLine.{lines_text}
use Rattle.query.specs.declared.row_form.RowForm.{RowForm}
use Rattle.query.specs.laws.Lines.{ArePrinted, none_printed, more_printed}
use Rattle.query.specs.laws.RowsSet.{kept_front, front_start, front_next, front_run, front_done}
use Rattle.query.proofs.SlotLines.{rows_between}

pub front_printed : (form : RowForm) (cs : List Column) (most : ℕ) (mask : List ℕ) (start : ℕ) (rows : List (List Cell)) (to : ℕ) (out : List ℕ) → to ≤ length rows
    → ((i : ℕ) → 0 ≤ i → i < to → bit mask (start + i) ≡ false) → ArePrinted form cs most (kept_front most [] mask start rows to) out out most
front_printed form cs most mask start rows to out within unset =
    none_printed form cs most _ out (sym (take-nil most) ∙ front_start most [] mask start rows ∙ front_next most [] mask start rows 0 to (omega arith) within unset)

-- those of a run of slots whose bits are set, and then no others up to a slot
pub run_printed : (form : RowForm) (cs : List Column) (row : ℕ → List Cell) (slots most : ℕ) (mask : List ℕ) (start i n to left : ℕ) (old out new : List ℕ) → i + n ≤ to → to ≤ slots → n ≤ left
    → ((j : ℕ) → i ≤ j → j < i + n → bit mask (start + j) ≡ true) → ((j : ℕ) → i + n ≤ j → j < to → bit mask (start + j) ≡ false)
    → ArePrinted form cs most (kept_front most [] mask start (map row (range_with_len 0 slots)) i) old out left → new ≡ out ++ lines_text form cs (map row (range_with_len i n))
    → ArePrinted form cs most (kept_front most [] mask start (map row (range_with_len 0 slots)) to) old new (left - n)
run_printed form cs row slots most mask start i n to left old out new order within few set unset h added =
    let rows = map row (range_with_len 0 slots) in
    let front = kept_front most [] mask start rows i in
    let run = map row (range_with_len i n) in
    let size : length rows ≡ slots = length-map-range_with_len row 0 slots in
    let own : length run ≡ n = length-map-range_with_len row i n in
    let more : kept_front most [] mask start rows to ≡ front ++ run =
    sym (front_next most [] mask start rows (i + n) to order (omega (arith, within, size)) unset)
    ∙ front_run most [] mask start rows i n (omega (arith, order, within, size)) set (omega (arith, few, h.room))
    ∙ ap (λ (xs : List (List Cell)). front ++ xs) (rows_between row i n slots (omega (arith, order, within))) in
    more_printed form cs most front run _ old out new left n more (sym own) few h added

-- all
pub all_printed : (form : RowForm) (cs : List Column) (row : ℕ → List Cell) (slots most : ℕ) (mask : List ℕ) (start i left : ℕ) (old new : List ℕ) → i ≤ slots → (i < slots → left ≡ 0)
    → ArePrinted form cs most (kept_front most [] mask start (map row (range_with_len 0 slots)) i) old new left
    → ArePrinted form cs most (take most (rows_set mask start (map row (range_with_len 0 slots)))) old new left
all_printed form cs row slots most mask start i left old new within full h =
    let rows = map row (range_with_len 0 slots) in
    let size : length rows ≡ slots = length-map-range_with_len row 0 slots in
    let P : List (List Cell) → Type 0 = λ xs. ArePrinted form cs most xs old new left in
    subst P (front_done most [] mask start rows i (omega (arith, within, size)) (λ lt. let none : left ≡ 0 = full (omega (arith, lt, size)) in omega (arith, none, h.room))) h
