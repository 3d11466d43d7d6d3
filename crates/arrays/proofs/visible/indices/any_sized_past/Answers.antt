use Rattle.std.proofs.Common.{◌≡◌, ◌+◌, ◌-◌, ℕ, List, length, true, false, arith, ap, sym, ◌∙◌}
use Rattle.std.specs.List.{list_any, range_with_len}
use Rattle.arrow_schema.specs.View.{index_of}
use Rattle.cells.specs.Cell.{Cell}
use Rattle.columns.specs.Array.{Array, Arrays, dictionary_in}
use Rattle.columns.specs.CellAt.{entries_of_kind, index_at, is_valid}
use Rattle.columns.specs.View.{view_array}
use Rattle.columns.specs.Visible.{is_past}
use Rattle.arrays.proofs.Ranges.{any-here, any-later, any-end}
use Rattle.arrays.proofs.VisibleSlots.{any_less, past}
use Rattle.arrays.proofs.visible.indices.any_sized_past.Goals as goal

pub has_no_entry-requires-clause-count : goal.has_no_entry-requires-clause-count
has_no_entry-requires-clause-count g c = λ kind.
    c.entry_count-entries.ensures c.args.slots.view.bytes.now kind ∙ ap (λ (d : Arrays). length (entries_of_kind kind d)) c.dictionary.ensures

pub returns-then-are_below : goal.returns-then-are_below
returns-then-are_below g c = λ kind.
    let a : Array = view_array c.args.slots.view in
    let cells : List Cell = entries_of_kind kind (dictionary_in a) in
    let many : c.entry_count-entries.result ≡ length cells =
    c.entry_count-entries.ensures c.args.slots.view.bytes.now kind ∙ ap (λ (d : Arrays). length (entries_of_kind kind d)) c.dictionary.ensures in
    let none : list_any (λ i. is_past (index_at (index_of c.args.slots.spec) a i) cells) (range_with_len c.args.from c.args.count) ≡ false =
    c.are_below.ensures c.if-are_below.true cells (omega arith) in
    sym (any_less (is_valid a) (λ i. is_past (index_at (index_of c.args.slots.spec) a i) cells) (range_with_len c.args.from c.args.count) none)

pub loop-i-init : goal.loop-i-init
loop-i-init g c = λ kind.
    let all : c.args.from + c.args.count - c.args.from ≡ c.args.count = omega arith in
    ap (λ (n : ℕ). list_any (past c.args.slots.spec c.args.slots.view kind) (range_with_len c.args.from n)) all

pub returns-then-has_no_entry : goal.returns-then-has_no_entry
returns-then-has_no_entry g c = λ kind.
    let here : past c.args.slots.spec c.args.slots.view kind c.loop-i.i ≡ true = sym (c.has_no_entry.ensures kind) ∙ c.if-has_no_entry.true in
    sym (any-here (past c.args.slots.spec c.args.slots.view kind) c.loop-i.i (c.args.from + c.args.count) (omega arith) here) ∙ c.loop-i.invariant kind

pub loop-i-preserved : goal.loop-i-preserved
loop-i-preserved g c = λ kind.
    let here : past c.args.slots.spec c.args.slots.view kind c.loop-i.i ≡ false = sym (c.has_no_entry.ensures kind) ∙ c.if-has_no_entry.false in
    any-later (past c.args.slots.spec c.args.slots.view kind) c.loop-i.i (c.args.from + c.args.count) (omega arith) here ∙ c.loop-i.invariant kind

pub returns : goal.returns
returns g c = λ kind. sym (any-end (past c.args.slots.spec c.args.slots.view kind) c.loop-i.i (c.args.from + c.args.count) (omega arith)) ∙ c.loop-i.invariant kind
