use Rattle.std.specs.Prelude.{if◌then◌else◌}
use Rattle.std.specs.List.{flat_map}
use Rattle.std.proofs.Common.{◌≡◌, ◌+◌, ◌-◌, ◌++◌, ◌∙◌, ℕ, Bool, [], List, arith, ap, sym}
use Rattle.std.proofs.lemmas.List.{append-nil}
use Rattle.std.proofs.lemmas.Result.{on_ok_weaker}
use Rattle.arrow_schema.specs.Column.{Column}
use Rattle.arrow_schema.specs.View.{column_of}
use Rattle.array_build.proofs.MaskedLists.{next_lists, stretch_valid}
use Rattle.array_build.proofs.RunItems.{list_tests}
use Rattle.batch_build.specs.laws.Turns.{turned}
use Rattle.array_build.proofs.masked_lists.push_slot_items.Goals as goal
use Rattle.array_build.specs.inner.MaskedLists.{lists_under}
use Rattle.array_build.specs.inner.RunItems.{list_column}
use Rattle.bitmap.specs.Bits.{bit}
use Rattle.cells.specs.Cell.{Cell}
use Rattle.cells.specs.Dictionary.{item_list}
use Rattle.columns.specs.Array.{Array, items_in}
use Rattle.columns.specs.CellAt.{cell_at, cells_from}
use Rattle.columns.specs.Runs.{runs_cells}
use Rattle.columns.specs.View.{view_array}

pub loop-i-init : goal.loop-i-init
loop-i-init c =
    let item : Column = column_of c.args.item.now in
    let list : ℕ → Cell = cell_at (list_column c.args.width item) (view_array c.args.array) in
    let old : List Cell = runs_cells item c.args.items.now.items in
    let first : c.args.from + (c.args.at - c.args.at) ≡ c.args.from = omega arith in
    record {
      begins = omega arith;
      ends = c.requires.order;
      within = omega arith;
      good = c.requires.good;
      cells =
          ap (λ (p : ℕ). (old ++ []) ++ lists_under list c.args.mask.now p c.args.at (c.args.to - c.args.at)) first
          ∙ ap (λ (cells : List Cell). cells ++ lists_under list c.args.mask.now c.args.from c.args.at (c.args.to - c.args.at)) (append-nil old);
    }

pub push_stretch-requires-clause-slots : goal.push_stretch-requires-clause-slots
push_stretch-requires-clause-slots c =
    omega (arith, c.loop-i.invariant.begins, c.run_to-end.ensures.begins, c.run_to-end.ensures.ends, c.requires.within)

pub push_stretch-requires-clause-valid : goal.push_stretch-requires-clause-valid
push_stretch-requires-clause-valid c = λ set.
    let next = c.run_to-end.ensures.begins in
    stretch_valid (view_array c.args.array) c.args.mask.now c.args.from c.args.at c.args.to c.loop-i.i c.run_to-end.result c.requires.valid c.loop-i.invariant.begins (omega (arith, next))
    c.run_to-end.ensures.ends c.run_to-end.ensures.alike (sym c.get.ensures ∙ set)

pub loop-i-preserved : goal.loop-i-preserved
loop-i-preserved c =
    let item : Column = column_of c.args.item.now in
    let a : Array = view_array c.args.array in
    let list : ℕ → Cell = cell_at (list_column c.args.width item) a in
    let i : ℕ = c.loop-i.i in
    let stop : ℕ = c.run_to-end.result in
    let p : ℕ = c.args.from + (i - c.args.at) in
    let made : List Cell = runs_cells item c.loop-i.items.items ++ cells_from (cell_at item (items_in a)) c.loop-i.start c.loop-i.len in
    let all : List Cell = flat_map item_list (cells_from list p (stop - i)) in
    let own : List Cell = if bit c.args.mask.now i then all else [] in
    let rest : List Cell = lists_under list c.args.mask.now (c.args.from + (stop - c.args.at)) stop (c.args.to - stop) in
    let low = c.loop-i.invariant.begins in
    let next = c.run_to-end.ensures.begins in
    let added = c.in_ok-span.ensures.cells ∙ ap (λ (b : Bool). made ++ (if b then all else [])) c.get.ensures in
    let split = next_lists list c.args.mask.now c.args.from c.args.at i stop c.args.to low (omega (arith, next)) c.run_to-end.ensures.ends c.run_to-end.ensures.alike in
    record {
      begins = omega (arith, low, next);
      ends = c.run_to-end.ensures.ends;
      within = c.in_ok-span.ensures.within;
      good = c.in_ok-span.ensures.good;
      cells = turned made own rest _ _ added (sym (ap (λ (xs : List Cell). made ++ xs) split) ∙ c.loop-i.invariant.cells);
    }

pub push_items-requires-clause-sound : goal.push_items-requires-clause-sound
push_items-requires-clause-sound c = (list_tests c.args.width (column_of c.args.item.now) (view_array c.args.array) c.requires.sound).1.1

pub returns-clause-cells : goal.returns-clause-cells
returns-clause-cells c =
    let item : Column = column_of c.args.item.now in
    let a : Array = view_array c.args.array in
    let list : ℕ → Cell = cell_at (list_column c.args.width item) a in
    let p : ℕ = c.args.from + (c.loop-i.i - c.args.at) in
    let made : List Cell = runs_cells item c.loop-i.items.items ++ cells_from (cell_at item (items_in a)) c.loop-i.start c.loop-i.len in
    let left : c.args.to - c.loop-i.i ≡ 0 = omega (arith, c.loop-i-test.false) in
    on_ok_weaker c.push_items.result
    (λ h. h ∙ sym (append-nil made) ∙ sym (ap (λ (n : ℕ). made ++ lists_under list c.args.mask.now p c.loop-i.i n) left) ∙ c.loop-i.invariant.cells)
    c.push_items.ensures.cells
