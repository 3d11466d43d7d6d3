use Rattle.std.specs.Prelude.{IfOk, if◌then◌else◌}
use Rattle.std.specs.List.{flat_map}
use Rattle.std.proofs.Common.{◌≡◌, ◌++◌, ◌∙◌, Bool, List, [], ap, arith, subst, sym}
use Rattle.std.proofs.lemmas.List.{append-nil}
use Rattle.arrow_schema.specs.Column.{Column}
use Rattle.arrow_schema.specs.View.{column_of}
use Rattle.array_build.proofs.MaskedLists.{stretch_items, stretch_lists}
use Rattle.array_build.proofs.RunItems.{list_tests, span_within}
use Rattle.array_build.proofs.masked_lists.push_stretch.Goals as goal
use Rattle.array_build.specs.inner.RunItems.{list_column}
use Rattle.cells.specs.Cell.{Cell}
use Rattle.cells.specs.Dictionary.{item_list}
use Rattle.columns.specs.Array.{items_in}
use Rattle.columns.specs.CellAt.{cell_at, cells_from}
use Rattle.columns.specs.Runs.{runs_cells}
use Rattle.columns.specs.View.{view_array}

pub spanned-span-requires-clause-long : goal.spanned-span-requires-clause-long
spanned-span-requires-clause-long c = (list_tests c.args.width (column_of c.args.item.now) (view_array c.args.array) c.requires.sound).0

pub returns-then-not-set-clause-cells : goal.returns-then-not-set-clause-cells
returns-then-not-set-clause-cells c =
    let item : Column = column_of c.args.item.now in
    let made : List Cell = runs_cells item c.args.items.now.items ++ cells_from (cell_at item (items_in (view_array c.args.array))) c.args.start c.args.len in
    let own : List Cell = flat_map item_list (cells_from (cell_at (list_column c.args.width item) (view_array c.args.array)) c.args.from c.args.count) in
    sym (ap (λ (b : Bool). made ++ (if b then own else [])) c.if-not-set.true ∙ append-nil made)

pub join_items-requires-clause-sound : goal.join_items-requires-clause-sound
join_items-requires-clause-sound c = (list_tests c.args.width (column_of c.args.item.now) (view_array c.args.array) c.requires.sound).1.1

pub join_items-requires-clause-next : goal.join_items-requires-clause-next
join_items-requires-clause-next c =
    let are = stretch_lists c.args.width (column_of c.args.item.now) c.args.array c.args.from c.args.count c.requires.sound c.requires.slots (c.requires.valid c.if-not-set.false) in
    span_within c.args.width (column_of c.args.item.now) c.args.array c.args.from c.args.count _ _ are (λ none. omega (arith, none, c.requires.some)) c.spanned-span.ensures.start c.spanned-span.ensures.size

pub returns-clause-cells : goal.returns-clause-cells
returns-clause-cells c =
    let item : Column = column_of c.args.item.now in
    let h = cell_at item (items_in (view_array c.args.array)) in
    let made : List Cell = runs_cells item c.args.items.now.items ++ cells_from h c.args.start c.args.len in
    let own : List Cell = flat_map item_list (cells_from (cell_at (list_column c.args.width item) (view_array c.args.array)) c.args.from c.args.count) in
    let are = stretch_lists c.args.width item c.args.array c.args.from c.args.count c.requires.sound c.requires.slots (c.requires.valid c.if-not-set.false) in
    let same = stretch_items c.args.width item c.args.array c.args.from c.args.count _ _ are c.spanned-span.ensures.start c.spanned-span.ensures.size
    ∙ sym (ap (λ (b : Bool). if b then own else []) c.if-not-set.false) in
    subst (λ (cells : List Cell). IfOk c.join_items.result (λ span. runs_cells item c.join_items.new.items.items ++ cells_from h span.start span.len ≡ made ++ cells)) same c.join_items.ensures.cells
