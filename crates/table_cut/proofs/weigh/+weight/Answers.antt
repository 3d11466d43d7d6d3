use Rattle.std.proofs.Common.{◌≡◌, ℕ, ◌+◌, List, map, drop, get_or, ap, ◌∙◌, arith}
use Rattle.facts.specs.laws.Lists.{drop-item}
use Rattle.arrow_schema.specs.Column.{Columns, columns_of}
use Rattle.arrow_schema.specs.View.{column_of}
use Rattle.arrow_schema.specs.declared.types.Field.{Field}
use Rattle.cells.specs.Cell.{Cell, null, no_cell, cells_of}
use Rattle.cells.specs.Weight.{weight, parts_weight, capped_weight}
use Rattle.columns.specs.Borrowed.{borrowed_cells}
use Rattle.table_cut.proofs.WeightLemmas.{next_part}
use Rattle.table_cut.proofs.weigh.+weight.Goals as goal

pub parts_weight-loop-i-preserved : goal.parts_weight-loop-i-preserved
parts_weight-loop-i-preserved t c =
    let i : ℕ = c.loop-i.i in
    let fields : List Field = c.args.fields.now in
    let field : Field = c.index-fields-i.result in
    let cells : List Cell = borrowed_cells c.args.parts in
    let left : Columns = columns_of (map column_of (drop (i + 1) fields)) in
    let first : ℕ = weight (column_of field) (get_or cells i null) in
    let rest : ℕ = parts_weight left (cells_of (drop (i + 1) cells)) in
    let next : parts_weight (columns_of (map column_of (drop i fields))) (cells_of (drop i cells)) ≡ first + rest =
    ap (λ (fs : List Field). parts_weight (columns_of (map column_of fs)) (cells_of (drop i cells))) (drop-item fields i field c.loop-i-test.true c.index-fields-i.is)
    ∙ next_part (column_of field) left cells i in
    let weighed : c.weight.result ≡ capped_weight first = c.weight.ensures ∙ ap (λ (x : Cell). capped_weight (weight (column_of field) x)) c.part_or_null.ensures in
    let same : capped_weight (c.add_weights-total.result + rest) ≡ capped_weight (c.loop-i.total + parts_weight (columns_of (map column_of (drop i fields))) (cells_of (drop i cells))) =
    omega (arith, next, weighed, c.add_weights-total.ensures) in
    (same ∙ c.loop-i.invariant.0, omega (arith, c.add_weights-total.ensures))

pub nulls_weight-loop-field-preserved : goal.nulls_weight-loop-field-preserved
unfolding parts_weight
nulls_weight-loop-field-preserved t c =
    let i : ℕ = c.loop-field.field-index in
    let fields : List Field = c.args.fields.now in
    let field : Field = c.field-item.result in
    let first : ℕ = weight (column_of field) null in
    let rest : ℕ = parts_weight (columns_of (map column_of (drop (i + 1) fields))) no_cell in
    let next : parts_weight (columns_of (map column_of (drop i fields))) no_cell ≡ first + rest =
    ap (λ (fs : List Field). parts_weight (columns_of (map column_of fs)) no_cell) (drop-item fields i field c.loop-field-test.true c.field-item.is) in
    let weighed : c.weight.result ≡ capped_weight first = c.weight.ensures in
    let same : capped_weight (c.add_weights-total.result + rest) ≡ capped_weight (c.loop-field.total + parts_weight (columns_of (map column_of (drop i fields))) no_cell) =
    omega (arith, next, weighed, c.add_weights-total.ensures) in
    (same ∙ c.loop-field.invariant.0, omega (arith, c.add_weights-total.ensures))
