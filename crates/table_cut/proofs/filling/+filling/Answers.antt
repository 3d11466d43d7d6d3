use Rattle.std.specs.Prelude.{◌||◌}
use Rattle.std.proofs.Common.{◌+◌, Bool, List, map, drop, ap, sym, ◌∙◌}
use Rattle.arrow_schema.specs.declared.types.Field.{Field}
use Rattle.arrow_schema.specs.Column.{columns_of}
use Rattle.arrow_schema.specs.View.{column_of}
use Rattle.facts.specs.laws.Lists.{drop-item}
use Rattle.table_cut.specs.inner.Filling.{can_any_fill}
use Rattle.table_cut.proofs.filling.+filling.Goals as goal

pub can_any_fill-loop-field-preserved : goal.can_any_fill-loop-field-preserved
unfolding can_any_fill
can_any_fill-loop-field-preserved t c =
    let fields : List Field = c.args.fields.now in
    let i = c.loop-field.field-index in
    let rest : Bool = can_any_fill c.args.values (columns_of (map column_of (drop (i + 1) fields))) in
    let next = ap (λ (fs : List Field). can_any_fill c.args.values (columns_of (map column_of fs))) (drop-item fields i c.field-item.result c.loop-field-test.true c.field-item.is) in
    sym (next ∙ ap (λ (b : Bool). b || rest) (sym c.can_fill.ensures ∙ c.if-can_fill.false)) ∙ c.loop-field.invariant

pub can_any_fill-returns-then-can_fill : goal.can_any_fill-returns-then-can_fill
unfolding can_any_fill
can_any_fill-returns-then-can_fill t c =
    let fields : List Field = c.args.fields.now in
    let i = c.loop-field.field-index in
    let rest : Bool = can_any_fill c.args.values (columns_of (map column_of (drop (i + 1) fields))) in
    let next = ap (λ (fs : List Field). can_any_fill c.args.values (columns_of (map column_of fs))) (drop-item fields i c.field-item.result c.loop-field-test.true c.field-item.is) in
    sym (next ∙ ap (λ (b : Bool). b || rest) (sym c.can_fill.ensures ∙ c.if-can_fill.true)) ∙ c.loop-field.invariant
