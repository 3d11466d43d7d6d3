use Rattle.std.specs.Prelude.{◌||◌}
use Rattle.std.proofs.Common.{◌+◌, Bool, List, map, drop, ap, sym, ◌∙◌}
use Rattle.arrow_schema.specs.declared.types.Field.{Field}
use Rattle.arrow_schema.specs.Column.{columns_of}
use Rattle.arrow_schema.specs.View.{column_of}
use Rattle.cells.specs.Dictionary.{is_any_limited}
use Rattle.facts.specs.laws.Lists.{drop-item}
use Rattle.cells.proofs.limited.+limited.Goals as goal

pub is_any_limited-loop-field-preserved : goal.is_any_limited-loop-field-preserved
unfolding is_any_limited
is_any_limited-loop-field-preserved t c =
    let fields : List Field = c.args.fields.now in
    let i = c.loop-field.field-index in
    let rest : Bool = is_any_limited (columns_of (map column_of (drop (i + 1) fields))) in
    let next = ap (λ (fs : List Field). is_any_limited (columns_of (map column_of fs))) (drop-item fields i c.field-item.result c.loop-field-test.true c.field-item.is) in
    sym (next ∙ ap (λ (b : Bool). b || rest) (sym c.is_limited.ensures ∙ c.if-is_limited.false)) ∙ c.loop-field.invariant

pub is_any_limited-returns-then-is_limited : goal.is_any_limited-returns-then-is_limited
unfolding is_any_limited
is_any_limited-returns-then-is_limited t c =
    let fields : List Field = c.args.fields.now in
    let i = c.loop-field.field-index in
    let rest : Bool = is_any_limited (columns_of (map column_of (drop (i + 1) fields))) in
    let next = ap (λ (fs : List Field). is_any_limited (columns_of (map column_of fs))) (drop-item fields i c.field-item.result c.loop-field-test.true c.field-item.is) in
    sym (next ∙ ap (λ (b : Bool). b || rest) (sym c.is_limited.ensures ∙ c.if-is_limited.true)) ∙ c.loop-field.invariant
