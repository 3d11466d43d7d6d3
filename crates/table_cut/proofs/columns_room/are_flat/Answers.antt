use Rattle.std.specs.Prelude.{not, ◌&&◌}
use Rattle.std.proofs.Common.{◌≡◌, ◌+◌, Bool, true, false, List, drop, ap, sym, ◌∙◌}
use Rattle.arrow_schema.specs.View.{column_of}
use Rattle.arrow_schema.specs.declared.types.Field.{Field}
use Rattle.columns.specs.View.{fields_of}
use Rattle.facts.specs.laws.Lists.{drop-item}
use Rattle.table_cut.specs.inner.Fit.{is_flat, are_flat}
use Rattle.table_cut.proofs.FitLemmas.{flat_field}
use Rattle.table_cut.proofs.columns_room.are_flat.Goals as goal

pub loop-field-preserved : goal.loop-field-preserved
unfolding are_flat
loop-field-preserved c =
    let fields : List Field = c.args.fields.now in
    let i = c.loop-field.field-index in
    let rest : Bool = are_flat (fields_of (drop (i + 1) fields)) in
    let next = ap (λ (fs : List Field). are_flat (fields_of fs)) (drop-item fields i c.field-item.result c.loop-field-test.true c.field-item.is) in
    let own : is_flat (column_of c.field-item.result) ≡ true = flat_field c.field-item.result ∙ ap not (sym c.is_nested.ensures ∙ c.if-is_nested.false) in
    sym (next ∙ ap (λ (b : Bool). b && rest) own) ∙ c.loop-field.invariant

pub returns-then-is_nested : goal.returns-then-is_nested
unfolding are_flat
returns-then-is_nested c =
    let fields : List Field = c.args.fields.now in
    let i = c.loop-field.field-index in
    let rest : Bool = are_flat (fields_of (drop (i + 1) fields)) in
    let next = ap (λ (fs : List Field). are_flat (fields_of fs)) (drop-item fields i c.field-item.result c.loop-field-test.true c.field-item.is) in
    let own : is_flat (column_of c.field-item.result) ≡ false = flat_field c.field-item.result ∙ ap not (sym c.is_nested.ensures ∙ c.if-is_nested.true) in
    sym (next ∙ ap (λ (b : Bool). b && rest) own) ∙ c.loop-field.invariant
