use Rattle.std.proofs.Common.{◌≡◌, ◌∙◌, false, map, sym}
use Rattle.facts.specs.laws.Lists.{drop-item}
use Rattle.arrow_schema.specs.Parts.{name_of_column}
use Rattle.arrow_schema.specs.View.{column_of}
use Rattle.query.specs.ObjectLine.{is_of_one}
use Rattle.query.proofs.object_line.are_named_apart.Goals as goal

pub returns-then-not-is_alone : goal.returns-then-not-is_alone
returns-then-not-is_alone c =
    let columns = map column_of c.args.fields.now in
    let field = c.field-item.result in
    let other : is_of_one columns (name_of_column (column_of field)) ≡ false = sym c.is_alone.ensures ∙ c.if-not-is_alone.true in
    let left = rw (drop-item c.args.fields.now c.loop-field.field-index field c.loop-field-test.true c.field-item.is) at c.loop-field.invariant in
    rw other at left
