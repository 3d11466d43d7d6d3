use Rattle.std.proofs.Common.{◌∙◌, ap}
use Rattle.arrow_schema.specs.Column.{PlainSchema}
use Rattle.arrow_schema.specs.View.{schema_of}
use Rattle.values.specs.Parts.{parts_table}
use Rattle.text_columns.proofs.table.build_table.Goals as goal

pub returns-clause-rows : goal.returns-clause-rows
returns-clause-rows c =
    λ rows holds table.
    let s = schema_of c.args.schema.now in
    c.in_ok-table.ensures.made
    ∙ ap (λ (t : PlainSchema). parts_table t c.in_ok-parts.parts.items) c.in_ok-copy.ensures
    ∙ (c.in_ok-parts.ensures s rows holds table).0
