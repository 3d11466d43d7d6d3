use Rattle.std.proofs.Common.{List, ap, sym, ◌∙◌}
use Rattle.arrow_schema.specs.View.{schema_of}
use Rattle.values.specs.Parts.{parts_table}
use Rattle.values.specs.declared.table_part.TablePart.{TablePart}
use Rattle.values.proofs.ContentLemmas.{table_of_parts}
use Rattle.values.proofs.table.Table.parts.Goals as goal

pub returns-in-Batches-clause-rows : goal.returns-in-Batches-clause-rows
returns-in-Batches-clause-rows c =
    table_of_parts c.args.self.now.schema c.args.self.now.content c.in-Batches.batches c.in-Batches.is
    ∙ ap (λ (parts : List TablePart). parts_table (schema_of c.args.self.now.schema) parts) (sym c.deref.ensures.value)
