use Rattle.std.specs.Prelude.{sum}
use Rattle.std.proofs.Common.{◌≡◌, ◌∙◌, List, ap, sym, subst, arith}
use Rattle.std.proofs.lemmas.Bool.{and_from, eq-eqb}
use Rattle.arrow_schema.specs.Column.{columns_of}
use Rattle.arrow_schema.specs.View.{schema_of}
use Rattle.values.specs.Parts.{are_parts_sound, parts_table}
use Rattle.values.specs.Table.{IsTable}
use Rattle.values.specs.declared.table_part.TablePart.{TablePart}
use Rattle.values.specs.inner.Starts.{part_lengths}
use Rattle.values.proofs.ContentLemmas.{parts_few}
use Rattle.values.proofs.table.Table.from_parts_or_back.Goals as goal

pub part_lengths-requires : goal.part_lengths-requires
part_lengths-requires c = rw c.deref.ensures.value (omega (arith, parts_few (schema_of c.args.schema) c.args.parts.items c.requires.table))

pub total-rows-requires : goal.total-rows-requires
total-rows-requires c =
    let lengths = rw c.deref.ensures.value at (c.deref-2.ensures.value ∙ c.in-Ok.ensures) in
    rw lengths (omega (arith, parts_few (schema_of c.args.schema) c.args.parts.items c.requires.table))

pub invariant_of-result : goal.invariant_of-result
invariant_of-result c =
    let s = schema_of c.args.schema in
    let parts : c.in_ok-batches.batches.parts.items ≡ c.args.parts.items = c.in_ok-batches.ensures.parts in
    let lengths = rw c.deref.ensures.value at (c.deref-2.ensures.value ∙ c.in-Ok.ensures) in
    record {
      filled = and_from _ _ (eq-eqb _ _ (c.total-rows.ensures ∙ ap sum lengths ∙ ap (λ (ps : List TablePart). sum (part_lengths ps)) (sym parts)))
          (ap (λ (ps : List TablePart). are_parts_sound (columns_of s.columns) ps) parts ∙ c.requires.sound);
      kept = subst (λ (ps : List TablePart). IsTable (parts_table s ps)) (sym parts) c.requires.table;
    }
