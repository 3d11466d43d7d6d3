use Rattle.std.proofs.Common.{◌∙◌, ap, arith}
use Rattle.std.proofs.lemmas.List.{length-map}
use Rattle.arrow_schema.specs.declared.limits.SchemaTotals.{SchemaTotals}
use Rattle.arrow_schema.specs.View.{pair_of}
use Rattle.arrow_schema.proofs.Counting.{tallied_fields, tallied_pairs, tallied_bytes, tallied_numbers, tallied_dictionaries}
use Rattle.arrow_schema.proofs.limits.totals_of.Goals as goal

pub returns-clause-fields : goal.returns-clause-fields
returns-clause-fields c =
    let e = rw c.deref-2.ensures.value at c.totals_fields.ensures in
    ap (λ (x : SchemaTotals). x.fields) e ∙ tallied_fields _ _ (omega arith) ∙ omega arith

pub returns-clause-pairs : goal.returns-clause-pairs
returns-clause-pairs c =
    let e = rw c.deref-2.ensures.value at c.totals_fields.ensures in
    ap (λ (x : SchemaTotals). x.pairs) e ∙ tallied_pairs _ _ (omega arith) ∙ omega (arith, length-map c.args.schema.now.pairs.items pair_of)

pub returns-clause-bytes : goal.returns-clause-bytes
returns-clause-bytes c =
    let e = rw c.deref-2.ensures.value at c.totals_fields.ensures in
    let b = rw c.deref.ensures.value at c.bytes_of_pairs.ensures in
    ap (λ (x : SchemaTotals). x.bytes) e ∙ tallied_bytes _ _ (omega arith) ∙ omega (arith, b)

pub returns-clause-numbers : goal.returns-clause-numbers
returns-clause-numbers c =
    let e = rw c.deref-2.ensures.value at c.totals_fields.ensures in
    ap (λ (x : SchemaTotals). x.numbers_fit) e ∙ tallied_numbers _ _

pub returns-clause-dictionaries : goal.returns-clause-dictionaries
returns-clause-dictionaries c =
    let e = rw c.deref-2.ensures.value at c.totals_fields.ensures in
    ap (λ (x : SchemaTotals). x.dictionaries_fit) e ∙ tallied_dictionaries _ _
