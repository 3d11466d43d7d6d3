use Rattle.std.proofs.Common.{◌∙◌, refl, sym, true, false, arith}
use Rattle.std.proofs.lemmas.Bool.{not-true, not-false}
use Rattle.arrow_schema.specs.View.{schema_of}
use Rattle.arrow_schema.proofs.Counting.{first_depth, first_fields, first_pairs, first_bytes, first_after}
use Rattle.arrow_schema.proofs.limits.first_exceeded.Goals as goal

pub returns-then-not-are_within_depth : goal.returns-then-not-are_within_depth
returns-then-not-are_within_depth c =
    let d = rw c.deref.ensures.value at c.are_within_depth.ensures in
    first_depth _ (sym d ∙ c.if-not-are_within_depth.true)

pub returns-then-totals-gt-MAX_FIELDS : goal.returns-then-totals-gt-MAX_FIELDS
returns-then-totals-gt-MAX_FIELDS c =
    let d = rw c.deref.ensures.value at c.are_within_depth.ensures in
    first_fields _ (sym d ∙ c.if-not-are_within_depth.false) (omega arith)

pub returns-then-totals-gt-MAX_PAIRS : goal.returns-then-totals-gt-MAX_PAIRS
returns-then-totals-gt-MAX_PAIRS c =
    let d = rw c.deref.ensures.value at c.are_within_depth.ensures in
    first_pairs _ (sym d ∙ c.if-not-are_within_depth.false) (omega arith) (omega arith)

pub returns-then-totals-gt-MAX_TEXT_BYTES : goal.returns-then-totals-gt-MAX_TEXT_BYTES
returns-then-totals-gt-MAX_TEXT_BYTES c =
    let d = rw c.deref.ensures.value at c.are_within_depth.ensures in
    first_bytes _ (sym d ∙ c.if-not-are_within_depth.false) (omega arith) (omega arith) (omega arith)

pub returns-then-not-totals : goal.returns-then-not-totals
returns-then-not-totals c =
    let d = rw c.deref.ensures.value at c.are_within_depth.ensures in
    first_after (schema_of c.args.schema.now) false _ (sym d ∙ c.if-not-are_within_depth.false) (omega arith) (omega arith) (omega arith) (sym c.totals_of-totals.ensures.numbers ∙ not-true _ c.if-not-totals.true) refl

pub returns-then-not-totals-2 : goal.returns-then-not-totals-2
returns-then-not-totals-2 c =
    let d = rw c.deref.ensures.value at c.are_within_depth.ensures in
    first_after (schema_of c.args.schema.now) true false (sym d ∙ c.if-not-are_within_depth.false) (omega arith) (omega arith) (omega arith) (sym c.totals_of-totals.ensures.numbers ∙ not-false _ c.if-not-totals.false) (sym c.totals_of-totals.ensures.dictionaries ∙ not-true _ c.if-not-totals-2.true)

pub returns-else-not-totals-2 : goal.returns-else-not-totals-2
returns-else-not-totals-2 c =
    let d = rw c.deref.ensures.value at c.are_within_depth.ensures in
    first_after (schema_of c.args.schema.now) true true (sym d ∙ c.if-not-are_within_depth.false) (omega arith) (omega arith) (omega arith) (sym c.totals_of-totals.ensures.numbers ∙ not-false _ c.if-not-totals.false) (sym c.totals_of-totals.ensures.dictionaries ∙ not-false _ c.if-not-totals-2.false)
