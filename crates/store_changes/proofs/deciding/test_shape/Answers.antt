use Rattle.std.specs.Prelude.{not}
use Rattle.std.proofs.Common.{◌≡◌, Bool, true, ap, sym, ◌∙◌}
use Rattle.std.proofs.lemmas.Bool.{false_from_ne_true, true≢false}
use Rattle.facts.specs.Checks.{when}
use Rattle.arrow_schema.specs.OneShape.{have_one_shape}
use Rattle.arrow_schema.specs.View.{schema_of}
use Rattle.tables.specs.declared.refusal.Refusal.TheVariants.{SchemaMismatch}
use Rattle.store_changes.proofs.deciding.test_shape.Goals as goal

pub returns-then-same_shape : goal.returns-then-same_shape
returns-then-same_shape c =
    let own = schema_of c.args.own.now in
    let new = schema_of c.args.new.now in
    ap (λ (b : Bool). when (not b) SchemaMismatch) ((c.one_shape_is_decided.ensures own new).1 (c.same_shape.ensures.0 c.if-same_shape.true))

pub returns-else-same_shape : goal.returns-else-same_shape
returns-else-same_shape c =
    let own = schema_of c.args.own.now in
    let new = schema_of c.args.new.now in
    ap (λ (b : Bool). when (not b) SchemaMismatch)
    (false_from_ne_true (have_one_shape own new)
    (λ (is : have_one_shape own new ≡ true). true≢false (sym (c.same_shape.ensures.1 ((c.one_shape_is_decided.ensures own new).0 is)) ∙ c.if-same_shape.false)))
