use Rattle.std.proofs.Common.{◌≡◌, ◌∙◌, Bool, true, false, refl, sym, subst}
use Rattle.std.specs.Bool.{Decides}
use Rattle.arrow_schema.specs.Column.{PlainSchema}
use Rattle.arrow_schema.specs.View.{schema_of}
use Rattle.arrow_schema.specs.inner.Alike.{pairs_eq}
use Rattle.arrow_schema.proofs.Deciding.{schema_decides}
use Rattle.arrow_schema.proofs.types.Schema.equals.Goals as goal

pub returns-then-same_fields : goal.returns-then-same_fields
returns-then-same_fields c =
    let e = rw (c.deref.ensures.value, c.deref-2.ensures.value) at c.same_fields.ensures in
    let f = rw (c.deref-then-same_fields.ensures.value, c.deref-then-same_fields-2.ensures.value) at c.same_pairs.ensures in
    schema_decides (schema_of c.args.self.now) (schema_of c.args.other.now) true c.same_pairs.result (sym c.if-same_fields.true ∙ e) f

pub returns-else-same_fields : goal.returns-else-same_fields
returns-else-same_fields c =
    let a : PlainSchema = schema_of c.args.self.now in
    let b : PlainSchema = schema_of c.args.other.now in
    let e = rw (c.deref.ensures.value, c.deref-2.ensures.value) at c.same_fields.ensures in
    subst (λ (r : Bool). Decides r (a ≡ b)) (sym c.if-same_fields.false) (schema_decides a b false (pairs_eq a.pairs b.pairs) (sym c.if-same_fields.false ∙ e) refl)
