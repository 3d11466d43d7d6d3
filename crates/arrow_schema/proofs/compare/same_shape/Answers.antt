use Rattle.arrow_schema.specs.View.{schema_of}
use Rattle.arrow_schema.proofs.Deciding.{shape_decided}
use Rattle.arrow_schema.proofs.compare.same_shape.Goals as goal

pub returns : goal.returns
returns c =
    let e = rw (c.deref.ensures.value, c.deref-2.ensures.value) at c.same_fields.ensures in
    shape_decided _ (schema_of c.args.a.now) (schema_of c.args.b.now) e
