-- A test whether two schemas have one shape.
use Rattle.std.specs.Prelude.{Bool}
use Rattle.arrow_schema.specs.declared.compare.Detail.TheVariants.{Shape}
use Rattle.arrow_schema.specs.Column.{columns_of, PlainSchema}
use Rattle.arrow_schema.specs.inner.Alike.{alike_all}

-- true if and only if `HaveOneShape` holds
unfoldable pub have_one_shape : PlainSchema → PlainSchema → Bool
have_one_shape a b = alike_all Shape (columns_of a.columns) (columns_of b.columns)
