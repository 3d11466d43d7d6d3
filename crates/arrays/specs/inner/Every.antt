-- The arrays of a batch, as the code lists them.
use Rattle.std.specs.Prelude.{List, map}
use Rattle.arrow_schema.specs.View.{column_of}
use Rattle.columns.specs.Tests.{Typed, typed}
use Rattle.columns.specs.View.{view_array}
use Rattle.arrays.specs.declared.every.TypedView.{TypedView}

abbrev pub typed_view : TypedView → Typed
typed_view t = typed (column_of t.field.now) (view_array t.view)

abbrev pub all_of : List TypedView → List Typed
all_of every = map typed_view every
