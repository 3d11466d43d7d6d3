use Rattle.std.proofs.Common.{map}
use Rattle.arrow_schema.specs.View.{column_of}
use Rattle.query.specs.inner.BoundView.{bound_in}
use Rattle.query.proofs.NullTests.{null_test}
use Rattle.query.proofs.slot_test.null_slot_test_of.Goals as goal

pub returns-in-Some : goal.returns-in-Some
returns-in-Some c = null_test (map column_of c.args.fields.now) (bound_in c.args.bound.now) c.in-Some.test c.in-Some.ensures
