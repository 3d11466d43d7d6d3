use Rattle.std.proofs.Common.{map}
use Rattle.arrow_schema.specs.View.{column_of}
use Rattle.query.specs.inner.BoundView.{bound_in}
use Rattle.query.proofs.ContentsTests.{contents_test}
use Rattle.query.proofs.slot_test.contents_test_of.Goals as goal

pub returns-in-Some : goal.returns-in-Some
returns-in-Some c = contents_test (map column_of c.args.fields.now) (bound_in c.args.bound.now) c.in-Some.comparison c.in-Some.ensures
