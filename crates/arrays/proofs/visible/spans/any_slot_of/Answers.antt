use Rattle.std.proofs.Common.{sym}
use Rattle.arrow_schema.specs.View.{column_of}
use Rattle.columns.specs.View.{view_array}
use Rattle.arrays.specs.inner.VisibleSpans.{finds}
use Rattle.arrays.proofs.SpanLists.{none_inside, not_own}
use Rattle.arrays.proofs.visible.spans.any_slot_of.Goals as goal

pub returns-then-not-may_find_own : goal.returns-then-not-may_find_own
returns-then-not-may_find_own c = sym (not_own c.args.test (column_of c.args.field.now) (view_array c.args.view) c.args.spans.now (sym c.if-not-may_find_own.ensures))

pub returns-then-finds_none : goal.returns-then-finds_none
returns-then-finds_none c =
    sym (none_inside (finds c.args.test) (column_of c.args.field.now) (view_array c.args.view) c.in-Some.whole c.args.spans.now (c.finds_none.ensures c.if-finds_none.true) c.in-Some.ensures.1)
