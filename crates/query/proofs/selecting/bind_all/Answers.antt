use Rattle.std.proofs.Common.{map, arith}
use Rattle.std.proofs.lemmas.Result.{err_from_is_err_and}
use Rattle.arrow_schema.specs.View.{column_of}
use Rattle.query.specs.Bound.{bound}
use Rattle.query.specs.View.{condition_in}
use Rattle.query.specs.inner.BoundView.{bound_in}
use Rattle.query.proofs.Binding.{report_first, one_more_bound, all_of_them}
use Rattle.query.proofs.selecting.bind_all.Goals as goal

pub loop-condition-preserved : goal.loop-condition-preserved
loop-condition-preserved c = record {
  bound = rw c.push_reserved.ensures.items
      (one_more_bound (bound c.args.dates (map column_of c.args.fields.now)) condition_in bound_in c.args.conditions.now c.loop-condition.condition-index c.condition-item.result c.loop-condition.bounds.items
      c.in_ok-bound.bound c.loop-condition-test.true c.condition-item.is c.loop-condition.invariant.bound c.in_ok-bound.ensures.ok);
  len = omega (arith, c.push_reserved.ensures.len, c.loop-condition.invariant.len);
  room = omega (arith, c.push_reserved.ensures.capacity, c.loop-condition.invariant.room);
}

pub returns-in_err-bound-clause-refused : goal.returns-in_err-bound-clause-refused
returns-in_err-bound-clause-refused c =
    let p = err_from_is_err_and c.from_residual-in_err-bound.result c.from_residual-in_err-bound.ensures.1 in
    rw (p.1, p.2)
    (report_first (bound c.args.dates (map column_of c.args.fields.now)) condition_in bound_in c.args.conditions.now c.loop-condition.condition-index c.condition-item.result c.loop-condition.bounds.items
    c.loop-condition-test.true c.condition-item.is c.loop-condition.invariant.bound _ c.in_err-bound.ensures.refused)

pub returns-clause-ok : goal.returns-clause-ok
returns-clause-ok c =
    all_of_them (bound c.args.dates (map column_of c.args.fields.now)) condition_in bound_in c.args.conditions.now c.loop-condition.condition-index c.loop-condition.bounds.items
    c.loop-condition-test.false c.loop-condition.invariant.bound
