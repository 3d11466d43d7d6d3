use Rattle.std.proofs.Common.{◌≡◌, List, IfOk, drop, subst}
use Rattle.columns.specs.Tests.{Typed}
use Rattle.columns.specs.View.{placed_arrays}
use Rattle.arrays.specs.inner.Every.{all_of}
use Rattle.facts.specs.laws.Lists.{drop-item}
use Rattle.arrays.proofs.Everys.{listed_more, listed_all, coded_listed, plain_listed}
use Rattle.arrays.proofs.every.+every.Goals as goal

pub add_array-returns-in-Some : goal.add_array-returns-in-Some
add_array-returns-in-Some t c =
    coded_listed c.args.every.items _ (record { field = c.args.field; view = c.args.view }) c.in-Some.field-0 c.in_ok-push.ensures.items c.in-Some.is

pub add_array-returns-in-None : goal.add_array-returns-in-None
add_array-returns-in-None t c =
    subst (λ (ts : List Typed). IfOk c.add_below.result (λ v. all_of v.items ≡ ts))
    (plain_listed c.args.every.items _ (record { field = c.args.field; view = c.args.view }) c.in_ok-push.ensures.items c.in-None.is) c.add_below.ensures

pub add_all-loop-i-preserved : goal.add_all-loop-i-preserved
add_all-loop-i-preserved t c =
    listed_more c.args.bytes.now c.args.dictionaries.now c.args.fields.now c.args.arrays.now c.loop-i.i c.index-fields-i.result _ _ _ _
    (drop-item c.args.fields.now c.loop-i.i c.index-fields-i.result c.loop-i-test.true c.index-fields-i.is)
    (c.array_or.ensures c.args.bytes.now c.args.dictionaries.now) c.in_ok-every.ensures c.loop-i.invariant

pub add_all-returns : goal.add_all-returns
add_all-returns t c =
    listed_all c.args.fields.now c.loop-i.i (placed_arrays c.args.bytes.now c.args.dictionaries.now (drop c.loop-i.i c.args.arrays.now)) _ _ c.loop-i-test.false c.loop-i.invariant
