use Rattle.std.proofs.Common.{◌≡◌, ◌+◌, List, map, drop, ap, sym, ◌∙◌, ℕ, arith}
use Rattle.std.specs.Prelude.{Some, None}
use Rattle.std.proofs.lemmas.List.{length-map}
use Rattle.arrow_schema.specs.View.{schema_of}
use Rattle.cells.specs.declared.value.Value.{Value}
use Rattle.cells.specs.View.{cell}
use Rattle.cells.specs.Row.{accepted_weight}
use Rattle.cells.specs.Row.{row_of}
use Rattle.values.proofs.AcceptLemmas.{reported_from, goes_on, stops, ends, next_of, no_unfit, reported_all, is_unfit}
use Rattle.values.proofs.accept.weigh_rows.Goals as goal

pub accepted_weight-requires : goal.accepted_weight-requires
accepted_weight-requires c = c.has_limits-limited.ensures

pub returns-in-None-clause-refused : goal.returns-in-None-clause-refused
returns-in-None-clause-refused c =
    let s = schema_of c.args.schema.now in
    let rows = map row_of c.args.rows.now in
    let row = row_of c.index-rows-i.result in
    let next = next_of row_of c.args.rows.now c.loop-i.i c.index-rows-i.result c.loop-i-test.true c.index-rows-i.is in
    let none : None ≡ accepted_weight s row = sym c.in-None.is ∙ (c.in_ok-accepted_weight.ensures.weight ∙ ap (λ (vs : List Value). accepted_weight s (map cell vs)) c.deref.ensures.value) in
    is_unfit s c.loop-i.i rows (sym c.loop-i.invariant.0 ∙ stops s rows c.loop-i.i c.loop-i.total row next none)

pub loop-i-preserved : goal.loop-i-preserved
loop-i-preserved c =
    let s = schema_of c.args.schema.now in
    let rows = map row_of c.args.rows.now in
    let row = row_of c.index-rows-i.result in
    let next = next_of row_of c.args.rows.now c.loop-i.i c.index-rows-i.result c.loop-i-test.true c.index-rows-i.is in
    let some : Some c.in-Some.weight ≡ accepted_weight s row = sym c.in-Some.is ∙ (c.in_ok-accepted_weight.ensures.weight ∙ ap (λ (vs : List Value). accepted_weight s (map cell vs)) c.deref.ensures.value) in
    let on = goes_on s rows c.loop-i.i c.loop-i.total c.in-Some.weight row next some in
    (ap (λ (t : ℕ). reported_from s (c.loop-i.i + 1) t (drop (c.loop-i.i + 1) rows)) c.add_weights-total.ensures ∙ (sym on ∙ c.loop-i.invariant.0), omega (arith, c.add_weights-total.ensures))

pub returns-clause-taken : goal.returns-clause-taken
returns-clause-taken c =
    let s = schema_of c.args.schema.now in
    let rows = map row_of c.args.rows.now in
    no_unfit s c.loop-i.total rows (sym c.loop-i.invariant.0 ∙ ends s rows c.loop-i.i c.loop-i.total (omega (arith, length-map c.args.rows.now row_of)))

pub returns-clause-weight : goal.returns-clause-weight
returns-clause-weight c =
    let s = schema_of c.args.schema.now in
    let rows = map row_of c.args.rows.now in
    reported_all s c.loop-i.total rows (sym c.loop-i.invariant.0 ∙ ends s rows c.loop-i.i c.loop-i.total (omega (arith, length-map c.args.rows.now row_of)))
