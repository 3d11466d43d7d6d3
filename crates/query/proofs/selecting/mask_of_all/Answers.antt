use Rattle.std.proofs.Common.{◌≡◌, ℕ, suc, ◌+◌, List, [], ◌∷◌, ◌++◌, map, take, ap, subst, ◌∙◌, arith}
use Rattle.std.proofs.lemmas.List.{take_all, map-append}
use Rattle.std.proofs.lemmas.Result.{IfOk-weaker}
use Rattle.bitmap.specs.Bits.{both}
use Rattle.cells.specs.Cell.{Cell}
use Rattle.values.specs.TableView.{table_of}
use Rattle.query.specs.declared.bound.Bound.{Bound}
use Rattle.query.specs.Bound.{holds}
use Rattle.query.specs.Bound as plain
use Rattle.query.specs.Selection.{holds_all}
use Rattle.query.specs.inner.BoundView.{bound_in}
use Rattle.query.specs.inner.Masks.{IsMask}
use Rattle.query.proofs.Keeping.{mask_long}
use Rattle.query.proofs.Joining.{joined_mask, one_more, no_condition, one_condition, one_taken}
use Rattle.query.proofs.selecting.mask_of_all.Goals as goal

pub returns-in_default : goal.returns-in_default
returns-in_default c =
    IfOk-weaker c.all_rows.result _ _
    (λ mask h. no_condition c.args.bounds.now (table_of c.args.table.now).rows mask.items c.len-rows.result c.in_default.ensures.cases c.len-rows.ensures h) c.all_rows.ensures

pub loop-bound-init : goal.loop-bound-init
loop-bound-init c =
    one_condition c.args.bounds.now c.in-Some.others.now c.in-Some.first.now (table_of c.args.table.now).rows c.in_ok-mask.mask.items c.in-Some.ensures.cases.0 c.in_ok-mask.ensures

pub and-requires-clause-first : goal.and-requires-clause-first
and-requires-clause-first c =
    let met = map bound_in (take (suc c.loop-bound.bound-index) c.args.bounds.now) in
    rw c.len-rows.ensures (mask_long c.deref.result.now (holds_all met) (table_of c.args.table.now).rows (rw c.deref.ensures.value c.loop-bound.invariant))

pub and-requires-clause-second : goal.and-requires-clause-second
and-requires-clause-second c =
    rw c.len-rows.ensures
    (mask_long c.deref-in-loop-bound.result.now (holds (bound_in c.bound-item.result)) (table_of c.args.table.now).rows (rw c.deref-in-loop-bound.ensures.value c.in_ok-own.ensures))

pub loop-bound-preserved : goal.loop-bound-preserved
loop-bound-preserved c =
    let bounds = c.args.bounds.now in
    let k = c.loop-bound.bound-index in
    let b = c.bound-item.result in
    let rows : List (List Cell) = (table_of c.args.table.now).rows in
    let more : map bound_in (take (suc (k + 1)) bounds) ≡ map bound_in (take (suc k) bounds) ++ bound_in b ∷ [] =
    ap (map bound_in) (one_taken bounds c.in-Some.others.now c.in-Some.first.now b k c.in-Some.ensures.cases.0 c.loop-bound-test.true c.bound-item.is)
    ∙ map-append bound_in (take (suc k) bounds) (b ∷ []) in
    let first : IsMask c.deref.result.now (map (holds_all (map bound_in (take (suc k) bounds))) rows) = rw c.deref.ensures.value c.loop-bound.invariant in
    let second : IsMask c.deref-in-loop-bound.result.now (map (holds (bound_in b)) rows) = rw c.deref-in-loop-bound.ensures.value c.in_ok-own.ensures in
    joined_mask c.deref.result.now c.deref-in-loop-bound.result.now c.in_ok-mask-2.mask.items
    (holds_all (map bound_in (take (suc k) bounds))) (holds (bound_in b)) (holds_all (map bound_in (take (suc (k + 1)) bounds))) rows
    (λ row. ap (λ (bs : List plain.Bound). holds_all bs row) more ∙ one_more (map bound_in (take (suc k) bounds)) (bound_in b) row)
    first second
    (λ i. c.in_ok-mask-2.ensures.bits i ∙ ap (λ (n : ℕ). both c.deref.result.now c.deref-in-loop-bound.result.now n i) c.len-rows.ensures)
    (rw (← c.len-rows.ensures) c.in_ok-mask-2.ensures.length)

pub returns : goal.returns
returns c =
    let bounds = c.args.bounds.now in
    let all : take (suc c.loop-bound.bound-index) bounds ≡ bounds =
    take_all (suc c.loop-bound.bound-index) bounds (omega (arith, c.in-Some.ensures.cases.1, c.loop-bound-test.false)) in
    subst (λ (bs : List Bound). IsMask c.loop-bound.mask.items (map (holds_all (map bound_in bs)) (table_of c.args.table.now).rows)) all c.loop-bound.invariant
