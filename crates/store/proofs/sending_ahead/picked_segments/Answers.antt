use Rattle.std.proofs.Common.{List, map, subst, arith, take_all}
use Rattle.std.proofs.lemmas.List.{get_or_default}
use Rattle.catalogue.specs.View.{catalogue_of}
use Rattle.store.specs.declared.sending.Item.{Item}
use Rattle.store.specs.inner.Sending.{plain_item, ArePicked}
use Rattle.store.proofs.SentAhead.{picked_next}
use Rattle.store.proofs.sending_ahead.picked_segments.Goals as goal

pub loop-item-preserved : goal.loop-item-preserved
loop-item-preserved c =
    let items = c.args.items.now in
    let i = c.loop-item.item-index in
    let lt = c.loop-item-test.true in
    picked_next (catalogue_of c.args.list.now) items i _ c.loop-item.segments.items c.push.new.self.items c.in_ok-segment.segment lt
    (get_or_default items i _ _ lt) c.in_ok-push.ensures.items c.loop-item.invariant c.in_ok-segment.ensures.segment

pub returns-clause-picked : goal.returns-clause-picked
returns-clause-picked c =
    subst (λ (xs : List Item). ArePicked (catalogue_of c.args.list.now) (map plain_item xs) c.loop-item.segments.items)
    (take_all c.loop-item.item-index c.args.items.now (omega (arith, c.loop-item-test.false))) c.loop-item.invariant
