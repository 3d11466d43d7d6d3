use Rattle.facts.specs.laws.Lists.{drop-item}
use Rattle.cli_replay.proofs.ItemCalls.{numbers_kept}
use Rattle.cli_replay.proofs.calls.numbers_of.Goals as goal

pub loop-item-preserved : goal.loop-item-preserved
loop-item-preserved c =
    let items = c.args.items.now in
    let i = c.loop-item.item-index in
    let item = c.item-item.result in
    numbers_kept items i item c.loop-item.numbers.items c.push.new.self.items c.number_of.result (drop-item items i item c.loop-item-test.true c.item-item.is) c.number_of.ensures c.in_ok-push.ensures.items
    c.loop-item.invariant
