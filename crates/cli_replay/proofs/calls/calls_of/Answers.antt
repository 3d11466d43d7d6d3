use Rattle.std.proofs.Common.{List, take, ◌+◌, sym, subst}
use Rattle.std.specs.declared.io.impls.Empty.{Empty}
use Rattle.store.specs.declared.call.Call.{Call}
use Rattle.cli_scripts.specs.Plain.{plain_item, plain_items}
use Rattle.cli_replay.specs.Replay.{AreCallsOfItems}
use Rattle.cli_replay.specs.Listed.{IsPlayable}
use Rattle.cli_replay.proofs.Changes.{line_at}
use Rattle.cli_replay.proofs.ItemCalls.{calls_kept}
use Rattle.cli_replay.proofs.calls.calls_of.Goals as goal

pub call_of-requires : goal.call_of-requires
call_of-requires g c = line_at plain_item IsPlayable c.args.items.now c.loop-item.item-index c.item-item.result c.loop-item-test.true c.item-item.is c.requires

pub loop-item-preserved : goal.loop-item-preserved
loop-item-preserved g c =
    let items = c.args.items.now in
    let i = c.loop-item.item-index in
    subst (λ (calls : List (Call Empty)). AreCallsOfItems g.F.Read.remaining (plain_items (take (i + 1) items)) calls) (sym c.in_default.ensures.items)
    (calls_kept g.F.Read.remaining items i c.item-item.result c.loop-item.calls.items c.in_ok-call.call c.loop-item-test.true c.item-item.is c.loop-item.invariant c.in_ok-call.ensures.call)
