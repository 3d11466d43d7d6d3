use Rattle.std.proofs.Common.{take}
use Rattle.cli_scripts.specs.Plain.{plain_items}
use Rattle.cli_replay.specs.Replay.{AreCallsOfItems}
use Rattle.cli_replay.proofs.calls.calls_of.Given as goal

abbrev pub invariant-loop-item : goal.invariant-loop-item
invariant-loop-item g l = AreCallsOfItems g.F.Read.remaining (plain_items (take l.item-index l.items)) l.calls.items
