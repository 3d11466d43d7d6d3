-- The numbers so far, and those of the items that are left, are the numbers of all.
use Rattle.std.proofs.Common.{◌≡◌, ◌++◌, map, drop}
use Rattle.cli_scripts.specs.Items.{number_of}
use Rattle.cli_scripts.specs.Plain.{plain_items}
use Rattle.cli_replay.proofs.calls.numbers_of.Given as goal

abbrev pub invariant-loop-item : goal.invariant-loop-item
invariant-loop-item l = l.numbers.items ++ map number_of (plain_items (drop l.item-index l.items)) ≡ map number_of (plain_items l.items)
