use Rattle.std.specs.Vec.Iter.{into_iter_items}
use Rattle.std.proofs.Common.{◌≡◌, ◌++◌, length}
use Rattle.cli_commands.proofs.ListLemmas.{HasLines}
use Rattle.cli_commands.proofs.applying.apply_listed.Given as goal

-- the commands that were accepted so far are those of the lines so far
abbrev pub invariant-loop-command : goal.invariant-loop-command
invariant-loop-command g l = let D = g.D.SectorDevice in record {
  next : (goal.iterator-loop-command g).can_next l.command-iterator;
  ends : (goal.iterator-loop-command g).is_finite l.command-iterator;
  has : HasLines D.size D.story D.failed D.tells l.fn.store l.store l.transaction l.yielded;
  number : l.number ≡ length l.yielded;
  parts : l.yielded ++ into_iter_items l.command-iterator ≡ l.fn.commands.items;
}
