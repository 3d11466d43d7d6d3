use Rattle.std.specs.Vec.Iter.{into_iter_items}
use Rattle.std.proofs.Common.{◌≡◌, ◌++◌, map, length}
use Rattle.tables.specs.View.{command_of}
use Rattle.store.specs.Transactions.{Drafts}
use Rattle.store.proofs.store.Store.apply_all.Given as goal

-- the commands so far were accepted one after another
abbrev pub invariant-loop-command : goal.invariant-loop-command
invariant-loop-command g l = let D = g.D.SectorDevice in record {
  next : (goal.iterator-loop-command g).can_next l.command-iterator;
  ends : (goal.iterator-loop-command g).is_finite l.command-iterator;
  drafts : Drafts D.size D.story D.failed D.tells l.fn.self l.self l.transaction (map command_of l.yielded);
  place : l.place ≡ length l.yielded;
  parts : l.yielded ++ into_iter_items l.command-iterator ≡ l.fn.commands.items;
}
