use Rattle.std.specs.Vec.Iter.{into_iter_items}
use Rattle.std.proofs.Common.{◌≡◌, ◌++◌, length}
use Rattle.store.specs.Transactions.{IsBegun}
use Rattle.test_store.proofs.transactions.add_all.Given as goal

-- a transaction was begun, and its store was only read since then
abbrev pub invariant-loop-command : goal.invariant-loop-command
invariant-loop-command g l = let D = g.D.SectorDevice in record {
  next : (goal.iterator-loop-command g).can_next l.command-iterator;
  ends : (goal.iterator-loop-command g).is_finite l.command-iterator;
  begun : IsBegun D.size D.story D.failed D.tells l.store l.transaction;
  place : l.place ≡ length l.yielded;
  parts : l.yielded ++ into_iter_items l.command-iterator ≡ l.fn.commands.items;
}
