use Rattle.std.specs.Vec.Iter.{into_iter_items}
use Rattle.std.proofs.Common.{◌++◌, ◌∷◌, [], ◌∙◌, List, length, sym, ap, arith, append_assoc}
use Rattle.std.proofs.lemmas.List.{length-append, length_push}
use Rattle.tables.specs.declared.command.Command.{Command}
use Rattle.tables.specs.View.{command_of}
use Rattle.test_store.proofs.transactions.add_all.Goals as goal

pub loop-command-init : goal.loop-command-init
loop-command-init g c = record {
  next = tt;
  ends = tt;
  begun = record { first = c.args.store.now; commands = []; drafts = c.in-Ok.ensures.drafts };
  place = omega arith;
  parts = c.into_iter-command-iterator.ensures.into_iter_gives.0;
}

pub overflow_add-place : goal.overflow_add-place
overflow_add-place g c =
    let here = c.loop-command.invariant.place in
    let front = c.loop-command.yielded in
    let rest = into_iter_items c.next.new.self in
    let parts = ap (λ (cs : List Command). front ++ cs) (sym c.in-Some.ensures.steps.0) ∙ c.loop-command.invariant.parts in
    let sum = length-append front (c.in-Some.command ∷ rest) in
    let same = ap (λ (cs : List Command). length cs) parts in
    let count = c.args.commands.ok.0 in
    let most = c.args.commands.ok.1 in
    let small = c.args.commands.small in
    omega (arith, here, sum, same, count, most, small)

pub loop-command-preserved : goal.loop-command-preserved
loop-command-preserved g c =
    let was = c.loop-command.invariant in
    let so_far = c.loop-command.yielded in
    let command = c.in-Some.command in
    record {
      next = tt;
      ends = tt;
      begun = record {
        first = was.begun.first;
        commands = was.begun.commands ++ command_of command ∷ [];
        drafts = c.in-Ok-add.ensures.drafts was.begun.first was.begun.commands was.begun.drafts;
      };
      place = let here = was.place in let more = length_push so_far command in omega (arith, here, more);
      parts = append_assoc so_far (command ∷ []) (into_iter_items c.next.new.self) ∙ ap (λ (cs : List Command). so_far ++ cs) (sym c.in-Some.ensures.steps.0) ∙ was.parts;
    }
