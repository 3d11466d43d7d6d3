use Rattle.std.proofs.Common.{◌≡◌, ◌++◌, ◌∷◌, ◌+◌, ◌∙◌, List, [], map, take, ap, sym, subst, arith}
use Rattle.std.proofs.lemmas.List.{map-append, take_more, take_all}
use Rattle.tables.specs.Commands.{PlainCommand, EachBringsTables, BringsTables, commands_of}
use Rattle.tables.specs.View.{command_of}
use Rattle.tables.specs.declared.command.Command.{Command}
use Rattle.tables.specs.laws.Stay.{each_more}
use Rattle.tables.proofs.laws.lists_bring_tables.Goals as goal

pub loop-command-preserved : goal.loop-command-preserved
loop-command-preserved c =
    let items = c.args.commands.now in
    let i = c.loop-command.command-index in
    let x = c.command-item.result in
    let grown : map command_of (take (i + 1) items) ≡ map command_of (take i items) ++ command_of x ∷ [] =
    ap (map command_of) (take_more items i x c.loop-command-test.true ∙ ap (λ (y : Command). take i items ++ y ∷ []) (sym c.command-item.is)) ∙ map-append command_of (take i items) (x ∷ []) in
    record { so_far = subst (λ (cs : List PlainCommand). EachBringsTables (commands_of cs)) (sym grown) (each_more (map command_of (take i items)) (command_of x) c.loop-command.invariant.so_far c.commands_bring_tables.ensures) }

pub returns : goal.returns
returns c =
    subst (λ (cs : List Command). EachBringsTables (commands_of (map command_of cs))) (take_all c.loop-command.command-index c.args.commands.now (omega (arith, c.loop-command-test.false))) c.loop-command.invariant.so_far
