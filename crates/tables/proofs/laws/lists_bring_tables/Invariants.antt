use Rattle.std.proofs.Common.{map, take}
use Rattle.tables.specs.Commands.{EachBringsTables, commands_of}
use Rattle.tables.specs.View.{command_of}
use Rattle.tables.proofs.laws.lists_bring_tables.Given as goal

-- those so far do
abbrev pub invariant-loop-command : goal.invariant-loop-command
invariant-loop-command l = record { so_far : EachBringsTables (commands_of (map command_of (take l.command-index l.commands))) }
