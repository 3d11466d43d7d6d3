use Rattle.std.proofs.Common.{List, take, ◌+◌, sym, subst}
use Rattle.tables.specs.declared.command.Command.{Command}
use Rattle.cli_scripts.specs.Plain.{plain_line, plain_lines}
use Rattle.cli_replay.specs.Listed.{IsKnownChange}
use Rattle.cli_replay.specs.Replay.{AreCommandsOfLines}
use Rattle.cli_replay.proofs.Changes.{commands_kept, line_at}
use Rattle.cli_replay.proofs.commands.commands_of.Goals as goal

pub command_of-requires : goal.command_of-requires
command_of-requires g c = line_at plain_line IsKnownChange c.args.lines.now c.loop-line.line-index c.line-item.result c.loop-line-test.true c.line-item.is c.requires

pub loop-line-preserved : goal.loop-line-preserved
loop-line-preserved g c =
    let lines = c.args.lines.now in
    let i = c.loop-line.line-index in
    subst (λ (commands : List Command). AreCommandsOfLines g.F.Read.remaining (plain_lines (take (i + 1) lines)) commands) (sym c.in_default.ensures.items)
    (commands_kept g.F.Read.remaining lines i c.line-item.result c.loop-line.commands.items c.in_ok-command.command c.loop-line-test.true c.line-item.is c.loop-line.invariant
    c.in_ok-command.ensures.command)
