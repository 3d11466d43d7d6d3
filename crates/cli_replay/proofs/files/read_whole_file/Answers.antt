use Rattle.std.proofs.Common.{arith}
use Rattle.cli_replay.proofs.Inputs.{whole_front}
use Rattle.cli_replay.proofs.files.read_whole_file.Goals as goal

pub returns-clause-all : goal.returns-clause-all
returns-clause-all g c =
    let bytes = c.in_ok-bytes.bytes in
    let front = c.in_ok-bytes.ensures.front in (
      front.0,
      whole_front 2147483647 (g.F.Read.remaining front.0) bytes.items (omega (arith, bytes.ok.0, c.len.ensures, c.if-len-gt-LARGEST_INPUT.false)) front.1,
    )
