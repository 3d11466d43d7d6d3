use Rattle.std.proofs.Common.{◌≤◌, length, take}
use Rattle.std.specs.Io.KnownBytes.{Appends}
use Rattle.cli_reports.proofs.output.write_bytes.Given as goal

-- the first bytes were written
abbrev pub invariant-loop : goal.invariant-loop
invariant-loop g l =
    let contents = g.W.Write.contents in
    record {
      within : l.written ≤ length l.bytes;
      so_far : Appends (contents l.fn.writer) (contents l.writer) (take l.written l.bytes);
    }
