-- The lines so far, and those of the digests that are left, are the lines of all.
use Rattle.std.proofs.Common.{◌≡◌, ◌++◌, drop, string_bytes}
use Rattle.cli_commands.specs.Archives.{digests_text}
use Rattle.cli_commands.proofs.archives.lines_of_digests.Given as goal

abbrev pub invariant-loop-digest : goal.invariant-loop-digest
invariant-loop-digest l = string_bytes l.text ++ digests_text (drop l.digest-index l.digests) ≡ digests_text l.digests
