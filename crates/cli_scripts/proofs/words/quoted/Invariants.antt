use Rattle.std.proofs.Common.{◌≡◌, length}
use Rattle.std.specs.Prelude.{string_bytes}
use denote.Shadow.{shadow}
use denote.Text.{Utf8}
use Rattle.cli_scripts.specs.Words.{quoted}
use Rattle.cli_scripts.proofs.Quoting.{onto}
use Rattle.cli_scripts.proofs.words.quoted.Given as goal

abbrev pub invariant-loop-part : goal.invariant-loop-part
invariant-loop-part l = record { so_far : onto (string_bytes l.word) (quoted l.rest) ≡ quoted l.fn.text; utf8 : shadow (Utf8 l.rest) }

abbrev pub decreases-loop-part : goal.decreases-loop-part
decreases-loop-part l = length l.rest
