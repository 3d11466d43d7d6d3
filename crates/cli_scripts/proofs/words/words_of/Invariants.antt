use Rattle.std.proofs.Common.{Some, length, map}
use Rattle.std.specs.Prelude.{string_bytes}
use denote.Shadow.{shadow}
use denote.Text.{Utf8}
use Rattle.cli_scripts.proofs.Reading.{HasRead}
use Rattle.cli_scripts.proofs.words.words_of.Given as goal

abbrev pub invariant-words : goal.invariant-words
invariant-words l = record { read : HasRead l.text (map string_bytes l.words.items) (Some l.rest); utf8 : shadow (Utf8 l.rest) }

abbrev pub decreases-words : goal.decreases-words
decreases-words l = length l.rest
