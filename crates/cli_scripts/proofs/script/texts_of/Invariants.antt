-- The texts so far, and the words that are left, are all words.
use Rattle.std.proofs.Common.{◌≡◌, ◌++◌, map, drop, string_bytes}
use Rattle.facts.specs.Texts.{text_list}
use Rattle.cli_scripts.proofs.script.texts_of.Given as goal

abbrev pub invariant-loop-word : goal.invariant-loop-word
invariant-loop-word l = text_list l.texts.items ++ map string_bytes (drop l.word-index l.words) ≡ map string_bytes l.words
