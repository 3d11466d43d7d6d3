-- The texts so far, and the words that are left, are all of the words.
use Rattle.std.proofs.Common.{◌≡◌, ◌++◌, map, drop, string_bytes}
use Rattle.cli_commands.proofs.selecting.owned.Given as goal

abbrev pub invariant-loop-word : goal.invariant-loop-word
invariant-loop-word l = map string_bytes l.texts.items ++ map (λ t. t.now) (drop l.word-index l.words) ≡ map (λ t. t.now) l.words
