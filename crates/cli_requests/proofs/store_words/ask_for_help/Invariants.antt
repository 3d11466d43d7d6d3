use Rattle.std.proofs.Common.{◌≡◌, map, drop}
use Rattle.std.specs.List.{list_any}
use Rattle.cli_requests.specs.StoreWords.{is_help_word}
use Rattle.cli_requests.proofs.store_words.ask_for_help.Given as goal

abbrev pub invariant-loop-argument : goal.invariant-loop-argument
invariant-loop-argument g l = list_any is_help_word (map g.S.AsStr.text (drop l.argument-index l.arguments)) ≡ list_any is_help_word (map g.S.AsStr.text l.arguments)
