-- The conditions so far, with those of the texts that are left, are those of all texts.
use Rattle.std.proofs.Common.{◌≡◌, ◌++◌, map, drop}
use Rattle.std.specs.Prelude.{option_map}
use Rattle.query.specs.View.{condition_in}
use Rattle.cli_commands.specs.Selecting.{conditions_of}
use Rattle.cli_commands.proofs.selecting.conditions_of.Given as goal

abbrev pub invariant-loop-text : goal.invariant-loop-text
invariant-loop-text l =
    conditions_of (map (λ t. t.now) l.texts) ≡ option_map (λ cs. map condition_in l.conditions.items ++ cs) (conditions_of (map (λ t. t.now) (drop l.text-index l.texts)))
