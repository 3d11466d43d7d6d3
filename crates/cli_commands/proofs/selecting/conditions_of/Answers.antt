use Rattle.std.proofs.Common.{◌≡◌, ◌∙◌, [], ◌∷◌, ◌++◌, map, rules}
use Rattle.std.proofs.lemmas.List.{map-append}
use Rattle.query.specs.View.{condition_in}
use Rattle.cli_commands.proofs.ConditionLemmas.{condition_more, conditions_end}
use Rattle.cli_commands.proofs.selecting.conditions_of.Goals as goal

pub loop-text-preserved : goal.loop-text-preserved
loop-text-preserved c =
    let so = c.loop-text.conditions.items in
    let condition = c.in_ok-condition.condition in
    let pushed : c.push.new.self.items ≡ so ++ condition ∷ [] = search rules in
    rw (pushed, map-append condition_in so (condition ∷ []))
    (c.loop-text.invariant ∙ condition_more c.args.texts.now c.loop-text.text-index _ (map condition_in so) (condition_in condition) c.loop-text-test.true c.in_ok-condition.ensures.ok)

pub returns-clause-ok : goal.returns-clause-ok
returns-clause-ok c = c.loop-text.invariant ∙ conditions_end c.args.texts.now c.loop-text.text-index (map condition_in c.loop-text.conditions.items) c.loop-text-test.false
