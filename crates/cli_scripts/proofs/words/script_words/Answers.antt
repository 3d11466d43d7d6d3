use Rattle.std.proofs.Common.{◌+◌, List, Option, String, take, map, sym, subst}
use Rattle.std.specs.Global.{Global, Vec}
use Rattle.facts.specs.Texts.{text_list}
use Rattle.cli_scripts.specs.Plain.{plain_words}
use Rattle.cli_scripts.specs.Words.{HaveWords}
use Rattle.cli_scripts.proofs.Lines.{words_kept}
use Rattle.cli_scripts.proofs.words.script_words.Goals as goal

pub loop-line-preserved : goal.loop-line-preserved
loop-line-preserved c =
    let lines = c.deref-line-items.result.now in
    subst (λ (words : List (Option (Vec (String Global)))). HaveWords (take (c.loop-line.line-index + 1) (text_list lines)) (map plain_words words)) (sym c.in_ok-push.ensures.items)
    (words_kept lines c.loop-line.line-index _ c.loop-line.words.items c.in_ok-words_of_line.field-0 c.loop-line-test.true c.loop-line.invariant c.in_ok-words_of_line.ensures)
