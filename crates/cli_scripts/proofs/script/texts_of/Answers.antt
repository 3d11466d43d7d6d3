use Rattle.facts.specs.laws.Lists.{drop-item}
use Rattle.cli_scripts.proofs.Lines.{texts_kept}
use Rattle.cli_scripts.proofs.script.texts_of.Goals as goal

pub loop-word-preserved : goal.loop-word-preserved
loop-word-preserved c =
    let words = c.args.words.now in
    let i = c.loop-word.word-index in
    let item = c.word-item.result in
    texts_kept words i item c.loop-word.texts.items c.push.new.self.items c.as_str.result (drop-item words i item c.loop-word-test.true c.word-item.is) c.as_str.ensures.value c.in_ok-push.ensures.items
    c.loop-word.invariant
