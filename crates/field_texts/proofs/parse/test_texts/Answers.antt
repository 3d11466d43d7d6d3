use Rattle.field_texts.proofs.Parsing.{next_good, good_at}
use Rattle.field_texts.proofs.parse.test_texts.Goals as goal

pub loop-index-preserved : goal.loop-index-preserved
loop-index-preserved c = next_good _ c.loop-index.index c.loop-index.invariant (good_at c.args.texts.now c.loop-index.index _ c.loop-index-test.true c.in_ok-test_text.ensures)
