use Rattle.std.proofs.Common.{◌∙◌, sym}
use Rattle.text_columns.proofs.LexemeGrammar.{spaces_more}
use Rattle.text_columns.proofs.lexemes.skip_spaces.Goals as goal

pub loop-i-preserved : goal.loop-i-preserved
loop-i-preserved c = spaces_more c.args.line.now c.loop-i.i c.loop-i-test.true (sym c.is_space.ensures ∙ c.if-not-is_space.false) ∙ c.loop-i.invariant
