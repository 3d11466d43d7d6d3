use Rattle.std.proofs.Common.{[]}
use Rattle.commit.specs.laws.Apart.{entered_none, entered_more}
use Rattle.commit.proofs.entering.map_of.Goals as goal

pub returns-in-Ok-clause-entered : goal.returns-in-Ok-clause-entered
returns-in-Ok-clause-entered c = entered_more c.args.sectors _ _ [] c.args.text (entered_none c.args.sectors _ c.new-map.ensures) c.in-Ok.ensures.fits.1 c.in-Ok.ensures.changes
