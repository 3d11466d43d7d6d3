use Rattle.std.proofs.Common.{◌∙◌}
use Rattle.columns.proofs.view.ArrayView.items_or.Goals as goal

pub returns-in-None : goal.returns-in-None
returns-in-None c = c.with.ensures ∙ (c.requires c.args.self.bytes.now c.args.self.dictionaries.now ∙ c.in-None.ensures)
