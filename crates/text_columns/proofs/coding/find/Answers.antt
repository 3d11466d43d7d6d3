use Rattle.std.proofs.Common.{◌∙◌}
use Rattle.text_columns.proofs.Coded.{key_place}
use Rattle.text_columns.proofs.coding.find.Goals as goal

pub returns : goal.returns
returns c = c.get_index_of.ensures.index ∙ key_place c.args.key.now c.args.keys.now.keys
