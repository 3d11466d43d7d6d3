use Rattle.std.proofs.Common.{sym}
use Rattle.columns.specs.Offsets.{width_of}
use Rattle.columns.specs.View.{view_array}
use Rattle.arrays.proofs.TextSpans.{none_is_other}
use Rattle.arrays.proofs.visible.texts.any_not_utf8.Goals as goal

pub returns-then-is_one_text : goal.returns-then-is_one_text
returns-then-is_one_text c = sym (none_is_other (width_of c.args.width) (view_array c.args.view) c.args.from c.args.count (c.is_one_text.ensures c.if-is_one_text.true))
