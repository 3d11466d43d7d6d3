use Rattle.columns.specs.Offsets.{width_of}
use Rattle.columns.specs.View.{view_array}
use Rattle.arrays.proofs.TextSpans.{none_is_other}
use Rattle.arrays.proofs.visible.texts.is_one_short_text.Goals as goal

pub returns-then-spanned-count : goal.returns-then-spanned-count
returns-then-spanned-count c = λ h. none_is_other (width_of c.args.width) (view_array c.args.view) c.args.from c.args.count (c.is_one_text.ensures h)
