use Rattle.std.proofs.Common.{arith}
use Rattle.columns.specs.Array.{slots_in, items_in}
use Rattle.columns.specs.Offsets.{width_of}
use Rattle.columns.specs.View.{view_array}
use Rattle.columns.specs.laws.Offsets.{spans_fit}
use Rattle.columns.proofs.read.list_at.Goals as goal

pub items_from-requires-clause-within : goal.items_from-requires-clause-within
items_from-requires-clause-within c =
    rw (c.spanned-span.ensures.start, c.spanned-span.ensures.size)
    (spans_fit (width_of c.args.width) (slots_in (items_in (view_array c.args.view))) (view_array c.args.view) c.args.i 1 c.requires.ordered (omega arith) (omega arith))
