use Rattle.std.proofs.Common.{◌≡◌, true, take}
use Rattle.arrays.specs.inner.SpanLists.{are_inside}
use Rattle.arrays.proofs.visible.joined_spans.are_inside.Given as goal

-- those so far are parts
abbrev pub invariant-loop-span : goal.invariant-loop-span
invariant-loop-span l = are_inside l.whole (take l.span-index l.spans) ≡ true
