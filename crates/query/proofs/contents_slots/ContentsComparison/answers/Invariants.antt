use Rattle.std.proofs.Common.{◌≡◌, ◌+◌, ◌-◌, map}
use Rattle.std.specs.List.{range_with_len}
use Rattle.std.specs.Simd.Lanes.{mask_l}
use Rattle.query.specs.inner.Contents.{contents_hold_in}
use Rattle.query.proofs.contents_slots.ContentsComparison.answers.Given as goal

abbrev pub invariant-loop-j : goal.invariant-loop-j
invariant-loop-j l = l.answers ≡ mask_l (map (contents_hold_in l.self l.validity l.offsets l.contents) (range_with_len (l.first + l.j) (l.count - l.j)))
