use Rattle.std.proofs.Common.{◌≡◌, drop}
use Rattle.std.specs.List.{list_all}
use Rattle.catalogue.specs.Entries.{is_segment}
use Rattle.catalogue.proofs.entry.are_sound.Given as goal

abbrev pub invariant-loop-segment : goal.invariant-loop-segment
invariant-loop-segment l = list_all is_segment (drop l.segment-index l.segments) ≡ list_all is_segment l.segments
