use Rattle.std.proofs.Common.{◌≡◌, take}
use Rattle.std.specs.List.{sum_by}
use Rattle.catalogue.specs.declared.entry.Segment.{Segment}
use Rattle.catalogue.specs.Entries.{plain_entry}
use Rattle.catalogue.proofs.entry.TableEntry.rows.Given as goal

abbrev pub invariant-loop-segment : goal.invariant-loop-segment
invariant-loop-segment l = l.rows ≡ sum_by (λ (s : Segment). s.rows) (take l.segment-index (plain_entry l.self).segments)
