use Rattle.std.proofs.Common.{◌≡◌, ◌-◌}
use Rattle.catalogue.specs.Reading.{many_at, segment_at}
use Rattle.catalogue.proofs.Parts.{with_front}
use Rattle.catalogue.proofs.decoding.segments_at.Given as goal

abbrev pub invariant-loop : goal.invariant-loop
invariant-loop l = with_front l.segments.items (many_at (segment_at l.form) (l.count - l.counter) l.rest) ≡ many_at (segment_at l.form) l.count l.bytes
