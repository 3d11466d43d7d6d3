use Rattle.std.proofs.Common.{◌≡◌, ◌++◌, ◌<◌, ◌^◌, drop, map}
use Rattle.commit.specs.declared.sector.FormatVersion.TheVariants.{One}
use Rattle.store_runs.specs.Changes.{placed_segments}
use Rattle.store_changes.specs.Draft.{end_of, starts_from, places_from}
use Rattle.store_changes.proofs.drafting.place_streams.Given as goal

-- what is made of the streams so far and what is left to make is all
abbrev pub invariant-loop-place : goal.invariant-loop-place
invariant-loop-place l = record {
  segments : l.segments.items ++ placed_segments One (places_from l.next (map (λ s. s.items) (drop l.place l.streams))) (map (λ s. s.items) (drop l.place l.streams)) (drop l.place l.rows)
      ≡ placed_segments One (places_from l.from (map (λ s. s.items) l.streams)) (map (λ s. s.items) l.streams) l.rows;
  starts : l.starts.items ++ starts_from l.next (map (λ s. s.items) (drop l.place l.streams)) ≡ starts_from l.from (map (λ s. s.items) l.streams);
  next : end_of l.next (map (λ s. s.items) (drop l.place l.streams)) ≡ end_of l.from (map (λ s. s.items) l.streams);
  counted : l.next < 2 ^ 64;
}
