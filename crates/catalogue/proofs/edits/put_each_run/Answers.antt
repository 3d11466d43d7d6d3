use Rattle.std.proofs.Common.{◌≡◌, ◌<◌, ◌+◌, ◌++◌, ◌∙◌, ℕ, List, [], ◌∷◌, length, get_or, take, map, ap, arith}
use Rattle.std.proofs.lemmas.List.{map-append, take_more, take_all}
use Rattle.catalogue.specs.declared.entry.Segment.{Segment}
use Rattle.catalogue.proofs.Rows.{next_put}
use Rattle.catalogue.proofs.edits.put_each_run.Goals as goal

-- the runs so far, and that of the next segment
more_runs : (ss : List Segment) (i : ℕ) (d : Segment) → i < length ss
    → map (λ (s : Segment). s.place.run) (take (i + 1) ss) ≡ map (λ (s : Segment). s.place.run) (take i ss) ++ (get_or ss i d).place.run ∷ []
more_runs ss i d lt = ap (map (λ (s : Segment). s.place.run)) (take_more ss i d lt) ∙ map-append (λ (s : Segment). s.place.run) (take i ss) (get_or ss i d ∷ [])

pub push_reserved-requires : goal.push_reserved-requires
push_reserved-requires c = omega (arith, c.loop-segment-test.true, c.loop-segment.invariant.room)

pub loop-segment-preserved : goal.loop-segment-preserved
loop-segment-preserved c = record {
  runs =
      next_put c.args.runs.now.items [] _ _ _ _ _ c.push_reserved.ensures.items c.loop-segment.invariant.runs
      (more_runs c.args.segments.now c.loop-segment.segment-index _ c.loop-segment-test.true);
  room = omega (arith, c.push_reserved.ensures.len, c.push_reserved.ensures.capacity, c.loop-segment.invariant.room, c.loop-segment-test.true);
}

pub returns : goal.returns
returns c =
    c.loop-segment.invariant.runs
    ∙ ap (λ (ss : List Segment). c.args.runs.now.items ++ map (λ (s : Segment). s.place.run) ss) (take_all c.loop-segment.segment-index c.args.segments.now (omega arith))
