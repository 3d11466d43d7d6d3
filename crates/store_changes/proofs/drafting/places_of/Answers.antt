use Rattle.std.specs.Prelude.{get_or}
use Rattle.std.proofs.Common.{◌+◌, ◌++◌, ◌∷◌, [], List, ℕ, take, sym, subst}
use Rattle.std.proofs.lemmas.List.{take_more}
use Rattle.catalogue.specs.declared.entry.Segment.{Segment}
use Rattle.store_changes.specs.Draft.{ArePlaces}
use Rattle.store_changes.specs.laws.ReadTables.{no_segment}
use Rattle.store_changes.proofs.Drafts.{one_place_more}
use Rattle.store_changes.proofs.drafting.places_of.Goals as goal

pub loop-segment-preserved : goal.loop-segment-preserved
loop-segment-preserved c =
    let starts = c.args.starts.now in
    let segments = c.args.segments.now in
    let i = c.loop-segment.segment-index in
    let places = c.loop-segment.places.items in
    let p = c.place_of.result in
    record {
      are = subst (λ (ns : List ℕ). ArePlaces starts (take (i + 1) segments) ns) (sym c.in_ok-push.ensures.items)
          (subst (λ (gs : List Segment). ArePlaces starts gs (places ++ p ∷ [])) (sym (take_more segments i no_segment c.loop-segment-test.true))
          (one_place_more starts (take i segments) places (get_or segments i no_segment) p c.loop-segment.invariant.are c.place_of.ensures));
    }
