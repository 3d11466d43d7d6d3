use Rattle.std.proofs.Common.{◌≡◌, ◌<◌, ◌+◌, ◌++◌, ◌∙◌, ℕ, List, length, get_or, take, sym, ap, arith}
use Rattle.std.specs.List.{flat_map}
use Rattle.std.proofs.lemmas.List.{append-nil, take_more, take_all}
use Rattle.byteorder.specs.Endian.{little_bytes}
use Rattle.facts.specs.laws.Lists.{flat_map-push}
use Rattle.catalogue.specs.declared.entry.Segment.{Segment}
use Rattle.catalogue.specs.Text.{segment_text}
use Rattle.catalogue.proofs.Rows.{next_put}
use Rattle.catalogue.proofs.encoding.put_segments.Goals as goal

-- the texts so far, and that of the next segment
more_texts : (ss : List Segment) (i : ℕ) (d : Segment) → i < length ss → flat_map segment_text (take (i + 1) ss) ≡ flat_map segment_text (take i ss) ++ segment_text (get_or ss i d)
more_texts ss i d lt = ap (flat_map segment_text) (take_more ss i d lt) ∙ flat_map-push segment_text (take i ss) (get_or ss i d)

pub loop-segment-init : goal.loop-segment-init
loop-segment-init c =
    c.in_ok-put_count.ensures ∙ ap (λ (text : List ℕ). c.args.out.now.items ++ text) (sym (append-nil (little_bytes 4 (length c.args.segments.now))))

pub loop-segment-preserved : goal.loop-segment-preserved
loop-segment-preserved c =
    next_put c.args.out.now.items (little_bytes 4 (length c.args.segments.now)) _ _ _ _ _ c.in_ok-put_segment.ensures c.loop-segment.invariant
    (more_texts c.args.segments.now c.loop-segment.segment-index _ c.loop-segment-test.true)

pub returns : goal.returns
returns c =
    let ss = c.args.segments.now in
    c.loop-segment.invariant
    ∙ ap (λ (seen : List Segment). c.args.out.now.items ++ (little_bytes 4 (length ss) ++ flat_map segment_text seen)) (take_all c.loop-segment.segment-index ss (omega arith))
