use Rattle.std.proofs.Common.{◌≡◌, ◌<◌, ◌+◌, ◌∙◌, ℕ, List, length, get_or, take, sym, ap, arith, take_all}
use Rattle.std.specs.List.{sum_by}
use Rattle.std.proofs.lemmas.List.Sums.{sum_by_more}
use Rattle.catalogue.specs.declared.entry.Segment.{Segment}
use Rattle.store_changes.proofs.lightness.sizes_of.Goals as goal

-- so far, and with the next segment
more : (f : Segment → ℕ) (gs : List Segment) (i n : ℕ) (d : Segment) → i < length gs → n ≡ sum_by f (take i gs) → n + f (get_or gs i d) ≡ sum_by f (take (i + 1) gs)
more f gs i n d lt so_far = (λ k. so_far k + f (get_or gs i d)) ∙ sym (sum_by_more f gs i d lt)

pub loop-segment-preserved : goal.loop-segment-preserved
loop-segment-preserved c =
    let gs = c.args.segments.now in
    let i = c.loop-segment.segment-index in
    record {
      rows = more (λ (g : Segment). g.rows) gs i c.loop-segment.rows _ c.loop-segment-test.true c.loop-segment.invariant.rows;
      bytes = more (λ (g : Segment). g.place.bytes) gs i c.loop-segment.bytes _ c.loop-segment-test.true c.loop-segment.invariant.bytes;
    }

pub returns : goal.returns
returns c =
    let gs = c.args.segments.now in
    let all : take c.loop-segment.segment-index gs ≡ gs = take_all c.loop-segment.segment-index gs (omega (arith, c.loop-segment-test.false)) in (
      c.loop-segment.invariant.rows ∙ ap (sum_by (λ (g : Segment). g.rows)) all,
      c.loop-segment.invariant.bytes ∙ ap (sum_by (λ (g : Segment). g.place.bytes)) all,
    )
