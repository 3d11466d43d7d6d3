use Rattle.std.proofs.Common.{◌≡◌, ◌<◌, ◌+◌, ◌∙◌, ℕ, List, length, get_or, take, sym, subst}
use Rattle.std.specs.List.{sum_by}
use Rattle.std.proofs.lemmas.List.Sums.{sum_by_more}
use Rattle.catalogue.specs.declared.entry.Segment.{Segment}
use Rattle.catalogue.specs.Entries.{plain_entry}
use Rattle.catalogue.proofs.entry.TableEntry.rows.Goals as goal

-- the rows so far, and those of the next segment
more_rows : (ss seen : List Segment) (i rows : ℕ) (d : Segment) → seen ≡ ss → i < length seen → rows ≡ sum_by (λ (s : Segment). s.rows) (take i ss) → rows + (get_or seen i d).rows ≡ sum_by (λ (s : Segment). s.rows) (take (i + 1) ss)
more_rows ss seen i rows d same lt so_far =
    (λ k. so_far k + (get_or (same k) i d).rows) ∙ sym (sum_by_more (λ (s : Segment). s.rows) ss i d (subst (λ (xs : List Segment). i < length xs) same lt))

pub loop-segment-preserved : goal.loop-segment-preserved
loop-segment-preserved c =
    more_rows (plain_entry c.args.self.now).segments c.segments-segment-items.result.now c.loop-segment.segment-index c.loop-segment.rows _ c.segments-segment-items.ensures c.loop-segment-test.true c.loop-segment.invariant
