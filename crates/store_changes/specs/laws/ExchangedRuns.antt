-- What an exchange of segments makes of a catalogue: its runs and its numbers.
use Rattle.std.specs.Prelude.{◌≡◌, ◌+◌, ◌++◌, ℕ, List, [], ◌∷◌, length, map, take, drop, sum_by, Some, refl}
use Rattle.std.proofs.Common.{inl, ap, ◌∙◌, arith}
use Rattle.std.proofs.lemmas.List.{length-append, map-append}
use Rattle.std.proofs.lemmas.List.Sums.{sum_by-cons}
use Rattle.segments.specs.declared.run.Run.{Run}
use Rattle.catalogue.specs.declared.entry.Segment.{Segment}
use Rattle.catalogue.specs.Entries.{PlainEntry, PlainCatalogue, page_runs, runs_in, runs_of, segment_count}
use Rattle.catalogue.specs.Edits.{entry_of, with_segments, from_place, with_others, with_exchanged}
use Rattle.catalogue.specs.laws.Sums.{refilled_sum, segments_in}
use Rattle.catalogue.specs.laws.Changed.{parted, exchanged_is}
use Rattle.commit.specs.Placing.{times_among}
use Rattle.commit.specs.laws.Fit.{times_both}
use Rattle.store_changes.specs.Exchanging.{Shrinks}

abbrev pub run_of : Segment → Run
run_of s = s.place.run

module _ (c : PlainCatalogue) (name : List ℕ) (e : PlainEntry) (found : entry_of c name ≡ Some e) (place count : ℕ) where
  -- as many runs, but for those that are given up
  module _ (run : Run) where
    abbrev times_at : List Segment → ℕ
    times_at ss = times_among (map run_of ss) run

    times_in : PlainEntry → ℕ
    times_in x = times_among (runs_in x) run

    times_of : (d : PlainCatalogue) → times_among (runs_of d) run ≡ sum_by times_in d
    unfolding times_in
    times_of [] = refl
    times_of (x ∷ xs) = omega (arith, times_of xs, times_both (runs_in x) (runs_of xs) run, sum_by-cons times_in x xs)

    both_times : (a b : List Segment) → times_at (a ++ b) ≡ times_at a + times_at b
    both_times a b = ap (λ (rs : List Run). times_among rs run) (map-append run_of a b) ∙ times_both (map run_of a) (map run_of b) run

    three_times : (a b d : List Segment) → times_at (a ++ (b ++ d)) ≡ times_at a + times_at b + times_at d
    three_times a b d = omega (arith, both_times a (b ++ d), both_times b d)

    stood_times : times_at e.segments ≡ times_at (take place e.segments) + times_at (from_place e.segments place count) + times_at (drop count (drop place e.segments))
    stood_times = ap times_at (parted e.segments place count) ∙ three_times (take place e.segments) (from_place e.segments place count) (drop count (drop place e.segments))

    -- those that it gives up: its page's and those of the segments that go
    given_times : times_among (page_runs e.page ++ map run_of (from_place e.segments place count)) run ≡ times_among (page_runs e.page) run + times_at (from_place e.segments place count)
    given_times = times_both (page_runs e.page) (map run_of (from_place e.segments place count)) run

    whole_times : times_in e ≡ times_among (page_runs e.page) run + times_at e.segments
    unfolding times_in
    whole_times = times_both (page_runs e.page) (map run_of e.segments) run

    pub exchanged_times : (others : List Segment)
        → times_among (runs_of (with_exchanged c name place count others)) run + times_among (page_runs e.page ++ map run_of (from_place e.segments place count)) run ≡ times_among (runs_of c) run + times_at others
    unfolding times_in
    exchanged_times others =
        let d = with_segments c name (with_others e.segments place count others) in
        let is : times_among (runs_of (with_exchanged c name place count others)) run ≡ times_among (runs_of d) run = ap (λ (x : PlainCatalogue). times_among (runs_of x) run) (exchanged_is c name e found place count others) in
        omega (
          arith,
          is,
          given_times,
          whole_times,
          stood_times,
          three_times (take place e.segments) others (drop count (drop place e.segments)),
          times_of c,
          times_of d,
          refilled_sum times_in c name e (with_others e.segments place count others) found,
        )

  -- numbers
  length_others : (others : List Segment) → length (with_others e.segments place count others) + length (from_place e.segments place count) ≡ length e.segments + length others
  length_others others =
      let rest = drop count (drop place e.segments) in
      let whole : length e.segments ≡ length (take place e.segments) + (length (from_place e.segments place count) + length rest) =
      ap (λ (ss : List Segment). length ss) (parted e.segments place count) ∙ length-append (take place e.segments) (from_place e.segments place count ++ rest)
      ∙ ap (λ (n : ℕ). length (take place e.segments) + n) (length-append (from_place e.segments place count) rest) in
      omega (arith, whole, length-append (take place e.segments) (others ++ rest), length-append others rest)

  pub exchanged_count : (others : List Segment) → segment_count (with_exchanged c name place count others) + length (from_place e.segments place count) ≡ segment_count c + length others
  exchanged_count others =
      ap (λ (d : PlainCatalogue). segment_count d + length (from_place e.segments place count)) (exchanged_is c name e found place count others)
      ∙ omega (arith, refilled_sum segments_in c name e (with_others e.segments place count others) found, length_others others)

  -- a merge shrinks it
  pub merged_shrinks : (others : List Segment) → length (from_place e.segments place count) ≡ 2 → length others ≡ 1 → Shrinks c (with_exchanged c name place count others)
  merged_shrinks others two one = inl (omega (arith, exchanged_count others, two, one))
