-- The catalogue that a change makes: where its runs come from, and that it may be kept so.
use Rattle.std.specs.Prelude.{◌≡◌, ◌≤◌, ◌<◌, ◌+◌, ◌^◌, ◌&&◌, ◌||◌, ℕ, Bool, true, false, not, List, [], ◌∷◌, ◌++◌, length, map, flat_map, if◌then◌else◌, refl}
use Rattle.std.specs.List.{list_all}
use Rattle.std.proofs.Common.{sym, ap, ◌∙◌, subst, arith}
use Rattle.std.proofs.lemmas.List.{length-map, length-append}
use Rattle.segments.specs.declared.run.Run.{Run}
use Rattle.segments.specs.Sectors.{sector_count}
use Rattle.segments.specs.Usages.{Space, IsUsedIn}
use Rattle.segments.specs.laws.Usages.{among_both}
use Rattle.segments.specs.Pieces.{PlainPiece}
use Rattle.segments.specs.Writing.{runs_of}
use Rattle.catalogue.specs.declared.limits.TheConstants.{MAX_SEGMENTS}
use Rattle.catalogue.specs.declared.entry.Segment.{Segment}
use Rattle.catalogue.specs.Entries.{PlainEntry, PlainCatalogue, page_runs, is_segment, IsCatalogue, segment_count}
use Rattle.catalogue.specs.Entries as entries
use Rattle.catalogue.specs.laws.Shapes.{shapes}
use Rattle.commit.specs.declared.sector.FormatVersion.{FormatVersion}
use Rattle.commit.specs.Placing.{is_among, times_among, sectors_of, contents_of}
use Rattle.commit.specs.laws.Taking.{TookAll}
use Rattle.commit.specs.laws.Fit.{times_both, times_some, some_times}
use Rattle.pages.specs.Paging.{is_whole, page_sizes, text_size, ArePageRuns, settled, dropped_pages}
use Rattle.pages.specs.laws.Alike.{sizes_alike, dropped_alike}
use Rattle.pages.specs.laws.Times.{settled_times}
use Rattle.pages.specs.laws.Taken.{AreTaken, took_taken, taken_length, taken_front, taken_behind, are_page_runs}
use Rattle.store_runs.specs.Changes.{PlainChange, PlainEdit, IsEdit, IsChange, digest_for, given_up, placed_segments}
use Rattle.store_runs.specs.Carrying.{unplaced, outline, asked_sizes}
use Rattle.store_changes.specs.Prepared.{unpaged, in_runs}
use Rattle.store_changes.specs.laws.ExchangedRuns.{run_of}
use Rattle.store_changes.specs.laws.Segments.{are_streams, placed_number, placed_runs, placed_sound, placed_alike, unplaced_sound, unplaced_number}
use Rattle.store_changes.specs.laws.Edited.{sizes_in, number_alike, edited_shapes, edited_stands, edited_count, edited_times_are, given_up_alike, given_up_times, by_times}
use Rattle.store_changes.specs.laws.EditedEach.{OneSchema, edited_pages, pages_listed}

-- what is given up was named
given_named : (c : PlainCatalogue) (edit : PlainEdit) (streams : List (List ℕ)) (segments : List Segment) (run : Run) → IsEdit c edit streams → is_among (given_up c edit segments) run ≡ true
    → is_among (entries.runs_of c) run ≡ true
given_named c edit streams segments run can is =
    let some = times_some (given_up c edit segments) run is in
    let few = given_up_times c edit streams segments run can in
    some_times (entries.runs_of c) run (omega (arith, some, few))

-- so are the pages that are dropped
dropped_listed : (c : PlainCatalogue) (rs : List Run) (run : Run) → (is_among (flat_map (λ (e : PlainEntry). page_runs e.page) c) run ≡ true → is_among rs run ≡ true) → is_among (dropped_pages c) run ≡ true → is_among rs run ≡ true
dropped_listed c rs run all is = by_whole (is_whole c) is
  where
    by_whole : (t : Bool) → is_among (if t then flat_map (λ (e : PlainEntry). page_runs e.page) c else []) run ≡ true → is_among rs run ≡ true
    by_whole true is = all is
    by_whole false is = absurd (cc is)

-- segments without places, in runs
pub in_runs_are : (v : FormatVersion) (runs : List Run) (streams : List (List ℕ)) (counts : List ℕ) → in_runs runs (unplaced v streams counts) ≡ placed_segments v runs streams counts
in_runs_are v [] streams counts = refl
in_runs_are v (r ∷ rs) [] counts = refl
in_runs_are v (r ∷ rs) (s ∷ ss) [] = refl
in_runs_are v (r ∷ rs) (s ∷ ss) (n ∷ ns) = ap (λ (gs : List Segment). record { place = record { run = r; bytes = length s }; rows = n; digest = digest_for v s } ∷ gs) (in_runs_are v rs ss ns)

module _ (v : FormatVersion) (c : PlainCatalogue) (change : PlainChange) (sound : IsChange c change) where
  -- its outline may stand, where it has few enough segments
  pub outline_stands : IsCatalogue c → segment_count (outline v c change) ≤ MAX_SEGMENTS → IsCatalogue (outline v c change)
  outline_stands stands few =
      edited_stands c change (unplaced v change.streams change.counts) stands sound (unplaced_number v change.streams change.counts sound.each) (unplaced_sound v change.streams change.counts (are_streams change.streams sound.some sound.short) sound.rows) few

  module _ (places : List Run) (many : length places ≡ length change.streams) where
    same_sizes : sizes_in (placed_segments v places change.streams change.counts) ≡ sizes_in (unplaced v change.streams change.counts)
    same_sizes = placed_alike v places change.streams change.counts many sound.each

    same_length : length (placed_segments v places change.streams change.counts) ≡ length (unplaced v change.streams change.counts)
    same_length = number_alike (placed_segments v places change.streams change.counts) (unplaced v change.streams change.counts) same_sizes

    -- it has the shape of the outline
    pub unpaged_shapes : shapes (unpaged v c change places) ≡ shapes (outline v c change)
    unpaged_shapes = edited_shapes c change.edit (placed_segments v places change.streams change.counts) (unplaced v change.streams change.counts) same_sizes

    -- each new segment may stand, and the catalogue with them
    pub segments_sound : (size : ℕ) → size < 2 ^ 64 → AreTaken size (map sectors_of change.streams) places → list_all is_segment (placed_segments v places change.streams change.counts) ≡ true
    segments_sound size low taken = placed_sound v size places change.streams change.counts low taken (are_streams change.streams sound.some sound.short) sound.rows

    pub unpaged_stands : (size : ℕ) → IsCatalogue c → segment_count (outline v c change) ≤ MAX_SEGMENTS → size < 2 ^ 64 → AreTaken size (map sectors_of change.streams) places → IsCatalogue (unpaged v c change places)
    unpaged_stands size stands few low taken =
        edited_stands c change (placed_segments v places change.streams change.counts) stands sound (placed_number v places change.streams change.counts many sound.each) (segments_sound size low taken)
        (let e = edited_count c change.edit (placed_segments v places change.streams change.counts) (unplaced v change.streams change.counts) same_sizes in omega (arith, e, few))

    -- ---- its runs

    module _ (pages : List Run) (are : ArePageRuns (unpaged v c change places) pages) where
      abbrev made : PlainCatalogue
      made = settled (unpaged v c change places) pages

      abbrev gone : List Run
      gone = given_up c change.edit (unplaced v change.streams change.counts) ++ dropped_pages (outline v c change)

      -- as often as before and among those that were taken, but for those that go
      pub made_times : (run : Run) → IsCatalogue c
          → times_among (entries.runs_of (settled (unpaged v c change places) pages)) run + times_among (given_up c change.edit (unplaced v change.streams change.counts) ++ dropped_pages (outline v c change)) run
          ≡ times_among (entries.runs_of c) run + times_among (places ++ pages) run
      made_times run stands =
          let segments = placed_segments v places change.streams change.counts in
          let given = given_up c change.edit (unplaced v change.streams change.counts) in
          let dropped = dropped_pages (outline v c change) in
          let edited_is = edited_times_are c change.edit change.streams segments run stands sound.edit (placed_number v places change.streams change.counts many sound.each) in
          let placed_are : times_among (map run_of segments) run ≡ times_among places run = ap (λ (rs : List Run). times_among rs run) (placed_runs v places change.streams change.counts many sound.each) in
          let given_is : times_among (given_up c change.edit segments) run ≡ times_among given run = ap (λ (rs : List Run). times_among rs run) (given_up_alike c change.edit segments (unplaced v change.streams change.counts) same_length) in
          let dropped_is : times_among (dropped_pages (unpaged v c change places)) run ≡ times_among dropped run = ap (λ (rs : List Run). times_among rs run) (dropped_alike (unpaged v c change places) (outline v c change) unpaged_shapes) in
          omega (arith, edited_is, placed_are, given_is, dropped_is, settled_times run (unpaged v c change places) pages are, times_both given dropped run, times_both places pages run)

      -- what goes was named
      pub gone_named : OneSchema → (run : Run) → IsCatalogue c → is_among (given_up c change.edit (unplaced v change.streams change.counts) ++ dropped_pages (outline v c change)) run ≡ true → is_among (entries.runs_of c) run ≡ true
      gone_named one run stands is =
          by_test (is_among (given_up c change.edit (unplaced v change.streams change.counts)) run) refl (sym (among_both (given_up c change.edit (unplaced v change.streams change.counts)) (dropped_pages (outline v c change)) run) ∙ is)
        where
          by_test : (t : Bool) → is_among (given_up c change.edit (unplaced v change.streams change.counts)) run ≡ t
              → (is_among (given_up c change.edit (unplaced v change.streams change.counts)) run || is_among (dropped_pages (outline v c change)) run) ≡ true → is_among (entries.runs_of c) run ≡ true
          by_test true here or = given_named c change.edit change.streams (unplaced v change.streams change.counts) run sound.edit here
          by_test false here or =
              dropped_listed (outline v c change) (entries.runs_of c) run
              (λ among. pages_listed (outline v c change) (entries.runs_of c) run (edited_pages one c change.edit change.streams (unplaced v change.streams change.counts) stands sound.edit) among)
              (ap (λ (t : Bool). t || is_among (dropped_pages (outline v c change)) run) (sym here) ∙ or)

      pub made_among : OneSchema → (run : Run) → IsCatalogue c → times_among (entries.runs_of c) run ≤ 1 → (is_among (places ++ pages) run ≡ true → is_among (entries.runs_of c) run ≡ false)
          → is_among (entries.runs_of (settled (unpaged v c change places) pages)) run
          ≡ ((is_among (entries.runs_of c) run && not (is_among (given_up c change.edit (unplaced v change.streams change.counts) ++ dropped_pages (outline v c change)) run)) || is_among (places ++ pages) run)
      made_among one run stands once other =
          by_times (entries.runs_of (settled (unpaged v c change places) pages)) (given_up c change.edit (unplaced v change.streams change.counts) ++ dropped_pages (outline v c change)) (entries.runs_of c) (places ++ pages) run
          (made_times run stands) (gone_named one run stands) once other

-- ---- runs that were taken for it

module _ (v : FormatVersion) (old new : Space) (c : PlainCatalogue) (change : PlainChange) (sound : IsChange c change) (pieces : List PlainPiece) (pages : List Run) (text : Run)
    (took : TookAll old new (asked_sizes v c change) ((runs_of pieces ++ pages) ++ text ∷ [])) (streams : contents_of pieces ≡ change.streams) where
  pub as_many : length (runs_of pieces) ≡ length change.streams
  as_many = length-map pieces (λ (x : PlainPiece). x.run) ∙ sym (length-map pieces (λ (x : PlainPiece). x.bytes)) ∙ ap (λ (xs : List (List ℕ)). length xs) streams

  as_many_sizes : length (runs_of pieces) ≡ length (map sectors_of change.streams)
  as_many_sizes = as_many ∙ sym (length-map change.streams sectors_of)

  before_text : AreTaken old.size (map sectors_of change.streams ++ map sector_count (page_sizes (outline v c change))) (runs_of pieces ++ pages)
  before_text =
      let counts = map sectors_of change.streams ++ map sector_count (page_sizes (outline v c change)) in
      let last = sector_count (text_size (outline v c change)) in
      let all = took_taken old.size (IsUsedIn old.entries) (counts ++ last ∷ []) ((runs_of pieces ++ pages) ++ text ∷ []) took.took in
      let number = taken_length old.size (counts ++ last ∷ []) ((runs_of pieces ++ pages) ++ text ∷ []) all in
      taken_front old.size counts (last ∷ []) (runs_of pieces ++ pages) (text ∷ []) (omega (arith, number, length-append counts (last ∷ []), length-append (runs_of pieces ++ pages) (text ∷ []))) all

  pub taken_streams : AreTaken old.size (map sectors_of change.streams) (runs_of pieces)
  taken_streams = taken_front old.size (map sectors_of change.streams) (map sector_count (page_sizes (outline v c change))) (runs_of pieces) pages as_many_sizes before_text

  taken_pages : AreTaken old.size (map sector_count (page_sizes (outline v c change))) pages
  taken_pages = taken_behind old.size (map sectors_of change.streams) (map sector_count (page_sizes (outline v c change))) (runs_of pieces) pages as_many_sizes before_text

  pub taken_own_pages : AreTaken old.size (map sector_count (page_sizes (unpaged v c change (runs_of pieces)))) pages
  taken_own_pages =
      subst (λ (ns : List ℕ). AreTaken old.size (map sector_count ns) pages) (sym (sizes_alike (unpaged v c change (runs_of pieces)) (outline v c change) (unpaged_shapes v c change sound (runs_of pieces) as_many))) taken_pages

  pub page_runs_are : old.size ≤ 4194304 → ArePageRuns (unpaged v c change (runs_of pieces)) pages
  page_runs_are most = are_page_runs old.size most (unpaged v c change (runs_of pieces)) pages taken_own_pages
