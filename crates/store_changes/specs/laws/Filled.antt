-- Laws of a catalogue whose new segments get their places.
use Rattle.std.specs.Prelude.{◌≡◌, ◌≤◌, ◌+◌, ◌-◌, ◌++◌, ◌&&◌, ℕ, Bool, true, false, not, cond, List, [], ◌∷◌, length, map, flat_map, sum_by, take, drop, Option, Some, None, refl}
use Rattle.std.specs.List.{list_all, filter, AllByRecursion}
use Rattle.std.proofs.Common.{sym, ap, ◌∙◌, arith, append-nil, length-take, length-drop, take-append-drop}
use Rattle.std.proofs.lemmas.Bool.{and_parts, and_from}
use Rattle.std.proofs.lemmas.List.{length-append, length-map, map-append, take-map, drop-map}
use Rattle.std.proofs.lemmas.List.Filters.{length-filter_both}
use Rattle.std.proofs.lemmas.List.Folds.{list_all-append}
use Rattle.std.proofs.lemmas.List.Sums.{sum_by-cons}
use Rattle.segments.specs.declared.run.Run.{Run}
use Rattle.segments.specs.declared.extent.Extent.{Extent}
use Rattle.catalogue.specs.declared.limits.TheConstants.{MAX_SEGMENTS}
use Rattle.catalogue.specs.declared.entry.Segment.{Segment}
use Rattle.catalogue.specs.declared.entry.SegmentForm.{SegmentForm}
use Rattle.catalogue.specs.Entries.{PlainEntry, PlainCatalogue, is_segment, is_page, is_entry, names_of, ascends, page_runs, runs_in, runs_of, segment_count, has_digest, has_digests, has_form, IsCatalogue}
use Rattle.catalogue.specs.Edits.{page_behind}
use Rattle.catalogue.specs.Text.{segment_size}
use Rattle.catalogue.specs.laws.Kept.{entry_is, entry_stands}
use Rattle.catalogue.specs.laws.Shapes.{shapes}
use Rattle.commit.specs.Placing.{times_among}
use Rattle.commit.specs.laws.Fit.{times_both}
use Rattle.store_runs.specs.Filling.{has_place, is_new, placed_in, new_in, new_segments, runs_placed_in, runs_placed, entry_filled, filled}
use Rattle.store_changes.specs.laws.ExchangedRuns.{run_of}

-- ---- segments

-- each segment has its place or is new
pub parts_count : (from : ℕ) (ss : List Segment) → length (placed_in from ss) + length (new_in from ss) ≡ length ss
parts_count from ss = length-filter_both (has_place from) (is_new from) (λ s. refl) ss

-- if none is new, all have places
pub all_placed : (from : ℕ) (ss : List Segment) → new_in from ss ≡ [] → placed_in from ss ≡ ss
all_placed from [] none = refl
all_placed from (s ∷ ss) none = by_test (has_place from s) none (all_placed from ss)
  where
    by_test : (b : Bool) → cond (not b) (s ∷ new_in from ss) (new_in from ss) ≡ [] → (new_in from ss ≡ [] → placed_in from ss ≡ ss) → cond b (s ∷ placed_in from ss) (placed_in from ss) ≡ s ∷ ss
    by_test true h later = ap (λ (xs : List Segment). s ∷ xs) (later h)
    by_test false h later = absurd (cc h)

pub all_kept : (p q : Segment → Bool) (ss : List Segment) → list_all p ss ≡ true → list_all p (filter q ss) ≡ true
all_kept p q [] all = refl
all_kept p q (s ∷ ss) all = by_test (q s) (and_parts (p s) (list_all p ss) all).0 (all_kept p q ss (and_parts (p s) (list_all p ss) all).1)
  where
    by_test : (b : Bool) → p s ≡ true → list_all p (filter q ss) ≡ true → list_all p (cond b (s ∷ filter q ss) (filter q ss)) ≡ true
    by_test true own others = and_from (p s) (list_all p (filter q ss)) own others
    by_test false own others = others

front_and_back : (p : Segment → Bool) (n : ℕ) (ss : List Segment) → list_all p ss ≡ true → (list_all p (take n ss) ≡ true) × (list_all p (drop n ss) ≡ true)
front_and_back p n ss all =
    and_parts (list_all p (take n ss)) (list_all p (drop n ss)) (sym (list_all-append p (take n ss) (drop n ss)) ∙ ap (list_all p) (take-append-drop n ss) ∙ all)

both_pass : (p : Segment → Bool) (a b : List Segment) → list_all p a ≡ true → list_all p b ≡ true → list_all p (a ++ b) ≡ true
both_pass p a b one other = list_all-append p a b ∙ and_from (list_all p a) (list_all p b) one other

-- ---- a catalogue

module _ (from : ℕ) where
  pub filled_names : (c : PlainCatalogue) (others : List Segment) → names_of (filled from c others) ≡ names_of c
  unfolding filled
  filled_names [] others = refl
  filled_names (e ∷ es) others = ap (λ (ns : List (List ℕ)). e.name ∷ ns) (filled_names es (drop (length (new_in from e.segments)) others))

  pub filled_length : (c : PlainCatalogue) (others : List Segment) → length (filled from c others) ≡ length c
  filled_length c others =
      sym (length-map (filled from c others) (λ (e : PlainEntry). e.name)) ∙ ap (λ (ns : List (List ℕ)). length ns) (filled_names c others) ∙ length-map c (λ (e : PlainEntry). e.name)

  -- the sizes of its texts do not depend on where its segments lie
  pub filled_shapes : (c : PlainCatalogue) (a b : List Segment) → map segment_size a ≡ map segment_size b → shapes (filled from c a) ≡ shapes (filled from c b)
  unfolding filled
  filled_shapes [] a b same = refl
  filled_shapes (e ∷ es) a b same =
      let k = length (new_in from e.segments) in
      let own = placed_in from e.segments in
      let front : map segment_size (take k a) ≡ map segment_size (take k b) = sym (take-map segment_size k a) ∙ ap (take k) same ∙ take-map segment_size k b in
      let rest : map segment_size (drop k a) ≡ map segment_size (drop k b) = sym (drop-map segment_size k a) ∙ ap (drop k) same ∙ drop-map segment_size k b in
      let sizes : map segment_size (own ++ take k a) ≡ map segment_size (own ++ take k b) =
      map-append segment_size own (take k a) ∙ ap (λ (ns : List ℕ). map segment_size own ++ ns) front ∙ sym (map-append segment_size own (take k b)) in
      let others = filled_shapes es (drop k a) (drop k b) rest in
      λ i. ((e.name, e.schema), (sizes i, page_behind (new_in from e.segments) e.page)) ∷ others i

  -- as many are left for the other tables
  rest_count : (e : PlainEntry) (es : PlainCatalogue) (others : List Segment) → length others ≡ length (new_segments from (e ∷ es))
      → (length (new_in from e.segments) ≤ length others) × (length (drop (length (new_in from e.segments)) others) ≡ length (new_segments from es))
  rest_count e es others same =
      let k = length (new_in from e.segments) in
      let both = length-append (new_in from e.segments) (new_segments from es) in
      let rest = length-drop k others in
      (omega (arith, same, both), omega (arith, same, both, rest))

  -- the runs that it names: those of the segments that have places, of its pages and of the others
  pub filled_times : (run : Run) (c : PlainCatalogue) (others : List Segment) → length others ≡ length (new_segments from c)
      → times_among (runs_of (filled from c others)) run ≡ times_among (runs_placed from c) run + times_among (map run_of others) run
  unfolding filled
  filled_times run [] [] same = omega arith
  filled_times run [] (o ∷ os) same = absurd (omega (arith, same))
  filled_times run (e ∷ es) others same =
      let k = length (new_in from e.segments) in
      let own = placed_in from e.segments in
      let page = page_behind (new_in from e.segments) e.page in
      let front = take k others in
      let rest = drop k others in
      let later = filled_times run es rest (rest_count e es others same).1 in
      let mapped : times_among (map run_of (own ++ front)) run ≡ times_among (map run_of own) run + times_among (map run_of front) run =
      ap (λ (rs : List Run). times_among rs run) (map-append run_of own front) ∙ times_both (map run_of own) (map run_of front) run in
      let all : times_among (map run_of others) run ≡ times_among (map run_of front) run + times_among (map run_of rest) run =
      ap (λ (ss : List Segment). times_among (map run_of ss) run) (sym (take-append-drop k others)) ∙ ap (λ (rs : List Run). times_among rs run) (map-append run_of front rest) ∙ times_both (map run_of front) (map run_of rest) run in
      omega (
        arith,
        later,
        mapped,
        all,
        times_both (page_runs page) (map run_of (own ++ front)) run,
        times_both (runs_in (entry_filled from e others)) (runs_of (filled from es rest)) run,
        times_both (page_runs page) (map run_of own) run,
        times_both (runs_placed_in from e) (runs_placed from es) run,
      )

  pub filled_count : (c : PlainCatalogue) (others : List Segment) → length others ≡ length (new_segments from c) → segment_count (filled from c others) ≡ segment_count c
  unfolding filled
  filled_count [] others same = refl
  filled_count (e ∷ es) others same =
      let k = length (new_in from e.segments) in
      let count : PlainEntry → ℕ = λ (x : PlainEntry). length x.segments in
      let left = rest_count e es others same in
      let within = left.0 in
      omega (
        arith,
        within,
        filled_count es (drop k others) left.1,
        parts_count from e.segments,
        length-append (placed_in from e.segments) (take k others),
        length-take k others,
        sum_by-cons count e es,
        sum_by-cons count (entry_filled from e others) (filled from es (drop k others)),
      )

  stays_page : (ss : List Segment) (page : Option Extent) → is_page page ≡ true → is_page (page_behind ss page) ≡ true
  stays_page [] page is = is
  stays_page (s ∷ ss) page is = refl

  filled_entries : (c : PlainCatalogue) (others : List Segment) → list_all is_entry c ≡ true → list_all is_segment others ≡ true → list_all is_entry (filled from c others) ≡ true
  unfolding filled
  filled_entries [] others all each = refl
  filled_entries (e ∷ es) others all each =
      let parts = and_parts (is_entry e) (list_all is_entry es) all in
      let k = length (new_in from e.segments) in
      let split = front_and_back is_segment k others each in
      let is = entry_is e parts.0 in
      and_from (is_entry (entry_filled from e others)) (list_all is_entry (filled from es (drop k others)))
      (entry_stands (entry_filled from e others) is.name is.schema
      (both_pass is_segment (placed_in from e.segments) (take k others) (all_kept is_segment (has_place from) e.segments is.segments) split.0)
      (stays_page (new_in from e.segments) e.page is.page)) (filled_entries es (drop k others) parts.1 split.1)

  pub filled_stands : (c : PlainCatalogue) (others : List Segment) → IsCatalogue c → list_all is_segment others ≡ true → length others ≡ length (new_segments from c) → IsCatalogue (filled from c others)
  filled_stands c others k each same =
      let tables = k.tables in
      let segments = k.segments in
      record {
        entries = filled_entries c others k.entries each;
        order = ap ascends (filled_names c others) ∙ k.order;
        tables = omega (arith, tables, filled_length c others);
        segments = omega (arith, segments, filled_count c others same);
      }

  pub filled_form : (form : SegmentForm) (c : PlainCatalogue) (others : List Segment) → AllByRecursion (λ (e : PlainEntry). has_digests form (placed_in from e.segments) ≡ true) c
      → has_digests form others ≡ true → has_form form (filled from c others) ≡ true
  unfolding filled
  filled_form form [] others all each = refl
  filled_form form (e ∷ es) others all each =
      let p : Segment → Bool = λ (s : Segment). has_digest form s.digest in
      let k = length (new_in from e.segments) in
      let split = front_and_back p k others each in
      and_from (has_digests form (placed_in from e.segments ++ take k others)) (has_form form (filled from es (drop k others)))
      (both_pass p (placed_in from e.segments) (take k others) all.0 split.0) (filled_form form es (drop k others) all.1 split.1)
