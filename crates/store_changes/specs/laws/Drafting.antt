-- Commands on a catalogue, one after another: the catalogue that they leave, the streams of its new segments, and the runs that it no longer names.
use Rattle.std.specs.Prelude.{◌≡◌, ◌≢◌, ◌≤◌, ◌<◌, ◌+◌, ◌^◌, ◌++◌, ◌&&◌, ◌||◌, ℕ, zero, suc, Bool, true, false, not, nat_lt, if◌then◌else◌, List, [], ◌∷◌, length, map, flat_map, get_or, slice_get, Option, Some, None, Result, Ok, Err, refl}
use Rattle.std.specs.List.{list_all, filter, AllByRecursion}
use Rattle.std.specs.Str.{bytes_eq}
use Rattle.std.proofs.Common.{inl, inr, sym, ap, ◌∙◌, subst, arith, append-nil, append_assoc}
use Rattle.std.proofs.lemmas.Bool.{and_parts, and_from, lt-ltb, ltb-true, ltb-false, or_right}
use Rattle.std.proofs.lemmas.List.{length-map, length-append}
use Rattle.std.proofs.lemmas.Option.{get_or_from_slice_get}
use Rattle.sector_dev.specs.Disk.{Image}
use Rattle.segments.specs.declared.run.Run.{Run}
use Rattle.segments.specs.declared.extent.Extent.{Extent}
use Rattle.segments.specs.Usages.{same_run}
use Rattle.segments.specs.Sectors.{sector_count, bytes_at}
use Rattle.segments.specs.laws.Usages.{same_run_is, same_itself, times_both}
use Rattle.catalogue.specs.declared.limits.TheConstants.{MAX_SEGMENT_ROWS, MAX_SEGMENTS}
use Rattle.catalogue.specs.declared.entry.Segment.{Segment}
use Rattle.catalogue.specs.declared.entry.SegmentForm.{SegmentForm}
use Rattle.catalogue.specs.Entries.{PlainEntry, PlainCatalogue, is_between, is_segment, is_page, is_entry, page_runs, runs_in_segments, runs_in, runs_of, segment_count, has_digest, has_digests, has_form, IsCatalogue}
use Rattle.catalogue.specs.Edits.{page_behind}
use Rattle.catalogue.specs.laws.Kept.{entry_is, segment_is, filled_is}
use Rattle.commit.specs.Placing.{is_among, times_among}
use Rattle.commit.specs.laws.Fit.{times_some, some_times}
use Rattle.commit.specs.declared.sector.FormatVersion.TheVariants.{One}
use Rattle.store_runs.specs.Held.{is_undamaged}
use Rattle.store_runs.specs.Filling.{has_place, placed_in, new_in, new_segments, runs_placed_in, runs_placed}
use Rattle.store_runs.specs.Changes.{PlainEdit, put, extend, move, remove, rebuild, PlainChange, edited, given_up, HasPageOf, IsRebuild, IsEdit, IsChange, placed_segments, HoldsStreams}
use Rattle.store_runs.specs.Deciding.{AreBefore, Leaves, IsWhole}
use Rattle.store_changes.specs.Draft.{end_of, starts_from, places_from, laid, HasStream, HasOldPage, IsDrafted, ArePlaces}
use Rattle.store_changes.specs.Picked.{streams_at}
use Rattle.store_changes.specs.laws.Edited.{edited_times_are, none_listed}
use Rattle.store_changes.specs.laws.EditedEach.{OneSchema, edited_each}
use Rattle.store_changes.specs.laws.ExchangedRuns.{run_of}
use Rattle.store_changes.specs.laws.Filled.{all_kept, all_placed}
use Rattle.store_changes.specs.laws.Laid.{end_on, end_more, starts_more, places_count, AreWithin, places_within, laid_more, laid_below, laid_holds, new_holds, none_placed, all_new, HaveStreams, new_have, still_have}
use Rattle.store_changes.specs.laws.LineEdits.{OfEdited, each_edited}
use Rattle.store_changes.specs.laws.Segments.{placed_runs, placed_number}

-- an edit of a single command
abbrev pub IsLine : PlainEdit → Type 0
IsLine (put name schema) = Unit {0}
IsLine (extend name) = Unit {0}
IsLine (move from to) = Unit {0}
IsLine (remove name) = Unit {0}
IsLine _ = ⊥

-- the runs that start before this sector
abbrev pub low_runs : (from : ℕ) → List Run → List Run
low_runs from runs = filter (λ (run : Run). nat_lt run.start from) runs

-- ---- runs before a sector

pub before_among : (from : ℕ) (runs : List Run) (run : Run) → AreBefore from runs → is_among runs run ≡ true → run.start + run.count ≤ from
before_among from [] run before is = absurd (cc is)
before_among from (r ∷ rs) run before is = by_test (same_run r run) refl is (before_among from rs run before.1)
  where
    by_test : (b : Bool) → same_run r run ≡ b → (b || is_among rs run) ≡ true → (is_among rs run ≡ true → run.start + run.count ≤ from) → run.start + run.count ≤ from
    by_test true same or later = subst (λ (x : Run). x.start + x.count ≤ from) (same_run_is r run same) before.0
    by_test false same or later = later or

pub each_before : (from : ℕ) (runs : List Run) → ((run : Run) → is_among runs run ≡ true → run.start + run.count ≤ from) → AreBefore from runs
each_before from [] all = tt
each_before from (r ∷ rs) all =
    (all r (ap (λ (b : Bool). b || is_among rs r) (same_itself r)), each_before from rs (λ run is. all run (or_right (same_run r run) (is_among rs run) is)))

within_among : (low high : ℕ) (runs : List Run) (run : Run) → AreWithin low high runs → is_among runs run ≡ true → (low ≤ run.start) × (run.start + run.count ≤ high)
within_among low high [] run all is = absurd (cc is)
within_among low high (r ∷ rs) run all is = by_test (same_run r run) refl is (within_among low high rs run all.1)
  where
    by_test : (b : Bool) → same_run r run ≡ b → (b || is_among rs run) ≡ true → (is_among rs run ≡ true → (low ≤ run.start) × (run.start + run.count ≤ high)) → (low ≤ run.start) × (run.start + run.count ≤ high)
    by_test true same or later = subst (λ (x : Run). (low ≤ x.start) × (x.start + x.count ≤ high)) (same_run_is r run same) all.0
    by_test false same or later = later or

-- of some runs those that start low are listed as often as before, and the others not at all
low_times : (from : ℕ) (runs : List Run) (run : Run) → run.start < from → times_among (low_runs from runs) run ≡ times_among runs run
low_times from [] run low = refl
low_times from (r ∷ rs) run low = by_test (nat_lt r.start from) refl (low_times from rs run low)
  where
    other : nat_lt r.start from ≡ false → same_run r run ≡ true → ⊥
    other high same = let is : nat_lt run.start from ≡ false = subst (λ (x : Run). nat_lt x.start from ≡ false) (same_run_is r run same) high in let yes' = lt-ltb run.start from low in cc (yes', is)

    by_same : (b : Bool) → same_run r run ≡ b → nat_lt r.start from ≡ false → times_among (low_runs from rs) run ≡ times_among rs run → times_among (low_runs from rs) run ≡ (if b then 1 else 0) + times_among rs run
    by_same true same high later = absurd (other high same)
    by_same false same high later = omega (arith, later)

    by_test : (b : Bool) → nat_lt r.start from ≡ b → times_among (low_runs from rs) run ≡ times_among rs run → times_among (if b then r ∷ low_runs from rs else low_runs from rs) run ≡ times_among (r ∷ rs) run
    by_test true is later = omega (arith, later)
    by_test false is later = by_same (same_run r run) refl is later

high_times : (from : ℕ) (runs : List Run) (run : Run) → from ≤ run.start → times_among (low_runs from runs) run ≡ 0
high_times from [] run high = refl
high_times from (r ∷ rs) run high = by_test (nat_lt r.start from) refl (high_times from rs run high)
  where
    by_same : (b : Bool) → same_run r run ≡ b → nat_lt r.start from ≡ true → times_among (low_runs from rs) run ≡ 0 → (if b then 1 else 0) + times_among (low_runs from rs) run ≡ 0
    by_same true same is later = let low = ltb-true r.start from is in let at = ap (λ (x : Run). x.start) (same_run_is r run same) in absurd (omega (arith, high, low, at))
    by_same false same is later = omega (arith, later)

    by_test : (b : Bool) → nat_lt r.start from ≡ b → times_among (low_runs from rs) run ≡ 0 → times_among (if b then r ∷ low_runs from rs else low_runs from rs) run ≡ 0
    by_test true is later = by_same (same_run r run) refl is later
    by_test false is later = later

-- ---- segments that have their places, and new ones

pub placed_both : (from : ℕ) (a b : List Segment) → placed_in from (a ++ b) ≡ placed_in from a ++ placed_in from b
placed_both from [] b = refl
placed_both from (s ∷ ss) b = by_test (has_place from s) (placed_both from ss b)
  where
    by_test : (t : Bool) → placed_in from (ss ++ b) ≡ placed_in from ss ++ placed_in from b → (if t then s ∷ placed_in from (ss ++ b) else placed_in from (ss ++ b)) ≡ (if t then s ∷ placed_in from ss else placed_in from ss) ++ placed_in from b
    by_test true later = ap (λ (xs : List Segment). s ∷ xs) later
    by_test false later = later

pub new_both : (from : ℕ) (a b : List Segment) → new_in from (a ++ b) ≡ new_in from a ++ new_in from b
new_both from [] b = refl
new_both from (s ∷ ss) b = by_test (has_place from s) (new_both from ss b)
  where
    by_test : (t : Bool) → new_in from (ss ++ b) ≡ new_in from ss ++ new_in from b → (if not t then s ∷ new_in from (ss ++ b) else new_in from (ss ++ b)) ≡ (if not t then s ∷ new_in from ss else new_in from ss) ++ new_in from b
    by_test true later = later
    by_test false later = ap (λ (xs : List Segment). s ∷ xs) later

none_new : (from : ℕ) (ss : List Segment) → list_all is_segment ss ≡ true → AreBefore from (runs_in_segments ss) → new_in from ss ≡ []
none_new from [] sound before = refl
none_new from (s ∷ ss) sound before =
    let parts = and_parts (is_segment s) (list_all is_segment ss) sound in
    let place = (segment_is s parts.0).place in
    let some = place.some in
    let sectors = place.sectors in
    let end = before.0 in
    let low : s.place.run.start < from = omega (arith, some, sectors, end) in
    by_test (has_place from s) (lt-ltb s.place.run.start from low) (none_new from ss parts.1 before.1)
  where
    by_test : (b : Bool) → b ≡ true → new_in from ss ≡ [] → (if not b then s ∷ new_in from ss else new_in from ss) ≡ []
    by_test true is later = later
    by_test false is later = absurd (cc is)

pub before_parts : (from : ℕ) (xs ys : List Run) → AreBefore from (xs ++ ys) → AreBefore from xs × AreBefore from ys
before_parts from [] ys before = (tt, before)
before_parts from (x ∷ xs) ys before = let rest = before_parts from xs ys before.1 in ((before.0, rest.0), rest.1)

-- of each table
abbrev pub HasNoneNew : (from : ℕ) → PlainEntry → Type 0
HasNoneNew from e = new_in from e.segments ≡ []

pub each_none : (from : ℕ) (c : PlainCatalogue) → list_all is_entry c ≡ true → AreBefore from (runs_of c) → AllByRecursion (HasNoneNew from) c
each_none from [] sound before = tt
each_none from (e ∷ es) sound before =
    let parts = and_parts (is_entry e) (list_all is_entry es) sound in
    let lie = before_parts from (runs_in e) (runs_of es) before in
    let own = before_parts from (page_runs e.page) (runs_in_segments e.segments) lie.0 in
    (none_new from e.segments (entry_is e parts.0).segments own.1, each_none from es parts.1 lie.1)

-- ---- where a list begins

abbrev IsInOrder : (from : ℕ) → PlainEntry → Type 0
IsInOrder from e = e.segments ≡ placed_in from e.segments ++ new_in from e.segments

abbrev HasForm : (from : ℕ) → SegmentForm → PlainEntry → Type 0
HasForm from form e = has_digests form (placed_in from e.segments) ≡ true

abbrev HasNew : (from : ℕ) → List (List ℕ) → PlainEntry → Type 0
HasNew from streams e = HaveStreams (starts_from from streams) streams (new_in from e.segments)

module _ (from : ℕ) where
  in_order : (c : PlainCatalogue) → AllByRecursion (HasNoneNew from) c → AllByRecursion (IsInOrder from) c
  in_order [] none = tt
  in_order (e ∷ es) none =
      (sym (ap (λ (ns : List Segment). placed_in from e.segments ++ ns) none.0 ∙ append-nil (placed_in from e.segments) ∙ all_placed from e.segments none.0), in_order es none.1)

  own_forms : (form : SegmentForm) (c : PlainCatalogue) → has_form form c ≡ true → AllByRecursion (HasForm from form) c
  own_forms form [] is = tt
  own_forms form (e ∷ es) is =
      let parts = and_parts (has_digests form e.segments) (has_form form es) is in
      (all_kept (λ (s : Segment). has_digest form s.digest) (has_place from) e.segments parts.0, own_forms form es parts.1)

  own_pages : (old : PlainCatalogue) (behind : (number : ℕ) → ℕ) (es : PlainCatalogue) → ((i : ℕ) → slice_get es i ≡ slice_get old (behind i)) → AllByRecursion (HasNoneNew from) es → AllByRecursion (HasOldPage from old) es
  own_pages old behind [] at none = tt
  own_pages old behind (e ∷ es) at none =
      ((λ page here. record { number = behind 0; old = e; stood = sym (at 0); schema = refl; segments = refl; paged = here; whole = none.0 }), own_pages old (λ i. behind (suc i)) es (λ i. at (suc i)) none.1)

  none_kept : (c : PlainCatalogue) → AllByRecursion (HasNoneNew from) c → AllByRecursion (HasNew from []) c
  none_kept [] none = tt
  none_kept (e ∷ es) none = (subst (HaveStreams [] []) (sym none.0) tt, none_kept es none.1)

  pub begins : (old : PlainCatalogue) → IsCatalogue old → AreBefore from (runs_of old) → IsDrafted from old old [] []
  begins old k before =
      let none = each_none from old k.entries before in
      record {
        began = k;
        stands = k;
        before = before;
        lies = before;
        runs = λ run low. omega arith;
        low = λ run high. refl;
        order = in_order old none;
        forms = λ form is. own_forms form old is;
        pages = own_pages old (λ i. i) old (λ i. refl) none;
        some = tt;
        kept = none_kept old none;
      }

-- ---- one command more

both_some : (a b : List (List ℕ)) → AllByRecursion (λ (s : List ℕ). 1 ≤ length s) a → AllByRecursion (λ (s : List ℕ). 1 ≤ length s) b → AllByRecursion (λ (s : List ℕ). 1 ≤ length s) (a ++ b)
both_some [] b one other = other
both_some (s ∷ ss) b one other = (one.0, both_some ss b one.1 other)

both_have : (starts : List ℕ) (streams : List (List ℕ)) (a b : List Segment) → HaveStreams starts streams a → HaveStreams starts streams b → HaveStreams starts streams (a ++ b)
both_have starts streams [] b one other = other
both_have starts streams (g ∷ gs) b one other = (one.0, both_have starts streams gs b one.1 other)

more_kept : (from : ℕ) (streams ss : List (List ℕ)) (c : PlainCatalogue) → AllByRecursion (HasNew from streams) c → AllByRecursion (HasNew from (streams ++ ss)) c
more_kept from streams ss [] kept = tt
more_kept from streams ss (e ∷ es) kept = (
  subst (λ (ns : List ℕ). HaveStreams ns (streams ++ ss) (new_in from e.segments)) (sym (starts_more from streams ss))
      (still_have (starts_from from streams) (starts_from (end_of from streams) ss) streams ss (new_in from e.segments) kept.0),
  more_kept from streams ss es kept.1,
)

module _ (one : OneSchema) (from : ℕ) (old made : PlainCatalogue) (gone : List Run) (streams : List (List ℕ)) (d : IsDrafted from old made gone streams) (change : PlainChange) (line : IsLine change.edit) (sound : IsChange made change) where
  abbrev next : ℕ
  next = end_of from streams

  abbrev segments : List Segment
  segments = placed_segments One (places_from next change.streams) change.streams change.counts

  abbrev after : PlainCatalogue
  after = edited made change.edit segments

  abbrev given : List Run
  given = given_up made change.edit segments

  low : from ≤ next
  low = end_on from streams

  number : length segments ≡ length change.streams
  number = placed_number One (places_from next change.streams) change.streams change.counts (places_count next change.streams) sound.each

  new_runs : map run_of segments ≡ places_from next change.streams
  new_runs = placed_runs One (places_from next change.streams) change.streams change.counts (places_count next change.streams) sound.each

  new_lie : (run : Run) → is_among (map run_of segments) run ≡ true → (next ≤ run.start) × (run.start + run.count ≤ end_of next change.streams)
  new_lie run is = within_among next (end_of next change.streams) (places_from next change.streams) run (places_within next change.streams) (subst (λ (rs : List Run). is_among rs run ≡ true) new_runs is)

  counts_are : (run : Run) → times_among (runs_of after) run + times_among given run ≡ times_among (runs_of made) run + times_among (map run_of segments) run
  counts_are run = edited_times_are made change.edit change.streams segments run d.stands sound.edit number

  none_low : (run : Run) → run.start < from → times_among (map run_of segments) run ≡ 0
  none_low run is = none_listed (map run_of segments) run (by_test (is_among (map run_of segments) run) refl)
    where
      by_test : (b : Bool) → is_among (map run_of segments) run ≡ b → b ≡ false
      by_test false among = refl
      by_test true among = let lie = (new_lie run among).0 in absurd (omega (arith, lie, is, low))

  lie_before : (run : Run) → is_among (runs_of after) run ≡ true → run.start + run.count ≤ end_of (next) change.streams
  lie_before run is = by_test (is_among (runs_of made) run) refl
    where
      by_test : (b : Bool) → is_among (runs_of made) run ≡ b → run.start + run.count ≤ end_of next change.streams
      by_test true among = let end = before_among next (runs_of made) run d.lies among in let on = end_on next change.streams in omega (arith, end, on)
      by_test false among =
          let none = none_listed (runs_of made) run among in
          let some = times_some (runs_of after) run is in
          let all = counts_are run in
          (new_lie run (some_times (map run_of segments) run (omega (arith, none, some, all)))).1

  placed_behind : (ss : List Segment) → placed_in from (ss ++ segments) ≡ placed_in from ss
  placed_behind ss = placed_both from ss segments ∙ ap (λ (xs : List Segment). placed_in from ss ++ xs) (none_placed from next change.streams change.counts low) ∙ append-nil (placed_in from ss)

  new_here : new_in from segments ≡ segments
  new_here = all_new from next change.streams change.counts low

  new_behind : (ss : List Segment) → new_in from (ss ++ segments) ≡ new_in from ss ++ segments
  new_behind ss = new_both from ss segments ∙ ap (λ (xs : List Segment). new_in from ss ++ xs) new_here

  ordered : (edit : PlainEdit) → IsLine edit → OfEdited (IsInOrder from) edit segments
  ordered (put name schema) is = λ page. sym (λ i. none_placed from next change.streams change.counts low i ++ new_here i)
  ordered (extend name) is = λ e named own.
      ap (λ (ss : List Segment). ss ++ segments) own ∙ append_assoc (placed_in from e.segments) (new_in from e.segments) segments
      ∙ sym (λ i. placed_behind e.segments i ++ new_behind e.segments i)
  ordered (move from' to) is = λ e own. own
  ordered (remove name) is = tt
  ordered _ is = absurd is

  formed : (form : SegmentForm) (edit : PlainEdit) → IsLine edit → OfEdited (HasForm from form) edit segments
  formed form (put name schema) is = λ page. ap (has_digests form) (none_placed from next change.streams change.counts low)
  formed form (extend name) is = λ e named own. ap (has_digests form) (placed_behind e.segments) ∙ own
  formed form (move from' to) is = λ e own. own
  formed form (remove name) is = tt
  formed form _ is = absurd is

  abbrev others : List (List ℕ)
  others = streams ++ change.streams

  have_here : HaveStreams (starts_from from others) others segments
  have_here = new_have from streams change.streams change.counts

  has_kept : (edit : PlainEdit) → IsLine edit → OfEdited (HasNew from others) edit segments
  has_kept (put name schema) is = λ page. subst (HaveStreams (starts_from from others) others) (sym new_here) have_here
  has_kept (extend name) is = λ e named own. subst (HaveStreams (starts_from from others) others) (sym (new_behind e.segments)) (both_have (starts_from from others) others (new_in from e.segments) segments own have_here)
  has_kept (move from' to) is = λ e own. own
  has_kept (remove name) is = tt
  has_kept _ is = absurd is

  pub drafted : IsCatalogue after → IsDrafted from old after (gone ++ low_runs from given) others
  drafted stands = record {
    began = d.began;
    stands = stands;
    before = d.before;
    lies = each_before (end_of from others) (runs_of after) (λ run is. subst (λ (n : ℕ). run.start + run.count ≤ n) (sym (end_more from streams change.streams)) (lie_before run is));
    runs = λ run is.
        let all = counts_are run in
        let none = none_low run is in
        let was = d.runs run is in
        omega (arith, all, none, was, low_times from given run is, times_both gone (low_runs from given) run);
    low = λ run is. let was = d.low run is in omega (arith, was, high_times from given run is, times_both gone (low_runs from given) run);
    order = each_edited (IsInOrder from) made change.edit change.streams segments sound.edit (ordered change.edit line) d.order;
    forms = λ form is. each_edited (HasForm from form) made change.edit change.streams segments sound.edit (formed form change.edit line) (d.forms form is);
    pages = edited_each (HasOldPage from old) (λ e none page here. absurd (let both : None ≡ Some page = sym none ∙ here in cc both))
        (λ e f schema same at has page here.
        let is = has page (sym at ∙ here) in
        record { number = is.number; old = is.old; stood = is.stood; schema = schema ∙ is.schema; segments = same ∙ is.segments; paged = is.paged; whole = ap (new_in from) same ∙ is.whole })
        one made change.edit change.streams segments d.stands sound.edit d.pages;
    some = both_some streams change.streams d.some sound.some;
    kept = each_edited (HasNew from others) made change.edit change.streams segments sound.edit (has_kept change.edit line) (more_kept from streams change.streams made d.kept);
  }

  -- what it leaves for the next one
  pub leaves : (image : Image) → IsCatalogue after → Leaves next (laid from streams image) made change (end_of from others) (laid from others image) after
  leaves image stands = record {
    before = d.lies;
    sound = sound;
    places = places_from next change.streams;
    onward = subst (λ (n : ℕ). next ≤ n) (sym (end_more from streams change.streams)) (end_on next change.streams);
    within = subst (λ (n : ℕ). AreWithin next n (places_from next change.streams)) (sym (end_more from streams change.streams)) (places_within next change.streams);
    holds = subst (λ (i : Image). HoldsStreams i segments change.streams change.counts) (sym (laid_more from streams change.streams image)) (new_holds next change.streams change.counts (laid from streams image) sound.each);
    same = λ n is. ap (λ (i : Image). i n) (laid_more from streams change.streams image) ∙ laid_below next change.streams (laid from streams image) n is;
    stands = stands;
    is = refl;
  }

-- ---- the whole list

pub starts_above : (next : ℕ) (ss : List (List ℕ)) (i n : ℕ) → slice_get (starts_from next ss) i ≡ Some n → next ≤ n
starts_above next [] i n at = absurd (cc at)
starts_above next (s ∷ ss) zero n at = let same : next ≡ n = cc at in omega (arith, same)
starts_above next (s ∷ ss) (suc i) n at = let more = starts_above (next + sector_count (length s)) ss i n at in omega (arith, more)

-- each starts at a sector of its own
pub one_place : (next : ℕ) (ss : List (List ℕ)) (i j n : ℕ) → AllByRecursion (λ (s : List ℕ). 1 ≤ length s) ss → slice_get (starts_from next ss) i ≡ Some n → slice_get (starts_from next ss) j ≡ Some n → i ≡ j
one_place next [] i j n some a b = absurd (cc a)
one_place next (s ∷ ss) zero zero n some a b = refl
one_place next (s ∷ ss) zero (suc j) n some a b = let here : next ≡ n = cc a in let above = starts_above (next + sector_count (length s)) ss j n b in let own = some.0 in absurd (omega (arith, here, above, own))
one_place next (s ∷ ss) (suc i) zero n some a b = let here : next ≡ n = cc b in let above = starts_above (next + sector_count (length s)) ss i n a in let own = some.0 in absurd (omega (arith, here, above, own))
one_place next (s ∷ ss) (suc i) (suc j) n some a b = ap suc (one_place (next + sector_count (length s)) ss i j n some.1 a b)

abbrev pub rows_in : List Segment → List ℕ
rows_in gs = map (λ (g : Segment). g.rows) gs

-- the streams at the places of segments
module _ (from : ℕ) (streams : List (List ℕ)) (some : AllByRecursion (λ (s : List ℕ). 1 ≤ length s) streams) where
  abbrev starts : List ℕ
  starts = starts_from from streams

  stream_is : (g : Segment) (p : ℕ) → (has : HasStream starts streams g) → slice_get starts p ≡ Some g.place.run.start → get_or streams p [] ≡ has.stream
  stream_is g p has at =
      let same = one_place from streams p has.place g.place.run.start some at has.starts_at in
      get_or_from_slice_get streams p has.stream [] (ap (slice_get streams) same ∙ has.is)

  chosen_hold : (image : Image) (gs : List Segment) (places : List ℕ) → HaveStreams starts streams gs → ArePlaces starts gs places → HoldsStreams (laid from streams image) gs (streams_at streams places) (rows_in gs)
  chosen_hold image [] places have are = ap (streams_at streams) are
  chosen_hold image (g ∷ gs) [] have are = absurd are
  chosen_hold image (g ∷ gs) (p ∷ ps) have are =
      let own = have.0 in
      let same = stream_is g p own are.0 in
      let held = laid_holds from streams image own.place g.place.run.start own.stream own.starts_at own.is in (
        ap (bytes_at' g) (sym own.size) ∙ held ∙ ap (λ (s : List ℕ). Some s) (sym same),
        refl,
        ap (λ (o : Option (List ℕ)). is_undamaged o (Some (get_or streams p []))) own.bare,
        chosen_hold image gs ps have.1 are.1,
      )
    where
      bytes_at' : Segment → ℕ → Option (List ℕ)
      bytes_at' g n = bytes_at (laid from streams image) g.place.run.start n

  chosen_count : (gs : List Segment) (places : List ℕ) → ArePlaces starts gs places → length gs ≡ length (streams_at streams places)
  chosen_count [] places are = sym (ap (λ (ps : List ℕ). length (streams_at streams ps)) are)
  chosen_count (g ∷ gs) [] are = absurd are
  chosen_count (g ∷ gs) (p ∷ ps) are = let more = chosen_count gs ps are.1 in omega (arith, more)

  chosen_some : (gs : List Segment) (places : List ℕ) → list_all is_segment gs ≡ true → HaveStreams starts streams gs → ArePlaces starts gs places
      → AllByRecursion (λ (s : List ℕ). 1 ≤ length s) (streams_at streams places) × AllByRecursion (λ (s : List ℕ). length s < 2 ^ 64) (streams_at streams places)
  chosen_some [] places sound have are = subst (λ (ps : List ℕ). AllByRecursion (λ (s : List ℕ). 1 ≤ length s) (streams_at streams ps) × AllByRecursion (λ (s : List ℕ). length s < 2 ^ 64) (streams_at streams ps)) (sym are) (tt, tt)
  chosen_some (g ∷ gs) [] sound have are = absurd are
  chosen_some (g ∷ gs) (p ∷ ps) sound have are =
      let parts = and_parts (is_segment g) (list_all is_segment gs) sound in
      let place = (segment_is g parts.0).place in
      let least = place.some in
      let most = place.bytes in
      let own : length (get_or streams p []) ≡ g.place.bytes = ap (λ (s : List ℕ). length s) (stream_is g p have.0 are.0) ∙ have.0.size in
      let more = chosen_some gs ps parts.1 have.1 are.1 in
      ((omega (arith, least, own), more.0), (omega (arith, most, own), more.1))

rows_sound : (gs : List Segment) → list_all is_segment gs ≡ true → list_all (is_between 1 MAX_SEGMENT_ROWS) (rows_in gs) ≡ true
rows_sound [] sound = refl
rows_sound (g ∷ gs) sound =
    let parts = and_parts (is_segment g) (list_all is_segment gs) sound in
    and_from (is_between 1 MAX_SEGMENT_ROWS g.rows) (list_all (is_between 1 MAX_SEGMENT_ROWS) (rows_in gs)) (segment_is g parts.0).rows (rows_sound gs parts.1)

both_sound : (a b : List Segment) → list_all is_segment a ≡ true → list_all is_segment b ≡ true → list_all is_segment (a ++ b) ≡ true
both_sound [] b one other = other
both_sound (g ∷ gs) b one other = let parts = and_parts (is_segment g) (list_all is_segment gs) one in and_from (is_segment g) (list_all is_segment (gs ++ b)) parts.0 (both_sound gs b parts.1 other)

new_are_sound : (from : ℕ) (c : PlainCatalogue) → list_all is_entry c ≡ true → list_all is_segment (new_segments from c) ≡ true
new_are_sound from [] sound = refl
new_are_sound from (e ∷ es) sound =
    let parts = and_parts (is_entry e) (list_all is_entry es) sound in
    both_sound (new_in from e.segments) (new_segments from es) (all_kept is_segment (λ (s : Segment). not (has_place from s)) e.segments (entry_is e parts.0).segments) (new_are_sound from es parts.1)

pub all_have : (from : ℕ) (streams : List (List ℕ)) (c : PlainCatalogue) → AllByRecursion (HasNew from streams) c → HaveStreams (starts_from from streams) streams (new_segments from c)
all_have from streams [] kept = tt
all_have from streams (e ∷ es) kept = both_have (starts_from from streams) streams (new_in from e.segments) (new_segments from es) kept.0 (all_have from streams es kept.1)

-- the runs that have their places
module _ (from : ℕ) (run : Run) where
  segments_low : run.start < from → (ss : List Segment) → times_among (runs_in_segments (placed_in from ss)) run ≡ times_among (runs_in_segments ss) run
  segments_low low [] = refl
  segments_low low (s ∷ ss) = by_test (has_place from s) refl (segments_low low ss)
    where
      other : has_place from s ≡ false → same_run s.place.run run ≡ true → ⊥
      other high same = let is : nat_lt run.start from ≡ false = subst (λ (x : Run). nat_lt x.start from ≡ false) (same_run_is s.place.run run same) high in let yes' = lt-ltb run.start from low in cc (yes', is)

      by_same : (b : Bool) → same_run s.place.run run ≡ b → has_place from s ≡ false → times_among (runs_in_segments (placed_in from ss)) run ≡ times_among (runs_in_segments ss) run
          → times_among (runs_in_segments (placed_in from ss)) run ≡ (if b then 1 else 0) + times_among (runs_in_segments ss) run
      by_same true same high later = absurd (other high same)
      by_same false same high later = omega (arith, later)

      by_test : (b : Bool) → has_place from s ≡ b → times_among (runs_in_segments (placed_in from ss)) run ≡ times_among (runs_in_segments ss) run
          → times_among (runs_in_segments (if b then s ∷ placed_in from ss else placed_in from ss)) run ≡ times_among (runs_in_segments (s ∷ ss)) run
      by_test true is later = omega (arith, later)
      by_test false is later = by_same (same_run s.place.run run) refl is later

  segments_high : from ≤ run.start → (ss : List Segment) → times_among (runs_in_segments (placed_in from ss)) run ≡ 0
  segments_high high [] = refl
  segments_high high (s ∷ ss) = by_test (has_place from s) refl (segments_high high ss)
    where
      by_same : (b : Bool) → same_run s.place.run run ≡ b → has_place from s ≡ true → times_among (runs_in_segments (placed_in from ss)) run ≡ 0 → (if b then 1 else 0) + times_among (runs_in_segments (placed_in from ss)) run ≡ 0
      by_same true same is later = let low = ltb-true s.place.run.start from is in let at = ap (λ (x : Run). x.start) (same_run_is s.place.run run same) in absurd (omega (arith, high, low, at))
      by_same false same is later = omega (arith, later)

      by_test : (b : Bool) → has_place from s ≡ b → times_among (runs_in_segments (placed_in from ss)) run ≡ 0 → times_among (runs_in_segments (if b then s ∷ placed_in from ss else placed_in from ss)) run ≡ 0
      by_test true is later = by_same (same_run s.place.run run) refl is later
      by_test false is later = later

  -- a page is that of an old table
  page_low : (old : PlainCatalogue) → list_all is_entry old ≡ true → AreBefore from (runs_of old) → (number : ℕ) (e : PlainEntry) (page : Extent) → slice_get old number ≡ Some e → e.page ≡ Some page → page.run.start < from
  page_low [] sound before number e page at paged = absurd (cc at)
  page_low (x ∷ xs) sound before zero e page at paged =
      let parts = and_parts (is_entry x) (list_all is_entry xs) sound in
      let same : x ≡ e = cc at in
      let here : x.page ≡ Some page = ap (λ (y : PlainEntry). y.page) same ∙ paged in
      let own = before_parts from (page_runs x.page) (runs_in_segments x.segments) (before_parts from (runs_in x) (runs_of xs) before).0 in
      let end = (subst (λ (o : Option Extent). AreBefore from (page_runs o)) here own.0).0 in
      let filled = filled_is 8 page (subst (λ (o : Option Extent). is_page o ≡ true) here (entry_is x parts.0).page) in
      let some = filled.some in
      let sectors = filled.sectors in
      omega (arith, end, some, sectors)
  page_low (x ∷ xs) sound before (suc number) e page at paged =
      page_low xs (and_parts (is_entry x) (list_all is_entry xs) sound).1 (before_parts from (runs_in x) (runs_of xs) before).1 number e page at paged

  entry_low : run.start < from → (old : PlainCatalogue) (e : PlainEntry) → HasOldPage from old e → times_among (runs_placed_in from e) run ≡ times_among (runs_in e) run
  entry_low low old e has = by_page e.page refl
    where
      both : (o p : Option Extent) → o ≡ p → times_among (page_runs o ++ runs_in_segments (placed_in from e.segments)) run ≡ times_among (page_runs p ++ runs_in_segments e.segments) run
      both o p same =
          let pages = ap (λ (x : Option Extent). times_among (page_runs x) run) same in
          omega (arith, pages, segments_low low e.segments, times_both (page_runs o) (runs_in_segments (placed_in from e.segments)) run, times_both (page_runs p) (runs_in_segments e.segments) run)

      none_behind : (ns : List Segment) → page_behind ns None ≡ None
      none_behind [] = refl
      none_behind (n ∷ ns) = refl

      by_page : (o : Option Extent) → e.page ≡ o → times_among (runs_placed_in from e) run ≡ times_among (runs_in e) run
      by_page None is = both (page_behind (new_in from e.segments) e.page) e.page (ap (page_behind (new_in from e.segments)) is ∙ none_behind (new_in from e.segments) ∙ sym is)
      by_page (Some page) is = both (page_behind (new_in from e.segments) e.page) e.page (ap (λ (ns : List Segment). page_behind ns e.page) (has page is).whole)

  entry_high : from ≤ run.start → (old : PlainCatalogue) → list_all is_entry old ≡ true → AreBefore from (runs_of old) → (e : PlainEntry) → HasOldPage from old e → times_among (runs_placed_in from e) run ≡ 0
  entry_high high old sound before e has = by_page e.page refl
    where
      none : (o : Option Extent) → times_among (page_runs o) run ≡ 0 → times_among (page_runs o ++ runs_in_segments (placed_in from e.segments)) run ≡ 0
      none o zero' = omega (arith, zero', segments_high high e.segments, times_both (page_runs o) (runs_in_segments (placed_in from e.segments)) run)

      other : (page : Extent) → page.run.start < from → (b : Bool) → same_run page.run run ≡ b → (if b then 1 else 0) + 0 ≡ 0
      other page low true same = let at = ap (λ (x : Run). x.start) (same_run_is page.run run same) in absurd (omega (arith, high, low, at))
      other page low false same = omega arith

      lost : (ns : List Segment) (o : Option Extent) → times_among (page_runs o) run ≡ 0 → times_among (page_runs (page_behind ns o)) run ≡ 0
      lost [] o zero' = zero'
      lost (n ∷ ns) o zero' = refl

      by_page : (o : Option Extent) → e.page ≡ o → times_among (runs_placed_in from e) run ≡ 0
      by_page None is = none (page_behind (new_in from e.segments) e.page) (lost (new_in from e.segments) e.page (ap (λ (o : Option Extent). times_among (page_runs o) run) is))
      by_page (Some page) is =
          let has' = has page is in
          let low = page_low old sound before has'.number has'.old page has'.stood has'.paged in
          none (page_behind (new_in from e.segments) e.page) (lost (new_in from e.segments) e.page (ap (λ (o : Option Extent). times_among (page_runs o) run) is ∙ other page low (same_run page.run run) refl))

  placed_low : run.start < from → (old c : PlainCatalogue) → AllByRecursion (HasOldPage from old) c → times_among (runs_placed from c) run ≡ times_among (runs_of c) run
  placed_low low old [] pages = refl
  placed_low low old (e ∷ es) pages =
      let more = placed_low low old es pages.1 in
      omega (arith, more, entry_low low old e pages.0, times_both (runs_placed_in from e) (runs_placed from es) run, times_both (runs_in e) (runs_of es) run)

  placed_high : from ≤ run.start → (old : PlainCatalogue) → list_all is_entry old ≡ true → AreBefore from (runs_of old) → (c : PlainCatalogue) → AllByRecursion (HasOldPage from old) c → times_among (runs_placed from c) run ≡ 0
  placed_high high old sound before [] pages = refl
  placed_high high old sound before (e ∷ es) pages =
      let more = placed_high high old sound before es pages.1 in
      omega (arith, more, entry_high high old sound before e pages.0, times_both (runs_placed_in from e) (runs_placed from es) run)

module _ (from : ℕ) (old made : PlainCatalogue) (gone : List Run) (streams : List (List ℕ)) (d : IsDrafted from old made gone streams) (places : List ℕ) (are : ArePlaces (starts_from from streams) (new_segments from made) places) where
  abbrev gs : List Segment
  gs = new_segments from made

  abbrev chosen : List (List ℕ)
  chosen = streams_at streams places

  abbrev pub all_change : PlainChange
  all_change = record { edit = rebuild old from made gone; streams = chosen; counts = rows_in gs }

  have : HaveStreams (starts_from from streams) streams gs
  have = all_have from streams made d.kept

  sound : list_all is_segment gs ≡ true
  sound = new_are_sound from made d.stands.entries

  -- an old run starts low
  none_high : (run : Run) → from ≤ run.start → times_among (runs_of old) run ≡ 0
  none_high run high =
      let all = placed_high from run high old d.began.entries d.before old (begins from old d.began d.before).pages in
      let same = all_old run in omega (arith, all, same)
    where
      all_old : (r : Run) → times_among (runs_placed from old) r ≡ times_among (runs_of old) r
      all_old r = ap (λ (rs : List Run). times_among rs r) (same_runs old (each_none from old d.began.entries d.before))
        where
          same_in : (e : PlainEntry) → HasNoneNew from e → runs_placed_in from e ≡ runs_in e
          same_in e none =
              ap (λ (ns : List Segment). page_runs (page_behind ns e.page) ++ runs_in_segments (placed_in from e.segments)) none
              ∙ ap (λ (ss : List Segment). page_runs e.page ++ runs_in_segments ss) (all_placed from e.segments none)

          same_runs : (c : PlainCatalogue) → AllByRecursion (HasNoneNew from) c → runs_placed from c ≡ runs_of c
          same_runs [] none = refl
          same_runs (e ∷ es) none = λ i. same_in e none.0 i ++ same_runs es none.1 i

  runs_are : (run : Run) → times_among (runs_placed from made) run + times_among gone run ≡ times_among (runs_of old) run
  runs_are run = by_start (nat_lt run.start from) refl
    where
      by_start : (b : Bool) → nat_lt run.start from ≡ b → times_among (runs_placed from made) run + times_among gone run ≡ times_among (runs_of old) run
      by_start true is = let low = ltb-true run.start from is in let was = d.runs run low in omega (arith, was, placed_low from run low old made d.pages)
      by_start false is =
          let high = ltb-false run.start from is in
          let none = d.low run high in omega (arith, none, placed_high from run high old d.began.entries d.before made d.pages, none_high run high)

  pub can_rebuild : IsRebuild old old from made gone chosen
  can_rebuild = record { own = refl; stands = d.stands; new = chosen_count from streams d.some gs places are; forms = d.forms; pages = d.pages; runs = runs_are }

  placed_before : (run : Run) → is_among (runs_placed from made) run ≡ true → run.start + run.count ≤ from
  placed_before run is =
      let some = times_some (runs_placed from made) run is in
      let all = runs_are run in
      before_among from (runs_of old) run d.before (some_times (runs_of old) run (omega (arith, some, all)))

  pub whole : (image : Image) → IsWhole from old (laid from streams image) made all_change
  whole image = record {
    gone = gone;
    edit = refl;
    sound = can_rebuild;
    before = each_before from (runs_placed from made) placed_before;
    order = d.order;
    holds = chosen_hold from streams d.some image gs places have are;
  }

  -- the change can be made
  pub can_change : IsChange old all_change
  can_change =
      let each = chosen_some from streams d.some gs places sound have are in
      record {
        edit = can_rebuild;
        each = sym (chosen_count from streams d.some gs places are) ∙ sym (length-map gs (λ (g : Segment). g.rows));
        some = each.0;
        short = each.1;
        rows = rows_sound gs sound;
      }
