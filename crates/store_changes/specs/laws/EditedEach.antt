-- What holds of each entry holds of each that an edit leaves, where it holds of all without a page, and of one with the same schema, segments and page.
use Rattle.std.specs.Prelude.{◌≡◌, ◌||◌, ◌++◌, ◌≤◌, ◌<◌, ◌+◌, ℕ, zero, suc, slice_get, Bool, true, false, List, [], ◌∷◌, length, map, flat_map, take, drop, Option, Some, None, Ok, if◌then◌else◌}
use Rattle.std.specs.List.{AllByRecursion}
use Rattle.std.specs.Str.{bytes_eq}
use Rattle.std.proofs.Common.{inl, inr, refl, sym, ap, ◌∙◌, subst, append-nil}
use Rattle.std.proofs.lemmas.Bool.{cond_both, or_right}
use Rattle.sector_dev.specs.Disk.{Image}
use Rattle.segments.specs.declared.run.Run.{Run}
use Rattle.segments.specs.declared.extent.Extent.{Extent}
use Rattle.segments.specs.Usages.{same_run}
use Rattle.segments.specs.laws.Usages.{same_run_is, same_itself, among_both}
use Rattle.arrow_schema.specs.Column.{PlainSchema}
use Rattle.arrow_schema.specs.Limits.{IsWithinLimits}
use Rattle.ipc_write.specs.Written.{schema_message}
use Rattle.catalogue.specs.declared.entry.Segment.{Segment}
use Rattle.catalogue.specs.declared.entry.SegmentForm.{SegmentForm}
use Rattle.commit.specs.declared.sector.FormatVersion.{FormatVersion}
use Rattle.catalogue.specs.Entries.{PlainEntry, PlainCatalogue, is_entry, page_runs, runs_in, runs_of, IsCatalogue}
use Rattle.catalogue.specs.Edits.{page_behind, with_digests, entry_digested, digested, entry_of, with_entry, without, named, with_segments, with_more, with_others}
use Rattle.catalogue.specs.laws.Kept.{entry_is}
use Rattle.catalogue.specs.laws.Order.{by_seat, by_found}
use Rattle.catalogue.specs.laws.Sums.{refilled}
use Rattle.catalogue.specs.laws.Changed.{renamed_is, more_is, found_passes, exchanged_is}
use Rattle.commit.specs.Placing.{is_among}
use Rattle.commit.specs.Standing.{InSome}
use Rattle.pages.specs.Stored.{form_of, page_in, HoldsPage, HoldsPages}
use Rattle.pages.specs.laws.Digested.{digested_holds}
use Rattle.store_runs.specs.Changes.{PlainEdit, put, extend, move, remove, exchange, digest, rebuild, new_entry, page_over, page_instead, edited, version_after, HasPageOf, IsEdit}
use Rattle.store_runs.specs.Filling.{placed_in, new_in, entry_filled, filled}
use Rattle.store_changes.specs.laws.Filled.{all_placed}

-- schemas of one message are one schema
abbrev pub OneSchema : Type 0
OneSchema = (a b : PlainSchema) → IsWithinLimits a → IsWithinLimits b → bytes_eq (schema_message a) (schema_message b) ≡ true → a ≡ b

abbrev pub OfPageless : (PlainEntry → Type 0) → Type 0
OfPageless Q = (e : PlainEntry) → e.page ≡ None → Q e

abbrev pub OfSame : (PlainEntry → Type 0) → Type 0
OfSame Q = (e f : PlainEntry) → e.schema ≡ f.schema → e.segments ≡ f.segments → e.page ≡ f.page → Q f → Q e

module _ (Q : PlainEntry → Type 0) (pageless : OfPageless Q) (alike : OfSame Q) where
  with_each : (c : PlainCatalogue) (e : PlainEntry) → AllByRecursion Q c → Q e → AllByRecursion Q (with_entry c e)
  with_each [] e all here = (here, tt)
  with_each (x ∷ xs) e all here = by_seat x xs e (λ (d : PlainCatalogue). AllByRecursion Q d) (λ is. (all.0, with_each xs e all.1 here)) (λ is. (here, all.1)) (λ is. (here, all))

  without_each : (c : PlainCatalogue) (name : List ℕ) → AllByRecursion Q c → AllByRecursion Q (without c name)
  without_each [] name all = tt
  without_each (x ∷ xs) name all =
      cond_both (bytes_eq x.name name) xs (x ∷ without xs name) (λ (d : PlainCatalogue). AllByRecursion Q d) (λ _. all.1) (λ _. (all.0, without_each xs name all.1))

  refilled_each : (c : PlainCatalogue) (name : List ℕ) (segments : List Segment) → AllByRecursion Q c → AllByRecursion Q (with_segments c name segments)
  refilled_each [] name segments all = tt
  refilled_each (x ∷ xs) name segments all =
      cond_both (bytes_eq x.name name) (refilled x segments ∷ xs) (x ∷ with_segments xs name segments) (λ (d : PlainCatalogue). AllByRecursion Q d) (λ _. (pageless (refilled x segments) refl, all.1))
      (λ _. (all.0, refilled_each xs name segments all.1))

  pub found_each : (c : PlainCatalogue) (name : List ℕ) (e : PlainEntry) → AllByRecursion Q c → entry_of c name ≡ Some e → Q e
  found_each [] name e all h = absurd (cc h)
  found_each (x ∷ xs) name e all h = by_found x xs name e h (λ t stands. subst Q stands all.0) (λ f there. found_each xs name e all.1 there)

  -- of a table in the place of another one
  over_each : OneSchema → (name : List ℕ) (old : PlainEntry) (schema : PlainSchema) (segments : List Segment) → IsWithinLimits old.schema → IsWithinLimits schema → Q old → Q (new_entry name schema segments (page_over old schema segments))
  over_each one name old schema (s ∷ ss) within new stood = pageless (new_entry name schema (s ∷ ss) None) refl
  over_each one name old schema [] within new stood = by_message (bytes_eq (schema_message old.schema) (schema_message schema)) refl
    where
      by_segments : old.schema ≡ schema → (ss : List Segment) → old.segments ≡ ss → Q (new_entry name schema [] (page_behind ss old.page))
      by_segments same [] none = alike (new_entry name schema [] old.page) old (sym same) (sym none) refl stood
      by_segments same (x ∷ xs) some = pageless (new_entry name schema [] None) refl

      by_message : (t : Bool) → bytes_eq (schema_message old.schema) (schema_message schema) ≡ t → Q (new_entry name schema [] (if t then page_behind old.segments old.page else None))
      by_message true is = by_segments (one old.schema schema within new is) old.segments refl
      by_message false is = pageless (new_entry name schema [] None) refl

  more_each : (c : PlainCatalogue) (name : List ℕ) (e : PlainEntry) (segments : List Segment) → entry_of c name ≡ Some e → AllByRecursion Q c → AllByRecursion Q (with_more c name segments)
  more_each c name e [] h all = all
  more_each c name e (s ∷ ss) h all = subst (λ (d : PlainCatalogue). AllByRecursion Q d) (sym (more_is c name e s ss h)) (refilled_each c name (e.segments ++ s ∷ ss) all)

  -- of a table that gets digests: it has no page, or no segments
  digest_each : (e : PlainEntry) (ds : List (List ℕ)) → Q e → Q (entry_digested e ds)
  digest_each e ds here = by_segments e.segments refl
    where
      by_segments : (ss : List Segment) → e.segments ≡ ss → Q (record { name = e.name; schema = e.schema; segments = with_digests ss ds; page = page_behind ss e.page })
      by_segments [] none = alike (record { name = e.name; schema = e.schema; segments = []; page = e.page }) e refl (sym none) refl here
      by_segments (s ∷ ss) some = pageless (record { name = e.name; schema = e.schema; segments = with_digests (s ∷ ss) ds; page = None }) refl

  digested_each : (c : PlainCatalogue) (ds : List (List ℕ)) → AllByRecursion Q c → AllByRecursion Q (digested c ds)
  unfolding digested
  digested_each [] ds all = tt
  digested_each (e ∷ es) ds all = (digest_each e (take (length e.segments) ds) all.0, digested_each es (drop (length e.segments) ds) all.1)

  -- of a table that stood
  stood_each : (c : PlainCatalogue) (number : ℕ) (e : PlainEntry) → AllByRecursion Q c → slice_get c number ≡ Some e → Q e
  stood_each [] number e all at = absurd (cc at)
  stood_each (x ∷ xs) zero e all at = let same : x ≡ e = cc at in subst Q same all.0
  stood_each (x ∷ xs) (suc number) e all at = stood_each xs number e all.1 at

  -- of a catalogue that is rebuilt: each table has no page, or that of one that stood
  entry_each : (from : ℕ) (c : PlainCatalogue) (e : PlainEntry) (others : List Segment) → ((page : Extent) → e.page ≡ Some page → HasPageOf from c e page) → AllByRecursion Q c → Q (entry_filled from e others)
  entry_each from c e others pages all = by_page (page_behind (new_in from e.segments) e.page) refl
    where
      page_stays : (ss : List Segment) (page : Option Extent) (p : Extent) → page_behind ss page ≡ Some p → page ≡ Some p
      page_stays [] page p h = h
      page_stays (s ∷ ss) page p h = absurd (cc h)

      by_page : (o : Option Extent) → page_behind (new_in from e.segments) e.page ≡ o → Q (entry_filled from e others)
      by_page None h = pageless (entry_filled from e others) h
      by_page (Some p) h =
          let has = pages p (page_stays (new_in from e.segments) e.page p h) in
          let own : placed_in from e.segments ++ take (length (new_in from e.segments)) others ≡ has.old.segments =
          ap (λ (ns : List Segment). placed_in from e.segments ++ take (length ns) others) has.whole ∙ append-nil (placed_in from e.segments) ∙ all_placed from e.segments has.whole ∙ has.segments in
          alike (entry_filled from e others) has.old has.schema own (h ∙ sym has.paged) (stood_each c has.number has.old all has.stood)

  rebuilt_each : (from : ℕ) (c made : PlainCatalogue) (others : List Segment) → AllByRecursion (λ (e : PlainEntry). (page : Extent) → e.page ≡ Some page → HasPageOf from c e page) made
      → AllByRecursion Q c → AllByRecursion Q (filled from made others)
  unfolding filled
  rebuilt_each from c [] others pages all = tt
  rebuilt_each from c (e ∷ es) others pages all = (entry_each from c e others pages.0 all, rebuilt_each from c es (drop (length (new_in from e.segments)) others) pages.1 all)

  pub edited_each : OneSchema → (c : PlainCatalogue) (edit : PlainEdit) (streams : List (List ℕ)) (segments : List Segment) → IsCatalogue c → IsEdit c edit streams → AllByRecursion Q c → AllByRecursion Q (edited c edit segments)
  edited_each one c (put name schema) streams segments k can all =
      with_each c (new_entry name schema segments (page_instead (entry_of c name) schema segments)) all (by_entry (entry_of c name) refl)
    where
      by_entry : (o : Option PlainEntry) → entry_of c name ≡ o → Q (new_entry name schema segments (page_instead o schema segments))
      by_entry None h = pageless (new_entry name schema segments None) refl
      by_entry (Some old) h = over_each one name old schema segments (entry_is old (found_passes is_entry c name old k.entries h)).schema can.1 (found_each c name old all h)
  edited_each one c (extend name) streams segments k can all = more_each c name can.0 segments can.1 all
  edited_each one c (move from to) streams segments k can all =
      let e : PlainEntry = can.2.0 in
      subst (λ (d : PlainCatalogue). AllByRecursion Q d) (sym (renamed_is c from to e can.2.1))
      (with_each (without c from) (named to e) (without_each c from all) (alike (named to e) e refl refl refl (found_each c from e all can.2.1)))
  edited_each one c (remove name) streams segments k can all = without_each c name all
  edited_each one c (exchange name place count) streams segments k can all =
      let e : PlainEntry = can.0 in
      subst (λ (d : PlainCatalogue). AllByRecursion Q d) (sym (exchanged_is c name e can.1 place count segments)) (refilled_each c name (with_others e.segments place count segments) all)
  edited_each one c (digest ds) streams segments k can all = digested_each c ds all
  edited_each one c (rebuild old from made gone) streams segments k can all = rebuilt_each from c made segments can.pages all

-- ---- pages still say what the tables are

no_page : {G : Type 0} (o : Option Extent) (p : Extent) → o ≡ None → o ≡ Some p → G
no_page o p none some = absurd (cc (none, some))

module _ (size : ℕ) (image : Image) where
  same_form : (form : SegmentForm) → OneSchema → (c : PlainCatalogue) (edit : PlainEdit) (streams : List (List ℕ)) (segments : List Segment) → IsCatalogue c → IsEdit c edit streams → HoldsPages form size image c → HoldsPages form size image (edited c edit segments)
  same_form form one c edit streams segments k can holds =
      edited_each (HoldsPage form size image) (λ e none p here. no_page e.page p none here)
      (λ e f schema segments page h p here.
      (λ i. page_in form size image (length (segments i)) p) ∙ h p (sym page ∙ here) ∙ (λ i. Ok (sym schema i, sym segments i)))
      one c edit streams segments k can holds

  -- also in the form of the version after the edit
  pub edited_holds : (v : FormatVersion) → OneSchema → (c : PlainCatalogue) (edit : PlainEdit) (streams : List (List ℕ)) (segments : List Segment) → IsCatalogue c → IsEdit c edit streams → HoldsPages (form_of v) size image c
      → HoldsPages (form_of (version_after edit v)) size image (edited c edit segments)
  edited_holds v one c (put name schema) streams segments k can holds = same_form (form_of v) one c (put name schema) streams segments k can holds
  edited_holds v one c (extend name) streams segments k can holds = same_form (form_of v) one c (extend name) streams segments k can holds
  edited_holds v one c (move from to) streams segments k can holds = same_form (form_of v) one c (move from to) streams segments k can holds
  edited_holds v one c (remove name) streams segments k can holds = same_form (form_of v) one c (remove name) streams segments k can holds
  edited_holds v one c (exchange name place count) streams segments k can holds = same_form (form_of v) one c (exchange name place count) streams segments k can holds
  edited_holds v one c (rebuild old from made gone) streams segments k can holds = same_form (form_of v) one c (rebuild old from made gone) streams segments k can holds
  edited_holds v one c (digest ds) streams segments k can holds = digested_holds size image (form_of v) c ds holds

-- ---- and are among the runs that were named

-- the run of the page of an entry is one of these
abbrev pub IsPageAmong : List Run → PlainEntry → Type 0
IsPageAmong rs e = (p : Extent) → e.page ≡ Some p → is_among rs p.run ≡ true

among_left : (xs ys : List Run) (run : Run) → is_among xs run ≡ true → is_among (xs ++ ys) run ≡ true
among_left xs ys run is = among_both xs ys run ∙ ap (λ (t : Bool). t || is_among ys run) is

among_right : (xs ys : List Run) (run : Run) → is_among ys run ≡ true → is_among (xs ++ ys) run ≡ true
among_right xs ys run is = among_both xs ys run ∙ or_right (is_among xs run) (is_among ys run) is

own_page : (e : PlainEntry) (p : Extent) → e.page ≡ Some p → is_among (runs_in e) p.run ≡ true
own_page e p here = among_left (page_runs e.page) (map (λ (s : Segment). s.place.run) e.segments) p.run (ap (λ (o : Option Extent). is_among (page_runs o) p.run) here ∙ ap (λ (t : Bool). t || false) (same_itself p.run))

own_pages : (c : PlainCatalogue) (rs : List Run) → ((run : Run) → is_among (runs_of c) run ≡ true → is_among rs run ≡ true) → AllByRecursion (IsPageAmong rs) c
own_pages [] rs within = tt
own_pages (e ∷ es) rs within =
    ((λ p here. within p.run (among_left (runs_in e) (runs_of es) p.run (own_page e p here))), own_pages es rs (λ run is. within run (among_right (runs_in e) (runs_of es) run is)))

pub edited_pages : OneSchema → (c : PlainCatalogue) (edit : PlainEdit) (streams : List (List ℕ)) (segments : List Segment) → IsCatalogue c → IsEdit c edit streams → AllByRecursion (IsPageAmong (runs_of c)) (edited c edit segments)
edited_pages one c edit streams segments k can =
    edited_each (IsPageAmong (runs_of c)) (λ e none p here. no_page e.page p none here) (λ e f schema segments page h p here. h p (sym page ∙ here)) one c edit streams segments k can (own_pages c (runs_of c) (λ run is. is))

-- so are the runs of all pages
page_listed : (rs : List Run) (o : Option Extent) (run : Run) → ((p : Extent) → o ≡ Some p → is_among rs p.run ≡ true) → is_among (page_runs o) run ≡ true → is_among rs run ≡ true
page_listed rs None run among is = absurd (cc is)
page_listed rs (Some p) run among is = by_test (same_run p.run run) refl is
  where
    by_test : (t : Bool) → same_run p.run run ≡ t → (t || false) ≡ true → is_among rs run ≡ true
    by_test true same or = subst (λ (r : Run). is_among rs r ≡ true) (same_run_is p.run run same) (among p refl)
    by_test false same or = absurd (cc or)

pub pages_listed : (c : PlainCatalogue) (rs : List Run) (run : Run) → AllByRecursion (IsPageAmong rs) c → is_among (flat_map (λ (e : PlainEntry). page_runs e.page) c) run ≡ true → is_among rs run ≡ true
pages_listed [] rs run all is = absurd (cc is)
pages_listed (e ∷ es) rs run all is = by_test (λ later. pages_listed es rs run all.1 later) (is_among (page_runs e.page) run) refl (sym (among_both (page_runs e.page) (flat_map (λ (x : PlainEntry). page_runs x.page) es) run) ∙ is)
  where
    by_test : (is_among (flat_map (λ (x : PlainEntry). page_runs x.page) es) run ≡ true → is_among rs run ≡ true) → (t : Bool) → is_among (page_runs e.page) run ≡ t → (is_among (page_runs e.page) run || is_among (flat_map (λ (x : PlainEntry). page_runs x.page) es) run) ≡ true → is_among rs run ≡ true
    by_test later true here or = page_listed rs e.page run all.0 here
    by_test later false here or = later (ap (λ (t : Bool). t || is_among (flat_map (λ (x : PlainEntry). page_runs x.page) es) run) (sym here) ∙ or)

-- a sector of such a run lies in some of them
pub among_sectors : (rs : List Run) (run : Run) (n : ℕ) → is_among rs run ≡ true → run.start ≤ n → n < run.start + run.count → InSome rs n
among_sectors [] run n is low high = absurd (cc is)
among_sectors (r ∷ rs) run n is low high = by_test (λ later. among_sectors rs run n later low high) (same_run r run) refl is
  where
    by_test : (is_among rs run ≡ true → InSome rs n) → (t : Bool) → same_run r run ≡ t → (t || is_among rs run) ≡ true → InSome (r ∷ rs) n
    by_test later true same or = let here : r ≡ run = same_run_is r run same in inl (subst (λ (x : Run). (x.start ≤ n) × (n < x.start + x.count)) (sym here) (low, high))
    by_test later false same or = inr (later or)
