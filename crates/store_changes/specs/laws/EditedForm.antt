-- An edited catalogue keeps the form of its segments, where the new ones have it.
use Rattle.std.specs.Prelude.{◌≡◌, ◌++◌, ℕ, Bool, true, false, if◌then◌else◌, List, [], ◌∷◌, take, drop, map, Option, Some, None, refl}
use Rattle.std.proofs.Common.{sym, ap, ◌∙◌, arith}
use Rattle.std.proofs.lemmas.Bool.{and_parts, and_from}
use Rattle.std.proofs.lemmas.List.Folds.{list_all-append}
use Rattle.catalogue.specs.declared.entry.Segment.{Segment}
use Rattle.catalogue.specs.declared.entry.SegmentForm.{SegmentForm}
use Rattle.catalogue.specs.Entries.{PlainEntry, PlainCatalogue, bare, has_digest, has_digests, has_form}
use Rattle.catalogue.specs.Edits.{entry_of, without, named, from_place, with_others}
use Rattle.catalogue.specs.laws.Order.{with_all, without_all}
use Rattle.catalogue.specs.laws.Digests.{digested_form}
use Rattle.catalogue.specs.laws.Changed.{parted, found_passes, refilled_all, renamed_is, more_is, exchanged_is}
use Rattle.commit.specs.declared.sector.FormatVersion.{FormatVersion}
use Rattle.pages.specs.Stored.{form_of}
use Rattle.pages.specs.Paging.{is_whole, in_first, tail_of, with_pages, settled}
use Rattle.segments.specs.declared.extent.Extent.{Extent}
use Rattle.segments.specs.declared.run.Run.{Run}
use Rattle.store_runs.specs.Changes.{PlainEdit, put, extend, move, remove, exchange, digest, rebuild, new_entry, page_instead, edited, version_after, IsEdit}
use Rattle.store_changes.specs.laws.Filled.{filled_form}

-- ---- where pages lie makes no difference

module _ (form : SegmentForm) where
  bare_has : (c : PlainCatalogue) → has_form form c ≡ true → has_form form (map bare c) ≡ true
  bare_has [] all = refl
  bare_has (e ∷ es) all =
      let parts = and_parts (has_digests form e.segments) (has_form form es) all in
      and_from (has_digests form e.segments) (has_form form (map bare es)) parts.0 (bare_has es parts.1)

  first_has : (e : PlainEntry) (runs : List Run) → has_digests form e.segments ≡ true → has_digests form (in_first e runs).segments ≡ true
  first_has e [] all = all
  first_has e (run ∷ runs) all = all

  paged_has : (c : PlainCatalogue) (runs : List Run) → has_form form c ≡ true → has_form form (with_pages c runs) ≡ true
  paged_has [] runs all = refl
  paged_has (e ∷ es) runs all =
      let parts = and_parts (has_digests form e.segments) (has_form form es) all in
      by_page parts.0 (λ rs. paged_has es rs parts.1) e.page
    where
      by_page : has_digests form e.segments ≡ true → ((rs : List Run) → has_form form (with_pages es rs) ≡ true) → (o : Option Extent)
          → has_form form (elim o [ Some p ↦ e ∷ with_pages es runs | None ↦ in_first e runs ∷ with_pages es (tail_of runs) ]) ≡ true
      by_page own others (Some p) = and_from (has_digests form e.segments) (has_form form (with_pages es runs)) own (others runs)
      by_page own others None =
          and_from (has_digests form (in_first e runs).segments) (has_form form (with_pages es (tail_of runs))) (first_has e runs own) (others (tail_of runs))

  pub settled_form : (c : PlainCatalogue) (runs : List Run) → has_form form c ≡ true → has_form form (settled c runs) ≡ true
  settled_form c runs all = by_kind (is_whole c)
    where
      by_kind : (b : Bool) → has_form form (if b then map bare c else with_pages c runs) ≡ true
      by_kind true = bare_has c all
      by_kind false = paged_has c runs all

-- ---- after an edit

module _ (v : FormatVersion) where
  abbrev form : SegmentForm
  form = form_of v

  abbrev pub entry_has : PlainEntry → Bool
  entry_has e = has_digests form e.segments

  both_have : (a b : List Segment) → has_digests form a ≡ true → has_digests form b ≡ true → has_digests form (a ++ b) ≡ true
  both_have a b one other = list_all-append (λ (s : Segment). has_digest form s.digest) a b ∙ and_from (has_digests form a) (has_digests form b) one other

  parts_have : (a b : List Segment) → has_digests form (a ++ b) ≡ true → (has_digests form a ≡ true) × (has_digests form b ≡ true)
  parts_have a b all = and_parts (has_digests form a) (has_digests form b) (sym (list_all-append (λ (s : Segment). has_digest form s.digest) a b) ∙ all)

  others_have : (segments : List Segment) (place count : ℕ) (others : List Segment) → has_digests form segments ≡ true → has_digests form others ≡ true → has_digests form (with_others segments place count others) ≡ true
  others_have segments place count others all each =
      let front = take place segments in
      let gone = from_place segments place count in
      let rest = drop count (drop place segments) in
      let first = parts_have front (gone ++ rest) (ap (has_digests form) (sym (parted segments place count)) ∙ all) in
      both_have front (others ++ rest) first.0 (both_have others rest each (parts_have gone rest first.1).1)

  -- the form of the version after the edit
  pub edited_form : (c : PlainCatalogue) (edit : PlainEdit) (streams : List (List ℕ)) (segments : List Segment) → IsEdit c edit streams → has_form form c ≡ true → has_digests form segments ≡ true
      → has_form (form_of (version_after edit v)) (edited c edit segments) ≡ true
  edited_form c (put name schema) streams segments can all each = with_all entry_has c (new_entry name schema segments (page_instead (entry_of c name) schema segments)) all each
  edited_form c (extend name) streams [] can all each = all
  edited_form c (extend name) streams (s ∷ ss) can all each =
      let e : PlainEntry = can.0 in
      ap (has_form form) (more_is c name e s ss can.1)
      ∙ refilled_all entry_has c name (e.segments ++ s ∷ ss) (λ x is. both_have e.segments (s ∷ ss) (found_passes entry_has c name e all can.1) each) all
  edited_form c (move from to) streams segments can all each =
      let e : PlainEntry = can.2.0 in
      ap (has_form form) (renamed_is c from to e can.2.1) ∙ with_all entry_has (without c from) (named to e) (without_all entry_has c from all) (found_passes entry_has c from e all can.2.1)
  edited_form c (remove name) streams segments can all each = without_all entry_has c name all
  edited_form c (exchange name place count) streams segments can all each =
      let e : PlainEntry = can.0 in
      ap (has_form form) (exchanged_is c name e can.1 place count segments)
      ∙ refilled_all entry_has c name (with_others e.segments place count segments) (λ x is. others_have e.segments place count segments (found_passes entry_has c name e all can.1) each) all
  edited_form c (rebuild old from made gone) streams segments can all each = filled_form from form made segments (can.forms form all) each
  edited_form c (digest ds) streams segments can all each = let number = can.0 in digested_form c ds (omega (arith, number))
