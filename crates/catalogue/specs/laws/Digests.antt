-- A catalogue with digests set.
use Rattle.std.proofs.Common.{◌≡◌, ◌≤◌, ℕ, Bool, true, List, [], ◌∷◌, length, take, drop, take-append-drop, Option, Some, refl, sym, ap, ◌∙◌, arith}
use Rattle.std.specs.List.{list_all}
use Rattle.std.proofs.lemmas.Bool.{and_parts, and_from}
use Rattle.std.proofs.lemmas.List.{length-map, length-take, length-drop}
use Rattle.std.proofs.lemmas.List.Folds.{list_all-append}
use Rattle.std.proofs.lemmas.List.Sums.{sum_by-cons}
use Rattle.segments.specs.declared.run.Run.{Run}
use Rattle.segments.specs.declared.extent.Extent.{Extent}
use Rattle.catalogue.specs.declared.entry.Segment.{Segment}
use Rattle.catalogue.specs.declared.entry.SegmentForm.TheVariants.{Digested}
use Rattle.catalogue.specs.Entries.{PlainEntry, PlainCatalogue, is_digest, is_segment, is_page, is_entry, names_of, ascends, segment_count, runs_in_segments, is_catalogue, has_digests, has_form}
use Rattle.catalogue.specs.Edits.{page_behind, with_digest, with_digests, entry_digested, digested}
use Rattle.catalogue.specs.laws.Kept.{segment_is, segment_stands, entry_is, entry_stands, passes_catalogue, catalogue_is}

-- ---- segments

pub digests_count : (ss : List Segment) (ds : List (List ℕ)) → length (with_digests ss ds) ≡ length ss
digests_count [] ds = refl
digests_count (s ∷ ss) [] = omega (arith, digests_count ss [])
digests_count (s ∷ ss) (d ∷ ds) = omega (arith, digests_count ss ds)

-- their runs are unchanged
pub digests_runs : (ss : List Segment) (ds : List (List ℕ)) → runs_in_segments (with_digests ss ds) ≡ runs_in_segments ss
digests_runs [] ds = refl
digests_runs (s ∷ ss) [] = ap (λ (rs : List Run). s.place.run ∷ rs) (digests_runs ss [])
digests_runs (s ∷ ss) (d ∷ ds) = ap (λ (rs : List Run). s.place.run ∷ rs) (digests_runs ss ds)

-- each of these is a digest
abbrev pub are_digests : List (List ℕ) → Type 0
are_digests ds = list_all (λ (d : List ℕ). is_digest (Some d)) ds ≡ true

pub digests_sound : (ss : List Segment) (ds : List (List ℕ)) → list_all is_segment ss ≡ true → are_digests ds → list_all is_segment (with_digests ss ds) ≡ true
digests_sound [] ds all sized = refl
digests_sound (s ∷ ss) [] all sized =
    let parts = and_parts (is_segment s) (list_all is_segment ss) all in
    and_from (is_segment s) (list_all is_segment (with_digests ss [])) parts.0 (digests_sound ss [] parts.1 refl)
digests_sound (s ∷ ss) (d ∷ ds) all sized =
    let parts = and_parts (is_segment s) (list_all is_segment ss) all in
    let digest = and_parts (is_digest (Some d)) (list_all (λ (x : List ℕ). is_digest (Some x)) ds) sized in
    let is = segment_is s parts.0 in
    and_from (is_segment (with_digest s d)) (list_all is_segment (with_digests ss ds))
    (segment_stands (with_digest s d) (record { place = is.place; rows = is.rows; digest = digest.0 })) (digests_sound ss ds parts.1 digest.1)

pub digests_form : (ss : List Segment) (ds : List (List ℕ)) → length ss ≤ length ds → has_digests Digested (with_digests ss ds) ≡ true
digests_form [] ds enough = refl
digests_form (s ∷ ss) [] enough = absurd (omega (arith, enough))
digests_form (s ∷ ss) (d ∷ ds) enough = digests_form ss ds (omega (arith, enough))

-- ---- entries

stays_page : (ss : List Segment) (page : Option Extent) → is_page page ≡ true → is_page (page_behind ss page) ≡ true
stays_page [] page is = is
stays_page (s ∷ ss) page is = refl

entry_sound : (e : PlainEntry) (ds : List (List ℕ)) → is_entry e ≡ true → are_digests ds → is_entry (entry_digested e ds) ≡ true
entry_sound e ds h sized =
    let is = entry_is e h in
    entry_stands (entry_digested e ds) is.name is.schema (digests_sound e.segments ds is.segments sized) (stays_page e.segments e.page is.page)

front_and_back : (n : ℕ) (ds : List (List ℕ)) → are_digests ds → are_digests (take n ds) × are_digests (drop n ds)
front_and_back n ds sized =
    let p : List ℕ → Bool = λ d. is_digest (Some d) in
    and_parts (list_all p (take n ds)) (list_all p (drop n ds)) (sym (list_all-append p (take n ds) (drop n ds)) ∙ ap (list_all p) (take-append-drop n ds) ∙ sized)

-- ---- catalogues

pub digested_names : (c : PlainCatalogue) (ds : List (List ℕ)) → names_of (digested c ds) ≡ names_of c
unfolding digested
digested_names [] ds = refl
digested_names (e ∷ es) ds = ap (λ (ns : List (List ℕ)). e.name ∷ ns) (digested_names es (drop (length e.segments) ds))

pub digested_length : (c : PlainCatalogue) (ds : List (List ℕ)) → length (digested c ds) ≡ length c
digested_length c ds = sym (length-map (digested c ds) (λ (e : PlainEntry). e.name)) ∙ ap (λ (ns : List (List ℕ)). length ns) (digested_names c ds) ∙ length-map c (λ (e : PlainEntry). e.name)

pub digested_count : (c : PlainCatalogue) (ds : List (List ℕ)) → segment_count (digested c ds) ≡ segment_count c
unfolding digested
digested_count [] ds = refl
digested_count (e ∷ es) ds =
    let count : PlainEntry → ℕ = λ (x : PlainEntry). length x.segments in
    let front = take (length e.segments) ds in
    let rest = drop (length e.segments) ds in
    omega (arith, digested_count es rest, digests_count e.segments front, sum_by-cons count e es, sum_by-cons count (entry_digested e front) (digested es rest))

digested_entries : (c : PlainCatalogue) (ds : List (List ℕ)) → list_all is_entry c ≡ true → are_digests ds → list_all is_entry (digested c ds) ≡ true
unfolding digested
digested_entries [] ds all sized = refl
digested_entries (e ∷ es) ds all sized =
    let parts = and_parts (is_entry e) (list_all is_entry es) all in
    let front = take (length e.segments) ds in
    let rest = drop (length e.segments) ds in
    let own = front_and_back (length e.segments) ds sized in
    and_from (is_entry (entry_digested e front)) (list_all is_entry (digested es rest)) (entry_sound e front parts.0 own.0) (digested_entries es rest parts.1 own.1)

pub digested_stands : (c : PlainCatalogue) (ds : List (List ℕ)) → is_catalogue c ≡ true → are_digests ds → is_catalogue (digested c ds) ≡ true
digested_stands c ds kept sized =
    let k = catalogue_is c kept in
    let tables = k.tables in
    let segments = k.segments in
    passes_catalogue (digested c ds) (record {
      entries = digested_entries c ds k.entries sized;
      order = ap ascends (digested_names c ds) ∙ k.order;
      tables = omega (arith, tables, digested_length c ds);
      segments = omega (arith, segments, digested_count c ds);
    })

-- if there is a digest for each segment, the catalogue has the form with digests
pub digested_form : (c : PlainCatalogue) (ds : List (List ℕ)) → segment_count c ≤ length ds → has_form Digested (digested c ds) ≡ true
unfolding digested
digested_form [] ds enough = refl
digested_form (e ∷ es) ds enough =
    let front = take (length e.segments) ds in
    let rest = drop (length e.segments) ds in
    let count = sum_by-cons (λ (x : PlainEntry). length x.segments) e es in
    and_from (has_digests Digested (with_digests e.segments front)) (has_form Digested (digested es rest))
    (digests_form e.segments front (omega (arith, enough, count, length-take (length e.segments) ds)))
    (digested_form es rest (omega (arith, enough, count, length-drop (length e.segments) ds)))
