-- Adding digests to segments leaves the rows of their tables as they are, if they are the digests of the bytes in the segments.
use Rattle.std.specs.Prelude.{◌≡◌, ◌++◌, ◌+◌, ℕ, Bool, true, List, [], ◌∷◌, length, map, take, drop, sum_by, Option, Some, refl}
use Rattle.std.specs.List.{list_all}
use Rattle.std.proofs.Common.{inl, inr, ⊎_elim, sym, ap, ◌∙◌, subst, arith}
use Rattle.std.proofs.lemmas.Bool.{and_parts, and_from, eq-eqb}
use Rattle.std.proofs.lemmas.List.Folds.{list_all-append}
use Rattle.std.proofs.lemmas.List.{length-append, map-append}
use Rattle.std.proofs.lemmas.List.Sums.{sum_by-cons}
use Rattle.std.proofs.lemmas.Slice.Eq.{bytes_eq-Decides}
use Rattle.sha2.specs.Sha256.{sha256}
use Rattle.sha2.proofs.Facts256.{length-sha256}
use Rattle.sector_dev.specs.Disk.{Image}
use Rattle.arrow_schema.specs.Column.{PlainSchema}
use Rattle.cells.specs.Cell.{Cell}
use Rattle.catalogue.specs.declared.entry.Segment.{Segment}
use Rattle.segments.specs.declared.run.Run.{Run}
use Rattle.segments.specs.laws.ReadBack.{same_bytes}
use Rattle.catalogue.specs.Entries.{PlainEntry, PlainCatalogue, is_digest, is_segment, is_entry, page_runs, runs_in, runs_of, segment_count, IsCatalogue}
use Rattle.catalogue.specs.laws.Kept.{entry_is}
use Rattle.commit.specs.Standing.{InSome}
use Rattle.catalogue.specs.Edits.{with_digest, with_digests, entry_digested, digested}
use Rattle.store_runs.specs.Held.{is_undamaged, bytes_of, rows_in_segment, segment_rows, joined_rows, rows_held, table_of_rows, rows_or_unknown, rows_known, held_entry, each_listed}
use Rattle.store_changes.specs.laws.Digests.{rows_undamaged}
use Rattle.store_changes.specs.laws.Digested.{segments_of, AreDigests}
use Rattle.store_changes.specs.laws.ExchangedRuns.{run_of}
use Rattle.store.specs.laws.Exported.{in_either}
use Rattle.pages.specs.laws.Local.{in_left, in_right}
use Rattle.store_changes.specs.laws.Frame.{held_as, named_table, tables_by_table, HoldsAlike, sectors_of}

-- ---- the number of digests, and of their bytes

pub digests_number : (tells : Bool) (image : Image) (gs : List Segment) (ds : List (List ℕ)) → AreDigests tells image gs ds → length ds ≡ length gs
digests_number tells image [] ds are = ap (λ (xs : List (List ℕ)). length xs) are
digests_number tells image (g ∷ gs) [] are = absurd are
digests_number tells image (g ∷ gs) (d ∷ ds) are = let more = digests_number tells image gs ds are.1 in omega (arith, more)

pub segments_number : (c : PlainCatalogue) → length (segments_of c) ≡ segment_count c
segments_number [] = refl
segments_number (e ∷ es) =
    omega (arith, segments_number es, length-append e.segments (segments_of es), sum_by-cons (λ (x : PlainEntry). length x.segments) e es)

pub digests_are : (tells : Bool) (image : Image) (gs : List Segment) (ds : List (List ℕ)) → AreDigests tells image gs ds → list_all (λ (d : List ℕ). is_digest (Some d)) ds ≡ true
digests_are tells image [] ds are = ap (list_all (λ (d : List ℕ). is_digest (Some d))) are
digests_are tells image (g ∷ gs) [] are = absurd are
digests_are tells image (g ∷ gs) (d ∷ ds) are =
    and_from (is_digest (Some d)) (list_all (λ (x : List ℕ). is_digest (Some x)) ds) (eq-eqb _ _ (ap (λ (x : List ℕ). length x) are.0.2 ∙ length-sha256 are.0.0)) (digests_are tells image gs ds are.1)

-- ---- the rows that an image has

-- the digests of the bytes that an image has in segments, which are those that were written
abbrev pub OwnDigests : Image → List Segment → List (List ℕ) → Type 0
OwnDigests image [] ds = ds ≡ []
OwnDigests image (g ∷ gs) [] = ⊥
OwnDigests image (g ∷ gs) (d ∷ ds) = ((bytes : List ℕ) × (bytes_of g image ≡ Some bytes) × (is_undamaged g.digest (Some bytes) ≡ true) × (d ≡ sha256 bytes)) × OwnDigests image gs ds

own_parts : (image : Image) (a b : List Segment) (ds : List (List ℕ)) → OwnDigests image (a ++ b) ds → OwnDigests image a (take (length a) ds) × OwnDigests image b (drop (length a) ds)
own_parts image [] b ds own = (refl, own)
own_parts image (g ∷ gs) b [] own = absurd own
own_parts image (g ∷ gs) b (d ∷ ds) own = let parts = own_parts image gs b ds own.1 in ((own.0, parts.0), parts.1)

segment_same : (image : Image) (schema : PlainSchema) (g : Segment) (d bytes : List ℕ) → bytes_of g image ≡ Some bytes → is_undamaged g.digest (Some bytes) ≡ true → d ≡ sha256 bytes
    → segment_rows schema (with_digest g d) image ≡ segment_rows schema g image
unfolding segment_rows
segment_same image schema g d bytes held undamaged is =
    let own : is_undamaged (Some d) (Some bytes) ≡ true = (bytes_eq-Decides (sha256 bytes) d).1 (sym is) in
    ap (rows_in_segment schema (with_digest g d)) held ∙ rows_undamaged schema (with_digest g d) (Some bytes) own ∙ sym (ap (rows_in_segment schema g) held ∙ rows_undamaged schema g (Some bytes) undamaged)

rows_same : (image : Image) (schema : PlainSchema) (gs : List Segment) (ds : List (List ℕ)) → OwnDigests image gs ds → rows_held schema (with_digests gs ds) image ≡ rows_held schema gs image
unfolding rows_held
rows_same image schema [] ds own = refl
rows_same image schema (g ∷ gs) [] own = absurd own
rows_same image schema (g ∷ gs) (d ∷ ds) own =
    λ i. joined_rows (segment_same image schema g d own.0.0 own.0.1 own.0.2 own.0.3 i) (rows_same image schema gs ds own.1 i)

known_same : (image : Image) (schema : PlainSchema) (gs : List Segment) (ds : List (List ℕ)) → OwnDigests image gs ds → rows_known schema (with_digests gs ds) image ≡ rows_known schema gs image
unfolding rows_known
known_same image schema [] ds own = refl
known_same image schema (g ∷ gs) [] own = absurd own
known_same image schema (g ∷ gs) (d ∷ ds) own =
    let first = segment_same image schema g d own.0.0 own.0.1 own.0.2 own.0.3 in
    let others = known_same image schema gs ds own.1 in
    λ i. rows_or_unknown g.rows (first i) ++ others i

-- what is asked of each entry stays, if digests make no difference to it
digested_mapped : {X : Type 0} (f : PlainEntry → X) (image : Image) → ((e : PlainEntry) (ds : List (List ℕ)) → OwnDigests image e.segments ds → f (entry_digested e ds) ≡ f e)
    → (c : PlainCatalogue) (ds : List (List ℕ)) → OwnDigests image (segments_of c) ds → map f (digested c ds) ≡ map f c
unfolding digested
digested_mapped f image each [] ds own = refl
digested_mapped f image each (e ∷ es) ds own =
    let parts = own_parts image e.segments (segments_of es) ds own in
    let first = each e (take (length e.segments) ds) parts.0 in
    let others = digested_mapped f image each es (drop (length e.segments) ds) parts.1 in
    λ i. first i ∷ others i

digested_alike : (image : Image) (c : PlainCatalogue) (ds : List (List ℕ)) → OwnDigests image (segments_of c) ds → HoldsAlike image c (digested c ds)
digested_alike image c ds own = (
  digested_mapped (held_entry image) image (λ e some of. ap (held_as e) (known_same image e.schema e.segments some of)) c ds own,
  tables_by_table image image (digested c ds) c
      (digested_mapped (named_table image) image (λ e some of. ap (λ (o : Option (List (List Cell))). (e.name, table_of_rows e.schema o)) (rows_same image e.schema e.segments some of)) c ds own),
)

-- as many as before, of any digests
same_number : (gs : List Segment) (ds : List (List ℕ)) → sum_by (λ (g : Segment). g.rows) (with_digests gs ds) ≡ sum_by (λ (g : Segment). g.rows) gs
same_number [] ds = refl
same_number (g ∷ gs) [] = omega (arith, same_number gs [], sum_by-cons (λ (x : Segment). x.rows) g (with_digests gs []), sum_by-cons (λ (x : Segment). x.rows) g gs)
same_number (g ∷ gs) (d ∷ ds) =
    omega (arith, same_number gs ds, sum_by-cons (λ (x : Segment). x.rows) (with_digest g d) (with_digests gs ds), sum_by-cons (λ (x : Segment). x.rows) g gs)

pub digested_listed : (c : PlainCatalogue) (ds : List (List ℕ)) → each_listed (digested c ds) ≡ each_listed c
unfolding digested
digested_listed [] ds = refl
digested_listed (e ∷ es) ds =
    let number = same_number e.segments (take (length e.segments) ds) in
    let others = digested_listed es (drop (length e.segments) ds) in
    λ i. (e.name, e.schema, number i) ∷ others i

-- ---- from the digests of what was read

-- the segments of the tables of a catalogue are sound
segments_sound : (c : PlainCatalogue) → list_all is_entry c ≡ true → list_all is_segment (segments_of c) ≡ true
segments_sound [] all = refl
segments_sound (e ∷ es) all =
    let parts = and_parts (is_entry e) (list_all is_entry es) all in
    list_all-append is_segment e.segments (segments_of es) ∙ and_from (list_all is_segment e.segments) (list_all is_segment (segments_of es)) (entry_is e parts.0).segments (segments_sound es parts.1)

-- and their sectors are among those that the catalogue names
own_sectors : (c : PlainCatalogue) (n : ℕ) → InSome (map run_of (segments_of c)) n → InSome (runs_of c) n
own_sectors [] n within = within
own_sectors (e ∷ es) n within =
    ⊎_elim (λ (here : InSome (map run_of e.segments) n). in_left (runs_in e) (runs_of es) n (in_right (page_runs e.page) (map run_of e.segments) n here)) (λ (later : InSome (map run_of (segments_of es)) n). in_right (runs_in e) (runs_of es) n (own_sectors es n later))
    (in_either (map run_of e.segments) (map run_of (segments_of es)) n (subst (λ (rs : List Run). InSome rs n) (map-append run_of e.segments (segments_of es)) within))

module _ (tells : Bool) (told : tells ≡ true) (shown image : Image) where
  -- an image with the bytes in these segments that reads showed
  each_own : (gs : List Segment) (ds : List (List ℕ)) → list_all is_segment gs ≡ true → ((n : ℕ) → InSome (map run_of gs) n → image n ≡ shown n) → AreDigests tells shown gs ds → OwnDigests image gs ds
  each_own [] ds all same are = are
  each_own (g ∷ gs) [] all same are = absurd are
  each_own (g ∷ gs) (d ∷ ds) all same are =
      let parts = and_parts (is_segment g) (list_all is_segment gs) all in
      let count = sectors_of g parts.0 in
      let bytes = are.0.0 in
      let there : bytes_of g image ≡ bytes_of g shown = same_bytes image shown g.place.run.start g.place.bytes (λ j lt. same (g.place.run.start + j) (inl (omega arith, omega (arith, count, lt)))) in
      ((bytes, there ∙ are.0.1.held told, are.0.1.undamaged, are.0.2), each_own gs ds parts.1 (λ n within. same n (inr within)) are.1)

  pub digests_each : (c : PlainCatalogue) (ds : List (List ℕ)) → IsCatalogue c → ((n : ℕ) → InSome (runs_of c) n → image n ≡ shown n) → AreDigests tells shown (segments_of c) ds → HoldsAlike image c (digested c ds)
  digests_each c ds k same are = digested_alike image c ds (each_own (segments_of c) ds (segments_sound c k.entries) (λ n within. same n (own_sectors c n within)) are)
