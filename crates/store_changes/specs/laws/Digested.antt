-- What an upgrade has read: each digest is that of bytes that reads gave of its segment.
use Rattle.std.specs.Prelude.{◌≡◌, ◌++◌, ℕ, Bool, List, [], ◌∷◌, flat_map}
use Rattle.std.proofs.Common.{refl, sym, ap, subst}
use Rattle.sha2.specs.Sha256.{sha256}
use Rattle.sector_dev.specs.Disk.{Image}
use Rattle.arrow_schema.specs.Column.{PlainSchema}
use Rattle.cells.specs.Cell.{Cell}
use Rattle.catalogue.specs.declared.entry.Segment.{Segment}
use Rattle.catalogue.specs.Entries.{PlainEntry, PlainCatalogue}
use Rattle.store_runs.specs.Reading.{IsCopy}
use Rattle.store_runs.specs.Digesting.{AreDigested, AllDigested}

-- the segments of all tables, one after another
abbrev pub segments_of : PlainCatalogue → List Segment
segments_of c = flat_map (λ (e : PlainEntry). e.segments) c

-- these are the digests of bytes that were read of segments, whatever these mean
abbrev pub AreDigests : (tells : Bool) → Image → List Segment → List (List ℕ) → Type 0
AreDigests tells image [] digests = digests ≡ []
AreDigests tells image (g ∷ gs) [] = ⊥
AreDigests tells image (g ∷ gs) (d ∷ ds) = ((bytes : List ℕ) × IsCopy tells image g bytes × (d ≡ sha256 bytes)) × AreDigests tells image gs ds

module _ (tells : Bool) (image : Image) where
  digests_behind : (a b : List Segment) (ds es : List (List ℕ)) → AreDigests tells image a ds → AreDigests tells image b es → AreDigests tells image (a ++ b) (ds ++ es)
  digests_behind [] b ds es none more = subst (λ (xs : List (List ℕ)). AreDigests tells image b (xs ++ es)) (sym none) more
  digests_behind (g ∷ gs) b [] es are more = absurd are
  digests_behind (g ∷ gs) b (d ∷ ds) es are more = (are.0, digests_behind gs b ds es are.1 more)

  are_digests : (schema : PlainSchema) (gs : List Segment) (rows : List (List Cell)) (ds : List (List ℕ)) → AreDigested tells image schema gs rows ds
      → AreDigests tells image gs ds
  are_digests schema [] rows ds none = none.1
  are_digests schema (g ∷ gs) rows [] are = absurd are
  are_digests schema (g ∷ gs) rows (d ∷ ds) (own, others, read, is, later, all) =
      ((read.bytes, read.copy, is), are_digests schema gs others ds later)

  pub all_are_digests : (c : PlainCatalogue) (ds : List (List ℕ)) → AllDigested tells image c ds → AreDigests tells image (segments_of c) ds
  all_are_digests [] ds none = none
  all_are_digests (e ∷ es) ds (first, others, one, later, all) =
      subst (AreDigests tells image (segments_of (e ∷ es))) (sym all)
      (digests_behind e.segments (segments_of es) first others (are_digests e.schema e.segments one.table.rows first one.own) (all_are_digests es others later))
