-- Rows of a segment come only of bytes that have the digest of its entry.
use Rattle.std.specs.Prelude.{◌≡◌, ◌++◌, Bool, true, false, List, [], ◌∷◌, Option, Some, None, if◌then◌else◌, refl}
use Rattle.std.proofs.Common.{ℕ, sym, ap, ◌∙◌, append-nil, append_assoc}
use Rattle.std.proofs.lemmas.Slice.Eq.{bytes_eq-Decides}
use Rattle.sha2.specs.Sha256.{sha256}
use Rattle.sector_dev.specs.Disk.{Image}
use Rattle.arrow_schema.specs.Column.{PlainSchema}
use Rattle.cells.specs.Cell.{Cell}
use Rattle.catalogue.specs.declared.entry.Segment.{Segment}
use Rattle.store_runs.specs.Held.{is_undamaged, bytes_of, rows_in_bytes, rows_in_segment, segment_rows}
use Rattle.tables.specs.declared.refusal.Refusal.{Refusal}
use Rattle.tables.specs.declared.refusal.Refusal.TheVariants as refusals
use Rattle.store_runs.specs.Reading.{IsCopy, LacksBytes, HasRead, HaveRead, LacksRows}

-- ---- bytes of a segment

module _ (schema : PlainSchema) (g : Segment) where
  -- those that are undamaged hold the rows that they mean
  pub rows_undamaged : (bytes : Option (List ℕ)) → is_undamaged g.digest bytes ≡ true → rows_in_segment schema g bytes ≡ rows_in_bytes schema g.rows bytes
  rows_undamaged bytes is = ap (λ (b : Bool). if b then rows_in_bytes schema g.rows bytes else None) is

  -- others hold none
  pub rows_damaged : (bytes : Option (List ℕ)) → is_undamaged g.digest bytes ≡ false → rows_in_segment schema g bytes ≡ None
  rows_damaged bytes is = ap (λ (b : Bool). if b then rows_in_bytes schema g.rows bytes else None) is

  -- where a sector can't be read there are none
  pub rows_unread : rows_in_segment schema g None ≡ None
  rows_unread = by_test (is_undamaged g.digest None)
    where
      by_test : (b : Bool) → (if b then rows_in_bytes schema g.rows None else None) ≡ None
      by_test true = refl
      by_test false = refl

  -- rows come of undamaged bytes
  pub rows_come : (bytes : Option (List ℕ)) (rows : List (List Cell)) → rows_in_segment schema g bytes ≡ Some rows → (is_undamaged g.digest bytes ≡ true) × (rows_in_bytes schema g.rows bytes ≡ Some rows)
  rows_come bytes rows is = by_test (is_undamaged g.digest bytes) refl is
    where
      by_test : (b : Bool) → is_undamaged g.digest bytes ≡ b → (if b then rows_in_bytes schema g.rows bytes else None) ≡ Some rows → (is_undamaged g.digest bytes ≡ true) × (rows_in_bytes schema g.rows bytes ≡ Some rows)
      by_test true same h = (same, h)
      by_test false same h = absurd (cc h)

-- a segment with other bytes has no rows
pub damaged_lacks : (schema : PlainSchema) (g : Segment) (image : Image) → is_undamaged g.digest (bytes_of g image) ≡ false → segment_rows schema g image ≡ None
unfolding segment_rows
damaged_lacks schema g image is = rows_damaged schema g (bytes_of g image) is

-- bytes of a segment that are undamaged have its digest
pub has_digest : (digest : Option (List ℕ)) (d bytes : List ℕ) → digest ≡ Some d → is_undamaged digest (Some bytes) ≡ true → sha256 bytes ≡ d
has_digest None d bytes is test = absurd (cc is)
has_digest (Some x) d bytes is test = let same : x ≡ d = cc is in (bytes_eq-Decides (sha256 bytes) x).0 test ∙ same

-- ---- what was read

module _ (tells : Bool) (image : Image) (schema : PlainSchema) where
  pub copy_rows : (g : Segment) (bytes : List ℕ) → IsCopy tells image g bytes → tells ≡ true → segment_rows schema g image ≡ rows_in_bytes schema g.rows (Some bytes)
  unfolding segment_rows
  copy_rows g bytes copy told = ap (rows_in_segment schema g) (copy.held told) ∙ rows_undamaged schema g (Some bytes) copy.undamaged

  pub read_rows : (g : Segment) (rows : List (List Cell)) → HasRead tells image schema g rows → tells ≡ true → segment_rows schema g image ≡ Some rows
  read_rows g rows r told = copy_rows g r.bytes r.copy told ∙ r.means

  -- where the device tells its story, its bytes are undamaged there
  pub copy_undamaged : (g : Segment) (bytes : List ℕ) → IsCopy tells image g bytes → tells ≡ true → is_undamaged g.digest (bytes_of g image) ≡ true
  copy_undamaged g bytes copy told = ap (is_undamaged g.digest) (copy.held told) ∙ copy.undamaged

  -- one segment more
  pub have_more : (segments : List Segment) (g : Segment) (rows own : List (List Cell)) → HaveRead tells image schema segments rows → HasRead tells image schema g own → HaveRead tells image schema (segments ++ g ∷ []) (rows ++ own)
  have_more [] g rows own none r = (own, [], r, refl, ap (λ (xs : List (List Cell)). xs ++ own) none ∙ sym (append-nil own))
  have_more (x ∷ xs) g rows own (first, others, read, later, is) r =
      (first, others ++ own, read, have_more xs g others own later r, ap (λ (ys : List (List Cell)). ys ++ own) is ∙ append_assoc first others own)

-- bytes that were not read are undamaged, whatever the digest
pub undamaged_none : (digest : Option (List ℕ)) → is_undamaged digest None ≡ true
undamaged_none None = refl
undamaged_none (Some d) = refl

-- where its bytes are not given, its rows are not
pub lacks_rows : (tells : Bool) (image : Image) (schema : PlainSchema) (g : Segment) (place : ℕ) (r : Refusal) → LacksBytes tells image g place r → LacksRows tells image schema g place r
unfolding segment_rows
lacks_rows tells image schema g place refusals.Device u = tt
lacks_rows tells image schema g place refusals.OutOfMemory u = tt
lacks_rows tells image schema g place (refusals.SegmentUnread other) u =
    (u.0, λ told. (ap (is_undamaged g.digest) (u.1 told) ∙ undamaged_none g.digest, ap (rows_in_segment schema g) (u.1 told) ∙ rows_unread schema g))
lacks_rows tells image schema g place (refusals.SegmentDamaged other) u = u
lacks_rows tells image schema g place _ u = absurd u

-- as it was shown at first
module _ (tells : Bool) (a b : Image) (same : tells ≡ true → b ≡ a) where
  pub copy_then : (g : Segment) (bytes : List ℕ) → IsCopy tells b g bytes → IsCopy tells a g bytes
  copy_then g bytes copy = record { count = copy.count; undamaged = copy.undamaged; held = λ told. ap (bytes_of g) (sym (same told)) ∙ copy.held told }

  pub has_then : (schema : PlainSchema) (g : Segment) (rows : List (List Cell)) → HasRead tells b schema g rows → HasRead tells a schema g rows
  has_then schema g rows r = record { bytes = r.bytes; copy = copy_then g r.bytes r.copy; means = r.means }

  pub have_then : (schema : PlainSchema) (segments : List Segment) (rows : List (List Cell)) → HaveRead tells b schema segments rows → HaveRead tells a schema segments rows
  have_then schema [] rows none = none
  have_then schema (g ∷ gs) rows (own, others, read, later, is) = (own, others, has_then schema g own read, have_then schema gs others later, is)
