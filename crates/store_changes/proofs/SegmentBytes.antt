-- What bytes that were read of a segment hold, and why no table is given for them.
use Rattle.std.proofs.Common.{◌≡◌, ◌<◌, ◌+◌, ◌++◌, ℕ, Bool, List, Option, Some, None, refl, sym, ap, ◌∙◌, subst}
use Rattle.sector_dev.specs.Disk.{Image}
use Rattle.arrow_schema.specs.Column.{PlainSchema}
use Rattle.cells.specs.Cell.{Cell, PlainTable}
use Rattle.cells.specs.Weight.{table_weight}
use Rattle.cells.specs.declared.limits.TheConstants.{MAX_TABLE_WEIGHT}
use Rattle.catalogue.specs.declared.entry.Segment.{Segment}
use Rattle.tables.specs.declared.refusal.Refusal.{Refusal}
use Rattle.tables.specs.declared.refusal.Refusal.TheVariants as refusals
use Rattle.store_runs.specs.Held.{is_undamaged}
use Rattle.store_runs.specs.Reading.{HasRead, ArePast, LacksBytes, LacksRows}
use Rattle.store_changes.specs.ReadSegment.{table_in_bytes, HasReadTable, IsPast, LacksTable, UnreadsSegment}
use Rattle.store_changes.specs.laws.Digests.{undamaged_none, read_rows, copy_undamaged}

-- ---- with any front

-- where the bytes are not given, no table is
pub lacks_table : (tells : Bool) (image : Image) (front : List ℕ) (segment : Segment) (place : ℕ) (r : Refusal)
    → LacksBytes tells image segment place r → LacksTable (λ found. found ≡ None) tells image front segment place r
lacks_table tells image front segment place refusals.Device u = tt
lacks_table tells image front segment place refusals.OutOfMemory u = tt
lacks_table tells image front segment place (refusals.SegmentUnread other) u = (
  u.0,
  λ told. (
    ap (is_undamaged segment.digest) (u.1 told) ∙ undamaged_none segment.digest,
    ap (table_in_bytes front segment.rows) (u.1 told),
  ),
)
lacks_table tells image front segment place (refusals.SegmentDamaged other) u = u
lacks_table tells image front segment place _ u = absurd u

-- a table that is not given doesn't go after others
pub lacks_next : (tells : Bool) (image : Image) (front : List ℕ) (segment : Segment) (before place : ℕ) (r : Refusal)
    → LacksTable (λ found. found ≡ None) tells image front segment place r
    → LacksTable (IsPast before) tells image front segment place r
lacks_next tells image front segment before place refusals.Device u = tt
lacks_next tells image front segment before place refusals.OutOfMemory u = tt
lacks_next tells image front segment before place (refusals.SegmentUnread other) u =
    (u.0, λ told. ((u.1 told).0, subst (IsPast before) (sym (u.1 told).1) tt))
lacks_next tells image front segment before place (refusals.SegmentDamaged other) u = u
lacks_next tells image front segment before place _ u = absurd u

-- nor does one that is too heavy after them
pub heavy_next : (tells : Bool) (image : Image) (front : List ℕ) (segment : Segment) (before place : ℕ) (table : PlainTable)
    → MAX_TABLE_WEIGHT < before + table_weight table.schema table.rows → HasReadTable tells image front segment table
    → LacksTable (IsPast before) tells image front segment place (refusals.SegmentUnread place)
heavy_next tells image front segment before place table heavy read = (
  refl,
  λ told. (
    ap (is_undamaged segment.digest) (read.copy.held told) ∙ read.copy.undamaged,
    subst (IsPast before) (sym (ap (table_in_bytes front segment.rows) (read.copy.held told) ∙ read.means)) heavy,
  ),
)

-- ---- with the message of a schema

-- rows that are not given don't go after others
pub lacks_unread : (tells : Bool) (image : Image) (schema : PlainSchema) (rows : List (List Cell)) (segment : Segment) (place : ℕ) (r : Refusal)
    → LacksRows tells image schema segment place r → UnreadsSegment tells image schema rows segment place r
lacks_unread tells image schema rows segment place refusals.Device u = tt
lacks_unread tells image schema rows segment place refusals.OutOfMemory u = tt
lacks_unread tells image schema rows segment place (refusals.SegmentUnread other) u = (
  u.0,
  λ told. (
    (u.1 told).0,
    subst (λ (o : Option (List (List Cell))). ArePast schema rows o) (sym (u.1 told).1) tt,
  ),
)
lacks_unread tells image schema rows segment place (refusals.SegmentDamaged other) u = u
lacks_unread tells image schema rows segment place _ u = absurd u

-- nor do rows that are too heavy after them
pub heavy_unread : (tells : Bool) (image : Image) (schema : PlainSchema) (rows own : List (List Cell)) (segment : Segment) (place : ℕ)
    → MAX_TABLE_WEIGHT < table_weight schema (rows ++ own) → HasRead tells image schema segment own
    → UnreadsSegment tells image schema rows segment place (refusals.SegmentUnread place)
heavy_unread tells image schema rows own segment place heavy read = (
  refl,
  λ told. (
    copy_undamaged tells image schema segment read.bytes read.copy told,
    let held = read_rows tells image schema segment own read told in
        subst (λ (o : Option (List (List Cell))). ArePast schema rows o) (sym held) heavy,
  ),
)
