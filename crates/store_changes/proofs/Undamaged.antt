-- Tables are made of bytes that have the digests of their segments, and a segment that can't be read and one with other bytes are told apart.
use Rattle.std.specs.Prelude.{slice_get, nat_lt}
use Rattle.std.proofs.Common.{◌≡◌, ◌≢◌, ◌<◌, ◌++◌, ◌∷◌, [], ℕ, zero, suc, Bool, true, false, List, Option, Some, None, take, refl, sym, ap, ◌∙◌, subst, arith, append_assoc}
use Rattle.std.proofs.lemmas.Bool.{ltb-true, ltb-false}
use Rattle.std.proofs.lemmas.List.Sums.{sum_by-append}
use Rattle.sector_dev.specs.Disk.{Image}
use Rattle.arrow_schema.specs.Column.{PlainSchema}
use Rattle.cells.specs.Cell.{Cell, PlainTable}
use Rattle.cells.specs.Weight.{row_weight, table_weight}
use Rattle.cells.specs.declared.limits.TheConstants.{MAX_TABLE_WEIGHT}
use Rattle.catalogue.specs.declared.entry.Segment.{Segment}
use Rattle.catalogue.specs.Entries.{PlainEntry}
use Rattle.store_runs.specs.Held.{is_undamaged, bytes_of, rows_in_bytes, segment_rows, rows_held, table_held}
use Rattle.store_runs.specs.Reading.{HasRead, HaveRead, ArePast, IsUnread, IsDamaged, IsRead, HasRows}
use Rattle.store_changes.specs.Digests.{HaveDigest, MeanRows}
use Rattle.store_changes.specs.laws.Digests.{damaged_lacks, rows_come, has_digest}
use Rattle.store_changes.specs.laws.Named.{held_has}
use Rattle.store_changes.specs.laws.ReadTables.{parts_of}

-- ---- the digest

held_bytes : (digest : Option (List ℕ)) (d : List ℕ) (bytes : Option (List ℕ)) → digest ≡ Some d → bytes ≢ None → is_undamaged digest bytes ≡ true → HaveDigest bytes d
held_bytes digest d None is some test = absurd (some refl)
held_bytes digest d (Some bytes) is some test = record { found = bytes; read = refl; digest = has_digest digest d bytes is test }

some_bytes : (schema : PlainSchema) (count : ℕ) (bytes : Option (List ℕ)) (rows : List (List Cell)) → rows_in_bytes schema count bytes ≡ Some rows → bytes ≢ None
some_bytes schema count None rows is none = cc is
some_bytes schema count (Some bytes) rows is none = cc none

-- of the rows that an image has in a segment
pub held_digest : (schema : PlainSchema) (g : Segment) (image : Image) (rows : List (List Cell)) (d : List ℕ) → g.digest ≡ Some d → segment_rows schema g image ≡ Some rows → HaveDigest (bytes_of g image) d
unfolding segment_rows
held_digest schema g image rows d is found =
    let come = rows_come schema g (bytes_of g image) rows found in
    held_bytes g.digest d (bytes_of g image) is (some_bytes schema g.rows (bytes_of g image) rows come.1) come.0

-- each segment of rows that an image has
rows_at : (schema : PlainSchema) (gs : List Segment) (image : Image) (rows : List (List Cell)) (place : ℕ) (g : Segment) → rows_held schema gs image ≡ Some rows → slice_get gs place ≡ Some g
    → (own : List (List Cell)) × (segment_rows schema g image ≡ Some own)
unfolding rows_held
rows_at schema [] image rows place g held at = absurd (cc at)
rows_at schema (x ∷ xs) image rows zero g held at =
    let parts = parts_of (segment_rows schema x image) (rows_held schema xs image) rows held in
    let same : x ≡ g = cc at in
    (parts.0, ap (λ (y : Segment). segment_rows schema y image) (sym same) ∙ parts.2)
rows_at schema (x ∷ xs) image rows (suc place) g held at =
    let parts = parts_of (segment_rows schema x image) (rows_held schema xs image) rows held in
    rows_at schema xs image parts.1 place g parts.3 at

pub table_digest : (image : Image) (e : PlainEntry) (table : PlainTable) (place : ℕ) (g : Segment) (d : List ℕ) → table_held image e ≡ Some table → slice_get e.segments place ≡ Some g → g.digest ≡ Some d
    → HaveDigest (bytes_of g image) d
table_digest image e table place g d held at is =
    let rows = held_has image e table held in
    let own = rows_at e.schema e.segments image rows.0 place g rows.1 at in
    held_digest e.schema g image own.0 d is own.1

-- of rows that were read, of any device
has_read_digest : (tells : Bool) (image : Image) (schema : PlainSchema) (g : Segment) (rows : List (List Cell)) (d : List ℕ) → g.digest ≡ Some d → HasRead tells image schema g rows → MeanRows schema g d rows
has_read_digest tells image schema g rows d is r = record { bytes = r.bytes; digest = has_digest g.digest d r.bytes is r.copy.undamaged; means = r.means }

pub read_at : (tells : Bool) (image : Image) (schema : PlainSchema) (gs : List Segment) (rows : List (List Cell)) (place : ℕ) (g : Segment) → HaveRead tells image schema gs rows → slice_get gs place ≡ Some g
    → (own : List (List Cell)) × HasRead tells image schema g own
read_at tells image schema [] rows place g read at = absurd (cc at)
read_at tells image schema (x ∷ xs) rows zero g (own, others, r, later, is) at = let same : x ≡ g = cc at in (own, subst (λ (y : Segment). HasRead tells image schema y own) same r)
read_at tells image schema (x ∷ xs) rows (suc place) g (own, others, r, later, is) at = read_at tells image schema xs others place g later at

pub read_digest : (tells : Bool) (image : Image) (e : PlainEntry) (table : PlainTable) (place : ℕ) (g : Segment) (d : List ℕ) → IsRead tells image e table → slice_get e.segments place ≡ Some g → g.digest ≡ Some d
    → (rows : List (List Cell)) × MeanRows e.schema g d rows
read_digest tells image e table place g d r at is =
    let own = read_at tells image e.schema e.segments table.rows place g r.read at in
    (own.0, has_read_digest tells image e.schema g own.0 d is own.1)

pub piece_digest : (tells : Bool) (image : Image) (schema : PlainSchema) (g : Segment) (piece : Option (List ℕ)) (d : List ℕ) → HasRows tells image schema g piece → g.digest ≡ Some d
    → (rows : List (List Cell)) × MeanRows schema g d rows
piece_digest tells image schema g piece d (rows, read, given) is = (rows, has_read_digest tells image schema g rows d is read)

-- ---- two causes

-- the rows of the segments before a place, and of the one there, begin those of more segments
front_rows : (schema : PlainSchema) (gs : List Segment) (image : Image) (j : ℕ) (rows : List (List Cell)) → rows_held schema (take j gs) image ≡ Some rows → (i : ℕ) (g : Segment) (before : List (List Cell)) → i < j
    → slice_get gs i ≡ Some g → rows_held schema (take i gs) image ≡ Some before → (more rest : List (List Cell)) × (segment_rows schema g image ≡ Some more) × (rows ≡ (before ++ more) ++ rest)
unfolding rows_held
front_rows schema [] image j rows held i g before lt at front = absurd (cc at)
front_rows schema (x ∷ xs) image zero rows held i g before lt at front = absurd (omega (arith, lt))
front_rows schema (x ∷ xs) image (suc j) rows held zero g before lt at front =
    let parts = parts_of (segment_rows schema x image) (rows_held schema (take j xs) image) rows held in
    let same : x ≡ g = cc at in
    let none : [] ≡ before = cc front in
    (parts.0, parts.1, ap (λ (y : Segment). segment_rows schema y image) (sym same) ∙ parts.2, parts.4 ∙ ap (λ (b : List (List Cell)). (b ++ parts.0) ++ parts.1) none)
front_rows schema (x ∷ xs) image (suc j) rows held (suc i) g before lt at front =
    let parts = parts_of (segment_rows schema x image) (rows_held schema (take j xs) image) rows held in
    let first = parts_of (segment_rows schema x image) (rows_held schema (take i xs) image) before front in
    let alike : Some parts.0 ≡ Some first.0 = sym parts.2 ∙ first.2 in
    let same : parts.0 ≡ first.0 = cc alike in
    let later = front_rows schema xs image j parts.1 parts.3 i g first.1 (omega (arith, lt)) at first.3 in
    let more = later.0 in
    let rest = later.1 in (
      more,
      rest,
      later.2,
      parts.4
          ∙ (λ k. same k ++ later.3 k)
          ∙ sym (append_assoc first.0 (first.1 ++ more) rest)
          ∙ ap (λ (b : List (List Cell)). b ++ rest) (sym (append_assoc first.0 first.1 more))
          ∙ ap (λ (b : List (List Cell)). (b ++ more) ++ rest) (sym first.4),
    )

-- of one table there is one of them at the most
pub told_apart : (image : Image) (e : PlainEntry) (i j : ℕ) → IsUnread image e i → IsDamaged image e j → ⊥
told_apart image e i j u d = by_order (nat_lt i j) (nat_lt j i) refl refl
  where
    -- the segment that can't be read is before the other one
    unread_first : i < j → ⊥
    unread_first lt =
        let rows = front_rows e.schema e.segments image j d.rows d.before i u.segment u.rows lt u.at u.before in
        let heavy : MAX_TABLE_WEIGHT < table_weight e.schema (u.rows ++ rows.0) = subst (ArePast e.schema u.rows) rows.2 u.past in
        let whole : table_weight e.schema d.rows ≡ table_weight e.schema ((u.rows ++ rows.0) ++ rows.1) = ap (table_weight e.schema) rows.3 in
        let light = d.light in
        omega (arith, heavy, whole, light, sum_by-append (row_weight e.schema) (u.rows ++ rows.0) rows.1)

    damaged_first : j < i → ⊥
    damaged_first lt =
        let rows = front_rows e.schema e.segments image i u.rows u.before j d.segment d.rows lt d.at d.before in
        let lacks : None ≡ Some rows.0 = sym (damaged_lacks e.schema d.segment image d.damaged) ∙ rows.2 in
        cc lacks

    one_place : i ≡ j → ⊥
    one_place is =
        let both : Some u.segment ≡ Some d.segment = sym u.at ∙ ap (slice_get e.segments) is ∙ d.at in
        let same : u.segment ≡ d.segment = cc both in
        let test : true ≡ false = sym u.undamaged ∙ ap (λ (g : Segment). is_undamaged g.digest (bytes_of g image)) same ∙ d.damaged in
        cc test

    by_order : (x y : Bool) → nat_lt i j ≡ x → nat_lt j i ≡ y → ⊥
    by_order true y less more = unread_first (ltb-true i j less)
    by_order false true less more = damaged_first (ltb-true j i more)
    by_order false false less more = let a = ltb-false i j less in let b = ltb-false j i more in one_place (omega (arith, a, b))
