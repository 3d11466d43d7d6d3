-- What the rows of an entry's segments weigh, by their number and the bytes of the segments, whatever these hold.
use Rattle.std.specs.Prelude.{nat_eq, if◌then◌else◌, ◌==◌, Option, Some, None}
use Rattle.std.specs.List.{starts_with}
use Rattle.std.proofs.Common.{◌≡◌, ℕ, zero, suc, ◌+◌, ◌*◌, ◌≤◌, Bool, true, false, List, [], ◌∷◌, ◌++◌, length, take, drop, sum_by, Result, Ok, Err, refl, sym, ap, ◌∙◌, subst, arith, length-append}
use Rattle.std.specs.Prelude.{option_map, min}
use Rattle.std.proofs.Math.Nat.{mul-le-mul_left}
use Rattle.std.proofs.lemmas.List.{length-take}
use Rattle.std.proofs.lemmas.List.Sums.{sum_by-cons, sum_by-append}
use Rattle.std.proofs.lemmas.Slice.Eq.{starts_is}
use Rattle.std.proofs.lemmas.Bool.Decides.{Decides-eqb}
use Rattle.facts.specs.laws.Checks.{unless_passed}
use Rattle.sector_dev.specs.Disk.{Image}
use Rattle.segments.specs.Sectors.{bytes_at, joined, sector_count}
use Rattle.arrow_schema.specs.Column.{PlainSchema}
use Rattle.arrow_schema.specs.Limits.{IsWithinLimits}
use Rattle.cells.specs.Cell.{Cell, PlainTable}
use Rattle.cells.specs.Weight.{row_weight, table_weight}
use Rattle.cells.specs.declared.limits.TheConstants.{MAX_TABLE_WEIGHT}
use Rattle.ipc_message.specs.declared.fault.Fault.{Fault}
use Rattle.ipc_message.specs.Checks.{schema_checks, checked_schema}
use Rattle.ipc_message.specs.Convert.{plain_schema_of}
use Rattle.ipc_message.specs.Framing.{Envelope, next_message, message, first_some}
use Rattle.ipc_message.specs.Header.{header, supported_codes}
use Rattle.ipc_message.specs.Raw.{RawSchema, schema_header}
use Rattle.ipc_stream.specs.Meaning.{meaning}
use Rattle.ipc_stream.specs.laws.First.{means_begins}
use Rattle.ipc_write.specs.Decoded.{raw_schema}
use Rattle.ipc_write.specs.Walked.{HoldsTimes}
use Rattle.ipc_write.specs.Written.{schema_message, schema_envelope}
use Rattle.weight_bounds.specs.Bound.{row_more_in_eight, most_in_eight}
use Rattle.catalogue.specs.declared.entry.Segment.{Segment}
use Rattle.catalogue.specs.Entries.{PlainEntry, row_count}
use Rattle.store_runs.specs.Held.{bytes_of, rows_where, rows_in_bytes, segment_rows, joined_rows, rows_held, table_held}
use Rattle.store_runs.specs.Deciding.{Addition, IsSurelyLight}
use Rattle.store_changes.specs.laws.Digests.{rows_come}
use Rattle.store_changes.specs.laws.Listed.{segments_counted}
use Rattle.store_changes.specs.laws.Named.{held_has}

-- what the crates below say of the bytes of a stream
pub record StreamLaws : Type 0 where
  pub most : (supported : ℕ → Bool) (bytes : List ℕ) (t : PlainTable) (more : ℕ) → row_more_in_eight t.schema ≡ Some more → meaning supported bytes ≡ Ok t
      → 8 * table_weight t.schema t.rows ≤ most_in_eight t.schema more (length t.rows) (length bytes)
  pub next_message : (s : PlainSchema) (rest : List ℕ) → IsWithinLimits s → next_message (schema_message s ++ rest) ≡ Ok (message (schema_envelope s))
  pub header : (supported : ℕ → Bool) (s : PlainSchema) → HoldsTimes supported → IsWithinLimits s → header supported (schema_envelope s).metadata ≡ Ok (schema_header (raw_schema s))
  pub decoded : (s : PlainSchema) → IsWithinLimits s → plain_schema_of (raw_schema s) ≡ s

-- ---- the schema of a stream that begins with the message of a schema

same_ok : {T E : Type 0} (a b : T) (r : Result T E) → r ≡ Ok a → r ≡ Ok b → a ≡ b
same_ok a b r is other = cc (is, other)

message_is : (a b : Envelope) → message a ≡ message b → a ≡ b
message_is a b is = cc is

header_is : (a b : RawSchema) → schema_header a ≡ schema_header b → a ≡ b
header_is a b is = cc is

own_schema : StreamLaws → (s : PlainSchema) (bytes : List ℕ) (t : PlainTable) → IsWithinLimits s → starts_with nat_eq bytes (schema_message s) ≡ true → meaning supported_codes bytes ≡ Ok t → t.schema ≡ s
unfolding checked_schema
own_schema laws s bytes t within begins means =
    let first = means_begins supported_codes bytes t means in
    let parts : bytes ≡ schema_message s ++ drop (length (schema_message s)) bytes = (starts_is Decides-eqb bytes (schema_message s) (starts_with nat_eq bytes (schema_message s)) refl).0 begins in
    let found : next_message bytes ≡ Ok (message (schema_envelope s)) = ap next_message parts ∙ laws.next_message s (drop (length (schema_message s)) bytes) within in
    let one : first.first ≡ schema_envelope s =
    message_is first.first (schema_envelope s) (same_ok (message first.first) (message (schema_envelope s)) (next_message bytes) first.found found) in
    let own : header supported_codes (schema_envelope s).metadata ≡ Ok (schema_header first.schema) = subst (λ (m : Envelope). header supported_codes m.metadata ≡ Ok (schema_header first.schema)) one first.decoded in
    let same : first.schema ≡ raw_schema s =
    header_is first.schema (raw_schema s) (same_ok (schema_header first.schema) (schema_header (raw_schema s)) (header supported_codes (schema_envelope s).metadata) own (laws.header supported_codes s (refl, refl) within)) in
    let passed = unless_passed (first_some (schema_checks supported_codes first.schema)) (Ok (plain_schema_of first.schema)) t.schema first.checked in
    let plain : plain_schema_of first.schema ≡ t.schema = same_ok (plain_schema_of first.schema) t.schema (Ok (plain_schema_of first.schema)) refl passed.1 in
    sym plain ∙ ap plain_schema_of same ∙ laws.decoded s within

-- ---- one segment

-- these rows weigh no more than so many in so many bytes may
abbrev AreMost : PlainSchema → (more : ℕ) → List (List Cell) → (bytes : ℕ) → Type 0
AreMost s more rows bytes = 8 * table_weight s rows ≤ most_in_eight s more (length rows) bytes

more_bytes : (s : PlainSchema) (more : ℕ) (rows : List (List Cell)) (a b : ℕ) → AreMost s more rows a → a ≤ b → AreMost s more rows b
more_bytes s more rows a b most le = let all : more * a ≤ more * b = mul-le-mul_left more le in omega (arith, most, all)

bytes_most : StreamLaws → (s : PlainSchema) (more count : ℕ) (o : Option (List ℕ)) (rows : List (List Cell)) (size : ℕ) → IsWithinLimits s → row_more_in_eight s ≡ Some more
    → ((bytes : List ℕ) → o ≡ Some bytes → length bytes ≤ size) → rows_in_bytes s count o ≡ Some rows → AreMost s more rows size
bytes_most laws s more count None rows size within bounded few is = absurd (cc is)
bytes_most laws s more count (Some bytes) rows size within bounded few is = by_start (starts_with nat_eq bytes (schema_message s)) refl is
  where
    by_count : (t : PlainTable) (b : Bool) → meaning supported_codes bytes ≡ Ok t → starts_with nat_eq bytes (schema_message s) ≡ true → (if b then Some t.rows else None) ≡ Some rows → AreMost s more rows size
    by_count t false means begins h = absurd (cc h)
    by_count t true means begins h =
        let same : t.rows ≡ rows = cc h in
        let own : t.schema ≡ s = own_schema laws s bytes t within begins means in
        let most : AreMost t.schema more t.rows (length bytes) = laws.most supported_codes bytes t more (ap row_more_in_eight own ∙ bounded) means in
        let here : AreMost s more t.rows (length bytes) = subst (λ (x : PlainSchema). AreMost x more t.rows (length bytes)) own most in
        more_bytes s more rows (length bytes) size (subst (λ (xs : List (List Cell)). AreMost s more xs (length bytes)) same here) (few bytes refl)

    by_meaning : (m : Result PlainTable Fault) → meaning supported_codes bytes ≡ m → starts_with nat_eq bytes (schema_message s) ≡ true → rows_where count m ≡ Some rows → AreMost s more rows size
    by_meaning (Err fault) means begins h = absurd (cc h)
    by_meaning (Ok t) means begins h = by_count t (length t.rows == count) means begins h

    by_start : (b : Bool) → starts_with nat_eq bytes (schema_message s) ≡ b → (if b then rows_where count (meaning supported_codes bytes) else None) ≡ Some rows → AreMost s more rows size
    by_start false begins h = absurd (cc h)
    by_start true begins h = by_meaning (meaning supported_codes bytes) refl begins h

-- the bytes of a run are no more than are asked for
few_bytes : (image : Image) (start n : ℕ) (bytes : List ℕ) → bytes_at image start n ≡ Some bytes → length bytes ≤ n
unfolding bytes_at
few_bytes image start n bytes is = by_joined (joined image start (sector_count n)) is
  where
    by_joined : (o : Option (List ℕ)) → option_map (take n) o ≡ Some bytes → length bytes ≤ n
    by_joined None h = absurd (cc h)
    by_joined (Some all) h =
        let same : take n all ≡ bytes = cc h in
        let size : length (take n all) ≡ min n (length all) = length-take n all in
        subst (λ (xs : List ℕ). length xs ≤ n) same (omega (arith, size))

-- ---- all segments

abbrev pub byte_count : List Segment → ℕ
byte_count segments = sum_by (λ (g : Segment). g.place.bytes) segments

both_most : (s : PlainSchema) (more : ℕ) (xs ys : List (List Cell)) (a b : ℕ) → AreMost s more xs a → AreMost s more ys b → AreMost s more (xs ++ ys) (a + b)
both_most s more xs ys a b first second =
    let sum = sum_by-append (row_weight s) xs ys in
    let count : length (xs ++ ys) ≡ length xs + length ys = length-append xs ys in
    let whole : length (xs ++ ys) * row_weight s [] ≡ (length xs + length ys) * row_weight s [] = ap (λ (n : ℕ). n * row_weight s []) count in
    let parts : more * (a + b) ≡ more * a + more * b = omega arith in
    omega (arith, first, second, sum, whole, parts)

segments_most : StreamLaws → (s : PlainSchema) (more : ℕ) → IsWithinLimits s → row_more_in_eight s ≡ Some more → (image : Image) (segments : List Segment) (rows : List (List Cell))
    → rows_held s segments image ≡ Some rows → AreMost s more rows (byte_count segments)
unfolding rows_held segment_rows
segments_most laws s more within bounded image [] rows is = let none : [] ≡ rows = cc is in subst (λ (xs : List (List Cell)). AreMost s more xs 0) none (omega arith)
segments_most laws s more within bounded image (g ∷ gs) rows is =
    by_parts (segment_rows s g image) (rows_held s gs image) refl refl is (λ ys o. segments_most laws s more within bounded image gs ys o)
  where
    by_parts : (first others : Option (List (List Cell))) → segment_rows s g image ≡ first → rows_held s gs image ≡ others → joined_rows first others ≡ Some rows
        → ((ys : List (List Cell)) → rows_held s gs image ≡ Some ys → AreMost s more ys (byte_count gs)) → AreMost s more rows (byte_count (g ∷ gs))
    by_parts None others f o h later = absurd (cc h)
    by_parts (Some xs) None f o h later = absurd (cc h)
    by_parts (Some xs) (Some ys) f o h later =
        let whole : xs ++ ys ≡ rows = cc h in
        let come = (rows_come s g (bytes_of g image) xs f).1 in
        let one : AreMost s more xs g.place.bytes = bytes_most laws s more g.rows (bytes_of g image) xs g.place.bytes within bounded (few_bytes image g.place.run.start g.place.bytes) come in
        let rest : AreMost s more ys (byte_count gs) = later ys o in
        let size : byte_count (g ∷ gs) ≡ g.place.bytes + byte_count gs = sum_by-cons (λ (x : Segment). x.place.bytes) g gs in
        subst (λ (xs' : List (List Cell)). AreMost s more xs' (byte_count (g ∷ gs))) whole
        (subst (λ (n : ℕ). AreMost s more (xs ++ ys) n) (sym size) (both_most s more xs ys g.place.bytes (byte_count gs) one rest))

-- ---- an entry

pub surely_light : StreamLaws → (e : PlainEntry) (rows : List (List Cell)) (more new : ℕ) → IsWithinLimits e.schema → row_more_in_eight e.schema ≡ Some more → new ≡ table_weight e.schema rows
    → most_in_eight e.schema more (row_count e) (byte_count e.segments) + 8 * new ≤ 8 * MAX_TABLE_WEIGHT → IsSurelyLight (record { entry = e; rows = rows })
surely_light laws e rows more new within bounded weighs light = λ image standing is.
    let has = held_has image e standing is in
    let same : standing.rows ≡ has.0 = ap (λ (t : PlainTable). t.rows) has.2 in
    let most : AreMost e.schema more has.0 (byte_count e.segments) = segments_most laws e.schema more within bounded image e.segments has.0 has.1 in
    let count : length has.0 ≡ row_count e = segments_counted e.schema e.segments image has.0 has.1 in
    let own : 8 * table_weight e.schema has.0 ≤ most_in_eight e.schema more (row_count e) (byte_count e.segments)
    = subst (λ (n : ℕ). 8 * table_weight e.schema has.0 ≤ most_in_eight e.schema more n (byte_count e.segments)) count most in
    let sum = sum_by-append (row_weight e.schema) has.0 rows in
    subst (λ (xs : List (List Cell)). table_weight e.schema (xs ++ rows) ≤ MAX_TABLE_WEIGHT) (sym same) (omega (arith, own, sum, weighs, light))
