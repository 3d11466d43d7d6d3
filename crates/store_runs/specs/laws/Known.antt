-- The rows of tables one by one: how many there are, those of a table that can be read, and the tables.
use Rattle.std.specs.Prelude.{◌≡◌, ◌≤◌, ◌+◌, ◌++◌, ◌==◌, ◌&&◌, ℕ, zero, suc, Bool, true, false, nat_eq, nat_le, List, [], ◌∷◌, length, map, sum_by, Option, Some, None, Result, Ok, Err, if◌then◌else◌, refl}
use Rattle.std.specs.List.{list_all, starts_with}
use Rattle.std.proofs.Common.{sym, ap, ◌∙◌, arith, length-append}
use Rattle.std.proofs.lemmas.Bool.{and_parts, eqb-true, leb-true}
use Rattle.std.proofs.lemmas.List.{length-map, map-append, length-replicate}
use Rattle.std.proofs.lemmas.List.Sums.{sum_by-cons}
use Rattle.sector_dev.specs.Disk.{Image}
use Rattle.arrow_schema.specs.Column.{PlainSchema}
use Rattle.cells.specs.Cell.{Cell, PlainTable}
use Rattle.ipc_message.specs.declared.fault.Fault.{Fault}
use Rattle.ipc_message.specs.Header.{supported_codes}
use Rattle.ipc_write.specs.Written.{schema_message}
use Rattle.ipc_stream.specs.Meaning.{meaning}
use Rattle.catalogue.specs.declared.entry.Segment.{Segment}
use Rattle.catalogue.specs.declared.limits.TheConstants.{MAX_SEGMENT_ROWS}
use Rattle.catalogue.specs.Entries.{PlainEntry, PlainCatalogue, is_between, is_filled, is_digest, is_segment, is_entry, is_page, is_name, row_count}
use Rattle.catalogue.specs.Schemas.{is_within_limits}
use Rattle.tables.specs.Tables.{Tables, no_tables}
use Rattle.store_runs.specs.Held.{is_undamaged, bytes_of, rows_where, rows_in_bytes, segment_rows, joined_rows, rows_held, table_of_rows, with_held, tables_held, rows_or_unknown, rows_known, with_row, all_known, HeldTable, each_held, each_listed}

-- ---- how many rows there are

rows_counted : (count : ℕ) (r : Result PlainTable Fault) (rows : List (List Cell)) → rows_where count r ≡ Some rows → length rows ≡ count
rows_counted count (Err fault) rows is = absurd (cc is)
rows_counted count (Ok table) rows is = by_test (length table.rows == count) refl is
  where
    by_test : (b : Bool) → (length table.rows == count) ≡ b → (if b then Some table.rows else None) ≡ Some rows → length rows ≡ count
    by_test true same h = let own : table.rows ≡ rows = cc h in ap length (sym own) ∙ eqb-true (length table.rows) count same
    by_test false same h = absurd (cc h)

pub bytes_counted : (schema : PlainSchema) (count : ℕ) (o : Option (List ℕ)) (rows : List (List Cell)) → rows_in_bytes schema count o ≡ Some rows → length rows ≡ count
bytes_counted schema count None rows is = absurd (cc is)
bytes_counted schema count (Some bytes) rows is = by_test (starts_with nat_eq bytes (schema_message schema)) is
  where
    by_test : (b : Bool) → (if b then rows_where count (meaning supported_codes bytes) else None) ≡ Some rows → length rows ≡ count
    by_test true h = rows_counted count (meaning supported_codes bytes) rows h
    by_test false h = absurd (cc h)

segment_counted : (schema : PlainSchema) (g : Segment) (image : Image) (rows : List (List Cell)) → segment_rows schema g image ≡ Some rows → length rows ≡ g.rows
unfolding segment_rows
segment_counted schema g image rows is = by_test (is_undamaged g.digest (bytes_of g image)) is
  where
    by_test : (b : Bool) → (if b then rows_in_bytes schema g.rows (bytes_of g image) else None) ≡ Some rows → length rows ≡ g.rows
    by_test true h = bytes_counted schema g.rows (bytes_of g image) rows h
    by_test false h = absurd (cc h)

or_unknown : (count : ℕ) (o : Option (List (List Cell))) → ((rows : List (List Cell)) → o ≡ Some rows → length rows ≡ count) → length (rows_or_unknown count o) ≡ count
or_unknown count None counted = length-replicate count None
or_unknown count (Some rows) counted = length-map rows (λ (row : List Cell). Some row) ∙ counted rows refl

segments_number : (schema : PlainSchema) (segments : List Segment) (image : Image) → length (rows_known schema segments image) ≡ sum_by (λ (g : Segment). g.rows) segments
unfolding rows_known
segments_number schema [] image = refl
segments_number schema (g ∷ gs) image =
    let first = or_unknown g.rows (segment_rows schema g image) (segment_counted schema g image) in
    omega (
      arith,
      first,
      segments_number schema gs image,
      length-append (rows_or_unknown g.rows (segment_rows schema g image)) (rows_known schema gs image),
      sum_by-cons (λ (x : Segment). x.rows) g gs,
    )

-- as many as the catalogue counts, also where some can't be read
pub known_number : (image : Image) (e : PlainEntry) → length (rows_known e.schema e.segments image) ≡ row_count e
known_number image e = segments_number e.schema e.segments image

-- so a catalogue lists each table with as many rows
pub known_listed : (image : Image) (c : PlainCatalogue) → map (λ (t : HeldTable). (t.name, t.schema, length t.rows)) (each_held image c) ≡ each_listed c
known_listed image [] = refl
known_listed image (e ∷ es) = λ i. (e.name, e.schema, known_number image e i) ∷ known_listed image es i

-- ---- the rows of a table that can be read

-- all of some rows
known_all : (rows : List (List Cell)) → all_known (map (λ (row : List Cell). Some row) rows) ≡ Some rows
known_all [] = refl
known_all (row ∷ rows) = ap (with_row row) (known_all rows)

with_joined : (row : List Cell) (a b : Option (List (List Cell))) → with_row row (joined_rows a b) ≡ joined_rows (with_row row a) b
with_joined row None b = refl
with_joined row (Some xs) None = refl
with_joined row (Some xs) (Some ys) = refl

joined_first : (o : Option (List (List Cell))) → o ≡ joined_rows (Some []) o
joined_first None = refl
joined_first (Some rows) = refl

all_both : (a b : List (Option (List Cell))) → all_known (a ++ b) ≡ joined_rows (all_known a) (all_known b)
all_both [] b = joined_first (all_known b)
all_both (None ∷ a) b = refl
all_both (Some row ∷ a) b = ap (with_row row) (all_both a b) ∙ with_joined row (all_known a) (all_known b)

segment_all : (count : ℕ) (o : Option (List (List Cell))) → 1 ≤ count → all_known (rows_or_unknown count o) ≡ o
segment_all zero o some = absurd (omega (arith, some))
segment_all (suc n) None some = refl
segment_all (suc n) (Some rows) some = known_all rows

-- a segment of a catalogue has rows
some_rows : (g : Segment) → is_segment g ≡ true → 1 ≤ g.rows
some_rows g sound =
    let rest = (and_parts (is_filled 1 g.place) (is_between 1 MAX_SEGMENT_ROWS g.rows && is_digest g.digest) sound).1 in
    let between = (and_parts (is_between 1 MAX_SEGMENT_ROWS g.rows) (is_digest g.digest) rest).0 in
    leb-true 1 g.rows (and_parts (nat_le 1 g.rows) (nat_le g.rows MAX_SEGMENT_ROWS) between).0

-- the rows of a table are those that are known, if each is
pub rows_all : (schema : PlainSchema) (segments : List Segment) (image : Image) → list_all is_segment segments ≡ true → rows_held schema segments image ≡ all_known (rows_known schema segments image)
unfolding rows_held rows_known
rows_all schema [] image sound = refl
rows_all schema (g ∷ gs) image sound =
    let parts = and_parts (is_segment g) (list_all is_segment gs) sound in
    let first = segment_all g.rows (segment_rows schema g image) (some_rows g parts.0) in
    let others = rows_all schema gs image parts.1 in
    (λ i. joined_rows (sym first i) (others i)) ∙ sym (all_both (rows_or_unknown g.rows (segment_rows schema g image)) (rows_known schema gs image))

-- and where all can be read, each is known
pub rows_each_known : (schema : PlainSchema) (segments : List Segment) (image : Image) (rows : List (List Cell)) → rows_held schema segments image ≡ Some rows
    → rows_known schema segments image ≡ map (λ (row : List Cell). Some row) rows
unfolding rows_held rows_known
rows_each_known schema [] image rows is = let none : [] ≡ rows = cc is in ap (map (λ (row : List Cell). Some row)) none
rows_each_known schema (g ∷ gs) image rows is = by_parts (segment_rows schema g image) (rows_held schema gs image) refl refl is (rows_each_known schema gs image)
  where
    by_parts : (first others : Option (List (List Cell))) → segment_rows schema g image ≡ first → rows_held schema gs image ≡ others → joined_rows first others ≡ Some rows
        → ((ys : List (List Cell)) → rows_held schema gs image ≡ Some ys → rows_known schema gs image ≡ map (λ (row : List Cell). Some row) ys)
        → rows_or_unknown g.rows (segment_rows schema g image) ++ rows_known schema gs image ≡ map (λ (row : List Cell). Some row) rows
    by_parts None others f o h later = absurd (cc h)
    by_parts (Some xs) None f o h later = absurd (cc h)
    by_parts (Some xs) (Some ys) f o h later =
        let whole : xs ++ ys ≡ rows = cc h in
        (λ i. rows_or_unknown g.rows (f i) ++ later ys o i) ∙ sym (map-append (λ (row : List Cell). Some row) xs ys) ∙ ap (map (λ (row : List Cell). Some row)) whole

-- ---- the tables

-- the tables that are made of each by itself
tables_known : List HeldTable → Option Tables
tables_known [] = Some no_tables
tables_known (t ∷ ts) = with_held t.name (table_of_rows t.schema (all_known t.rows)) (tables_known ts)

entry_segments : (e : PlainEntry) → is_entry e ≡ true → list_all is_segment e.segments ≡ true
entry_segments e sound =
    let rest = (and_parts (is_name e.name) (is_within_limits e.schema && (list_all is_segment e.segments && is_page e.page)) sound).1 in
    let own = (and_parts (is_within_limits e.schema) (list_all is_segment e.segments && is_page e.page) rest).1 in
    (and_parts (list_all is_segment e.segments) (is_page e.page) own).0

from_each : (image : Image) (c : PlainCatalogue) → list_all is_entry c ≡ true → tables_held image c ≡ tables_known (each_held image c)
unfolding tables_held tables_known
from_each image [] sound = refl
from_each image (e ∷ es) sound =
    let parts = and_parts (is_entry e) (list_all is_entry es) sound in
    let rows = rows_all e.schema e.segments image (entry_segments e parts.0) in
    let others = from_each image es parts.1 in
    λ i. with_held e.name (table_of_rows e.schema (rows i)) (others i)

-- where each is the same, so are the tables
pub tables_by_each : (a b : Image) (c d : PlainCatalogue) → list_all is_entry c ≡ true → list_all is_entry d ≡ true → each_held a c ≡ each_held b d → tables_held a c ≡ tables_held b d
tables_by_each a b c d sound also same = from_each a c sound ∙ ap tables_known same ∙ sym (from_each b d also)
