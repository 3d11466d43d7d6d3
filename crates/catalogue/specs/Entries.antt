-- The contents of a catalogue: the name of each table, its schema, its segments and its page (docs/formats/store.md).
use Rattle.std.specs.Prelude.{◌≡◌, ◌≤◌, ◌^◌, ◌==◌, ◌&&◌, ◌||◌, ℕ, Bool, true, false, nat_le, nat_lt, List, [], ◌∷◌, ◌++◌, length, map, flat_map, sum_by, string_bytes, Option, Some, None}
use Rattle.std.specs.List.{list_all}
use Rattle.std.specs.Cmp.Lexicographic.{slice_cmp}
use Rattle.std.specs.Ordering.{nat_cmp, is_lt}
use Rattle.arrow_schema.specs.Column.{PlainSchema}
use Rattle.arrow_schema.specs.View.{schema_of}
use Rattle.segments.specs.Sectors.{sector_count}
use Rattle.segments.specs.declared.run.Run.{Run}
use Rattle.segments.specs.declared.extent.Extent.{Extent}
use Rattle.catalogue.specs.Schemas.{is_within_limits}
use Rattle.catalogue.specs.declared.limits.TheConstants.{MAX_NAME_BYTES, MAX_SEGMENT_ROWS, MAX_TABLES, MAX_SEGMENTS}
use Rattle.catalogue.specs.declared.entry.Segment.{Segment}
use Rattle.catalogue.specs.declared.entry.SegmentForm.{SegmentForm}
use Rattle.catalogue.specs.declared.entry.SegmentForm.TheVariants.{Bare, Digested}
use Rattle.catalogue.specs.declared.entry.TableEntry.{TableEntry}
use Rattle.catalogue.specs.declared.entry.RootEntry.{RootEntry}

-- a table as the catalogue keeps it; its page, if it has one, is where its own text lies
pub record PlainEntry : Type 0 where
  pub name : List ℕ
  pub schema : PlainSchema
  pub segments : List Segment
  pub page : Option Extent

-- the tables in order
abbrev pub PlainCatalogue : Type 0
PlainCatalogue = List PlainEntry

-- the plain value of an entry of the code
abbrev pub plain_entry : TableEntry → PlainEntry
plain_entry e =
    record { name = string_bytes e.table.value.name; schema = schema_of e.table.value.schema; segments = e.table.value.segments.items; page = e.page }

-- a table in a root: its name, and where its page lies
pub record PlainRoot : Type 0 where
  pub name : List ℕ
  pub page : Extent

-- the plain value of a root entry of the code
abbrev pub plain_root : RootEntry → PlainRoot
plain_root r = record { name = r.name.now; page = r.page }

-- low ≤ n ≤ high
abbrev pub is_between : ℕ → ℕ → ℕ → Bool
is_between low high n = nat_le low n && nat_le n high

-- an ASCII letter or digit, `_`, `-` or `.`
abbrev pub is_name_byte : ℕ → Bool
is_name_byte b = is_between 97 122 b || (is_between 65 90 b || (is_between 48 57 b || (b == 95 || (b == 45 || b == 46))))

-- a name of a table: 1 to 64 such bytes
abbrev pub is_name : List ℕ → Bool
is_name name = is_between 1 MAX_NAME_BYTES (length name) && list_all is_name_byte name

-- the extent has at least `least` bytes and exactly the sectors that they need, and its numbers fit in 64 bits
abbrev pub is_filled : (least : ℕ) → Extent → Bool
is_filled least e = (nat_lt e.run.start (2 ^ 64) && nat_lt e.bytes (2 ^ 64)) && (nat_le least e.bytes && (e.run.count == sector_count e.bytes))

-- a digest has 32 bytes
abbrev pub is_digest : Option (List ℕ) → Bool
is_digest None = true
is_digest (Some digest) = length digest == 32

-- a segment has at least one byte, exactly the sectors that its bytes need, 1 to 4,096 rows, and either no digest or one of 32 bytes
abbrev pub is_segment : Segment → Bool
is_segment s = is_filled 1 s.place && (is_between 1 MAX_SEGMENT_ROWS s.rows && is_digest s.digest)

-- a page has at least eight bytes, those of its two numbers
abbrev pub is_page : Option Extent → Bool
is_page None = true
is_page (Some page) = is_filled 8 page

-- an entry that may be in a catalogue
abbrev pub is_entry : PlainEntry → Bool
is_entry e = is_name e.name && (is_within_limits e.schema && (list_all is_segment e.segments && is_page e.page))

-- the entry without its page, as it is in a list
abbrev pub bare : PlainEntry → PlainEntry
bare e = record { name = e.name; schema = e.schema; segments = e.segments; page = None }

abbrev pub names_of : PlainCatalogue → List (List ℕ)
names_of c = map (λ e. e.name) c

-- the name sorts before the first of these, byte by byte
abbrev pub comes_before : List ℕ → List (List ℕ) → Bool
comes_before name [] = true
comes_before name (other ∷ others) = is_lt (slice_cmp nat_cmp name other)

-- each name sorts before the next, so no name occurs twice
abbrev pub ascends : List (List ℕ) → Bool
ascends [] = true
ascends (name ∷ names) = comes_before name names && ascends names

-- the number of rows in a table
abbrev pub row_count : PlainEntry → ℕ
row_count e = sum_by (λ (s : Segment). s.rows) e.segments

abbrev pub segment_count : PlainCatalogue → ℕ
segment_count c = sum_by (λ e. length e.segments) c

-- the runs of segments
abbrev pub runs_in_segments : List Segment → List Run
runs_in_segments segments = map (λ (s : Segment). s.place.run) segments

abbrev pub page_runs : Option Extent → List Run
page_runs None = []
page_runs (Some page) = page.run ∷ []

-- the runs that an entry names: that of its page, if it has one, and those of its segments
abbrev pub runs_in : PlainEntry → List Run
runs_in e = page_runs e.page ++ runs_in_segments e.segments

abbrev pub runs_of : PlainCatalogue → List Run
runs_of c = flat_map runs_in c

-- a catalogue of a store: its entries in the order of their names, within the limits of a store
pub record IsCatalogue (c : PlainCatalogue) : Type 0 where
  pub entries : list_all is_entry c ≡ true
  pub order : ascends (names_of c) ≡ true
  pub tables : length c ≤ MAX_TABLES
  pub segments : segment_count c ≤ MAX_SEGMENTS

-- the same as a Boolean
abbrev pub is_catalogue : PlainCatalogue → Bool
is_catalogue c = (list_all is_entry c && ascends (names_of c)) && (nat_le (length c) MAX_TABLES && nat_le (segment_count c) MAX_SEGMENTS)

-- there is a digest exactly if the form has one
abbrev pub has_digest : SegmentForm → Option (List ℕ) → Bool
has_digest Bare None = true
has_digest Bare (Some digest) = false
has_digest Digested None = false
has_digest Digested (Some digest) = true

abbrev pub has_digests : SegmentForm → List Segment → Bool
has_digests form segments = list_all (λ (s : Segment). has_digest form s.digest) segments

-- each segment of each table has this form
abbrev pub has_form : SegmentForm → PlainCatalogue → Bool
has_form form c = list_all (λ (e : PlainEntry). has_digests form e.segments) c

-- a table whose text can be that of a page
pub record IsTable (e : PlainEntry) : Type 0 where
  pub schema : is_within_limits e.schema ≡ true
  pub segments : list_all is_segment e.segments ≡ true
  pub few : length e.segments ≤ MAX_SEGMENTS

-- a root that can be written: each table has a name and a page, the names ascend, and there are not too many
abbrev pub is_root_entry : PlainRoot → Bool
is_root_entry r = is_name r.name && is_filled 8 r.page

abbrev pub root_names : List PlainRoot → List (List ℕ)
root_names rs = map (λ (r : PlainRoot). r.name) rs

pub record IsRoot (rs : List PlainRoot) : Type 0 where
  pub entries : list_all is_root_entry rs ≡ true
  pub order : ascends (root_names rs) ≡ true
  pub tables : length rs ≤ MAX_TABLES
