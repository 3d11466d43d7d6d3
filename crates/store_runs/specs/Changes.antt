-- The change that a command makes: an edit of the catalogue, and its new segments, which have no places yet.
use Rattle.std.specs.Prelude.{◌≡◌, ◌≤◌, ◌<◌, ◌+◌, ◌^◌, ℕ, true, List, [], ◌∷◌, ◌++◌, length, flat_map, slice_get, Option, Some, None, if◌then◌else◌, Ok}
use Rattle.std.specs.Str.{bytes_eq}
use Rattle.std.specs.List.{list_all, AllByRecursion}
use Rattle.sha2.specs.Sha256.{sha256}
use Rattle.sector_dev.specs.Disk.{Image}
use Rattle.segments.specs.Sectors.{bytes_at}
use Rattle.segments.specs.declared.run.Run.{Run}
use Rattle.segments.specs.declared.extent.Extent.{Extent}
use Rattle.arrow_schema.specs.Column.{PlainSchema}
use Rattle.arrow_schema.specs.Limits.{IsWithinLimits}
use Rattle.ipc_write.specs.Written.{schema_message}
use Rattle.cells.specs.Cell.{Cell, PlainTable}
use Rattle.values.specs.Table.{table_from}
use Rattle.commit.specs.Placing.{AreShort, times_among}
use Rattle.commit.specs.declared.sector.FormatVersion.{FormatVersion}
use Rattle.commit.specs.declared.sector.FormatVersion.TheVariants.{One, Two}
use Rattle.catalogue.specs.declared.limits.TheConstants.{MAX_TABLES, MAX_SEGMENT_ROWS}
use Rattle.catalogue.specs.declared.entry.Segment.{Segment}
use Rattle.catalogue.specs.declared.entry.SegmentForm.{SegmentForm}
use Rattle.catalogue.specs.Entries.{PlainEntry, PlainCatalogue, segment_count, is_name, is_digest, is_between, page_runs, runs_in_segments, runs_in, runs_of, has_digests, has_form, IsCatalogue}
use Rattle.catalogue.specs.Edits.{page_behind, digested, entry_of, with_entry, without, renamed, with_more, from_place, with_exchanged}
use Rattle.tables.specs.Tables.{Tables, table_at, with_table, without_table}
use Rattle.tables.specs.Verdict.{joined}
use Rattle.store_runs.specs.Held.{is_undamaged, rows_in_bytes, joined_rows, tables_held}
use Rattle.store_runs.specs.Filling.{placed_in, new_in, new_segments, runs_placed, filled}

pub data PlainEdit : Type 0 where
  put : (name : List ℕ) → PlainSchema → PlainEdit
  extend : (name : List ℕ) → PlainEdit
  move : (from to : List ℕ) → PlainEdit
  remove : (name : List ℕ) → PlainEdit
  exchange : (name : List ℕ) → (place count : ℕ) → PlainEdit
  digest : (digests : List (List ℕ)) → PlainEdit
  -- the tables of several commands: those of `made`, whose segments from sector `from` on are the new ones; the runs in `gone` are no longer named
  rebuild : (old : PlainCatalogue) → (from : ℕ) → (made : PlainCatalogue) → (gone : List Run) → PlainEdit

-- an edit, the streams of the new segments and the number of rows of each
pub record PlainChange : Type 0 where
  pub edit : PlainEdit
  pub streams : List (List ℕ)
  pub counts : List ℕ

-- ---- the catalogue

-- a new entry
abbrev pub new_entry : List ℕ → PlainSchema → List Segment → Option Extent → PlainEntry
new_entry name schema segments page = record { name = name; schema = schema; segments = segments; page = page }

-- the page of a table that replaces another one: it remains if neither has segments and their schemas have the same message
abbrev pub page_over : PlainEntry → PlainSchema → List Segment → Option Extent
page_over old schema (s ∷ ss) = None
page_over old schema [] = if bytes_eq (schema_message old.schema) (schema_message schema) then page_behind old.segments old.page else None

abbrev pub page_instead : Option PlainEntry → PlainSchema → List Segment → Option Extent
page_instead None schema segments = None
page_instead (Some old) schema segments = page_over old schema segments

-- after an edit with these new segments
abbrev pub edited : PlainCatalogue → PlainEdit → List Segment → PlainCatalogue
edited c (put name schema) segments = with_entry c (new_entry name schema segments (page_instead (entry_of c name) schema segments))
edited c (extend name) segments = with_more c name segments
edited c (move from to) segments = renamed c from to
edited c (remove name) segments = without c name
edited c (exchange name place count) segments = with_exchanged c name place count segments
edited c (digest digests) segments = digested c digests
edited c (rebuild old from made gone) segments = filled from made segments

-- the run of a page if another page or none replaces it
abbrev pub page_lost : (old new : Option Extent) → List Run
page_lost old None = page_runs old
page_lost old (Some page) = []

-- the page of a table that gets digests: it has none of them, so it remains only if there are no segments
abbrev pub lost_page : PlainEntry → List Run
lost_page e = page_lost e.page (page_behind e.segments e.page)

-- the runs that an edit with these new segments removes from the entry that it finds: its page, if the page no longer describes the table, and segments
abbrev pub given_by : PlainEdit → List Segment → PlainEntry → List Run
given_by (put name schema) segments e = page_lost e.page (page_over e schema segments) ++ runs_in_segments e.segments
given_by (extend name) segments e = page_lost e.page (page_behind segments e.page)
given_by (move from to) segments e = []
given_by (remove name) segments e = runs_in e
given_by (exchange name place count) segments e = page_runs e.page ++ runs_in_segments (from_place e.segments place count)
given_by (digest digests) segments e = lost_page e
given_by (rebuild old from made gone) segments e = []

-- those that an edit of all entries removes
abbrev pub given_by_all : PlainCatalogue → PlainEdit → List Run
given_by_all c (digest digests) = flat_map lost_page c
given_by_all c (rebuild old from made gone) = gone
given_by_all c _ = []

-- the name of the entry that an edit changes; `None` if it changes all entries
abbrev pub name_edited : PlainEdit → Option (List ℕ)
name_edited (put name schema) = Some name
name_edited (extend name) = Some name
name_edited (move from to) = Some from
name_edited (remove name) = Some name
name_edited (exchange name place count) = Some name
name_edited (digest digests) = None
name_edited (rebuild old from made gone) = None

-- the runs that an edit with these new segments removes
abbrev pub given_from : PlainEdit → List Segment → Option PlainEntry → List Run
given_from edit segments None = []
given_from edit segments (Some e) = given_by edit segments e

abbrev pub given_of : PlainCatalogue → PlainEdit → List Segment → Option (List ℕ) → List Run
given_of c edit segments None = given_by_all c edit
given_of c edit segments (Some name) = given_from edit segments (entry_of c name)

abbrev pub given_up : PlainCatalogue → PlainEdit → List Segment → List Run
given_up c edit segments = given_of c edit segments (name_edited edit)

-- a page is that of an old table with the same schema and segments, all of which have places
pub record HasPageOf (from : ℕ) (c : PlainCatalogue) (e : PlainEntry) (page : Extent) : Type 0 where
  pub number : ℕ
  pub old : PlainEntry
  pub stood : slice_get c number ≡ Some old
  pub schema : e.schema ≡ old.schema
  pub segments : e.segments ≡ old.segments
  pub paged : old.page ≡ Some page
  pub whole : new_in from e.segments ≡ []

-- a catalogue can be rebuilt so: each new segment gets a stream; those that have places have digests if the old ones have them; pages are old ones; and
-- each old run is still named or gone
pub record IsRebuild (c : PlainCatalogue) (old : PlainCatalogue) (from : ℕ) (made : PlainCatalogue) (gone : List Run) (streams : List (List ℕ)) : Type 0 where
  pub own : old ≡ c
  pub stands : IsCatalogue made
  pub new : length (new_segments from made) ≡ length streams
  pub forms : (form : SegmentForm) → has_form form c ≡ true → AllByRecursion (λ (e : PlainEntry). has_digests form (placed_in from e.segments) ≡ true) made
  pub pages : AllByRecursion (λ (e : PlainEntry). (page : Extent) → e.page ≡ Some page → HasPageOf from c e page) made
  pub runs : (run : Run) → times_among (runs_placed from made) run + times_among gone run ≡ times_among (runs_of c) run

-- the catalogue can be edited in this way; only the number of segments is still to be tested
abbrev pub HasEntry : PlainCatalogue → List ℕ → Type 0
HasEntry c name = (e : PlainEntry) × (entry_of c name ≡ Some e)

abbrev pub IsEdit : PlainCatalogue → PlainEdit → List (List ℕ) → Type 0
IsEdit c (put name schema) streams =
    (is_name name ≡ true) × IsWithinLimits schema × (length (with_entry c (new_entry name schema [] None)) ≤ MAX_TABLES)
IsEdit c (extend name) streams = HasEntry c name
IsEdit c (move from to) streams = (is_name to ≡ true) × (entry_of c to ≡ None) × HasEntry c from × (streams ≡ [])
IsEdit c (remove name) streams = HasEntry c name × (streams ≡ [])
IsEdit c (exchange name place count) streams = (e : PlainEntry) × (entry_of c name ≡ Some e) × (place + count ≤ length e.segments)
IsEdit c (digest digests) streams =
    (length digests ≡ segment_count c) × (list_all (λ (d : List ℕ). is_digest (Some d)) digests ≡ true) × (streams ≡ [])
IsEdit c (rebuild old from made gone) streams = IsRebuild c old from made gone streams

-- a change of this catalogue: each new segment has a stream of some bytes, and as many rows as a segment may have
pub record IsChange (c : PlainCatalogue) (change : PlainChange) : Type 0 where
  pub edit : IsEdit c change.edit change.streams
  pub each : length change.streams ≡ length change.counts
  pub some : AllByRecursion (λ (stream : List ℕ). 1 ≤ length stream) change.streams
  pub short : AllByRecursion (λ (stream : List ℕ). length stream < 2 ^ 64) change.streams
  pub rows : list_all (is_between 1 MAX_SEGMENT_ROWS) change.counts ≡ true

-- it is one if 64 bits can count the bytes of each stream, as is known of streams in memory
abbrev pub CanChange : PlainCatalogue → PlainChange → Type 0
CanChange c change = AreShort change.streams → IsChange c change

-- ---- the new segments

-- the version after an edit: digests make it version 2, and every other edit keeps it
abbrev pub version_after : PlainEdit → FormatVersion → FormatVersion
version_after (put name schema) version = version
version_after (extend name) version = version
version_after (move from to) version = version
version_after (remove name) version = version
version_after (exchange name place count) version = version
version_after (digest digests) version = Two
version_after (rebuild old from made gone) version = version

-- the digest of a segment that holds this stream: version 2 has one
abbrev pub digest_for : FormatVersion → (stream : List ℕ) → Option (List ℕ)
digest_for One stream = None
digest_for Two stream = Some (sha256 stream)

-- the same segments in these runs, in order
abbrev pub placed_segments : FormatVersion → List Run → (streams : List (List ℕ)) → (counts : List ℕ) → List Segment
placed_segments version [] streams counts = []
placed_segments version (run ∷ runs) [] counts = []
placed_segments version (run ∷ runs) (stream ∷ streams) [] = []
placed_segments version (run ∷ runs) (stream ∷ streams) (count ∷ counts) =
    record { place = record { run = run; bytes = length stream }; rows = count; digest = digest_for version stream } ∷ placed_segments version runs streams counts

-- an image has these streams in these segments, which have these numbers of rows, and the digests of the streams if they have digests
abbrev pub HoldsStreams : Image → List Segment → (streams : List (List ℕ)) → (counts : List ℕ) → Type 0
HoldsStreams image [] streams counts = streams ≡ []
HoldsStreams image (g ∷ gs) [] counts = ⊥
HoldsStreams image (g ∷ gs) (stream ∷ streams) [] = ⊥
HoldsStreams image (g ∷ gs) (stream ∷ streams) (count ∷ counts) =
    (bytes_at image g.place.run.start g.place.bytes ≡ Some stream) × (g.rows ≡ count) × (is_undamaged g.digest (Some stream) ≡ true)
    × HoldsStreams image gs streams counts

-- ---- the tables

-- the rows of some streams one after another, if each means this number of rows of this schema
unfoldable pub stream_rows : PlainSchema → (streams : List (List ℕ)) → (counts : List ℕ) → Option (List (List Cell))
stream_rows schema [] counts = Some []
stream_rows schema (stream ∷ streams) [] = None
stream_rows schema (stream ∷ streams) (count ∷ counts) = joined_rows (rows_in_bytes schema count (Some stream)) (stream_rows schema streams counts)

-- the table of this schema and these rows
abbrev pub rows_under : PlainSchema → List (List Cell) → PlainTable
rows_under schema rows = record { schema = schema; rows = rows }

-- the tables after a change: its streams hold the new rows, and each table is valid
abbrev pub Makes : Tables → PlainEdit → (streams : List (List ℕ)) → (counts : List ℕ) → Tables → Type 0
Makes t (put name schema) streams counts new =
    (rows : List (List Cell)) × (stream_rows schema streams counts ≡ Some rows) × (table_from schema rows ≡ Ok (rows_under schema rows))
    × (new ≡ with_table t name (rows_under schema rows))
Makes t (extend name) streams counts new =
    (table : PlainTable) × (table_at t name ≡ Some table)
    × ((rows : List (List Cell)) × (stream_rows table.schema streams counts ≡ Some rows) × (table_from table.schema (table.rows ++ rows) ≡ Ok (joined table rows))
    × (new ≡ with_table t name (joined table rows)))
Makes t (move from to) streams counts new = (table : PlainTable) × (table_at t from ≡ Some table) × (new ≡ with_table (without_table t from) to table)
Makes t (remove name) streams counts new = new ≡ without_table t name
-- edits of no command: the tables stay the same if the new segments hold the same rows and the digests are those of the old segments
Makes t (exchange name place count) streams counts new = ⊥
Makes t (digest digests) streams counts new = ⊥
-- several commands: whatever image holds the old tables and the streams in the new segments
Makes t (rebuild old from made gone) streams counts new =
    (image : Image) (segments : List Segment) → tables_held image old ≡ Some t → HoldsStreams image segments streams counts
    → tables_held image (filled from made segments) ≡ Some new

-- an edit that rebuilds a catalogue was made for this one
abbrev pub IsOfCatalogue : PlainCatalogue → PlainEdit → Type 0
IsOfCatalogue c (rebuild old from made gone) = old ≡ c
IsOfCatalogue c _ = Unit {0}

abbrev pub MakesOf : Tables → PlainChange → Tables → Type 0
MakesOf t change new = Makes t change.edit change.streams change.counts new
