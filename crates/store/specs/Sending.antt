-- Archives of the tables of a store.
use Rattle.std.specs.Prelude.{◌≡◌, ◌+◌, ℕ, Bool, true, false, List, [], ◌∷◌, slice_get, map, flat_map, Option, Some, None}
use Rattle.std.specs.Io.KnownBytes.{Appends}
use Rattle.sector_dev.specs.Disk.{Image}
use Rattle.arrow_schema.specs.Column.{PlainSchema}
use Rattle.catalogue.specs.declared.entry.Segment.{Segment}
use Rattle.catalogue.specs.Entries.{PlainEntry, PlainCatalogue}
use Rattle.catalogue.specs.Edits.{entry_of, tables_of}
use Rattle.table_archive.specs.declared.manifest.ArchiveVersion.TheVariants.{Two}
use Rattle.table_archive.specs.declared.manifest.ListedSegment.{ListedSegment}
use Rattle.table_archive.specs.Manifest.{PlainListed}
use Rattle.table_archive.specs.Archive.{lacked, lacked_by, segments_of, archive_of}
use Rattle.table_archive.specs.Texts.{HasTexts}
use Rattle.tables.specs.declared.refusal.Refusal.{Refusal}
use Rattle.tables.specs.declared.refusal.Refusal.TheVariants as refusals
use Rattle.store.specs.SegmentStreams.{HasStream}

-- ---- the tables as they are listed

-- the digest of the entry of a segment if it has one; else that of the stream that was read of it
abbrev pub HasListedDigest : (tells : Bool) → Image → PlainSchema → Segment → (own : Option (List ℕ)) → (digest : List ℕ) → Type 0
HasListedDigest tells image schema g None digest = (stream : List ℕ) × HasStream tells image schema g digest stream
HasListedDigest tells image schema g (Some own) digest = digest ≡ own

-- a segment as it is listed, with the numbers of its entry
pub record ListsSegment (tells : Bool) (image : Image) (schema : PlainSchema) (g : Segment) (l : ListedSegment) : Type 0 where
  pub bytes : l.bytes ≡ g.place.bytes
  pub rows : l.rows ≡ g.rows
  pub digest : HasListedDigest tells image schema g g.digest l.digest

abbrev pub ListsSegments : (tells : Bool) → Image → PlainSchema → List Segment → List ListedSegment → Type 0
ListsSegments tells image schema [] [] = Unit {0}
ListsSegments tells image schema (g ∷ gs) (l ∷ ls) = ListsSegment tells image schema g l × ListsSegments tells image schema gs ls
ListsSegments tells image schema _ _ = ⊥

-- a table as it is listed, with the schema of its entry
pub record ListsEntry (tells : Bool) (image : Image) (e : PlainEntry) (t : PlainListed) : Type 0 where
  pub schema : t.schema ≡ e.schema
  pub fields : HasTexts e.schema t.fields
  pub segments : ListsSegments tells image e.schema e.segments t.segments

-- the table of this name
pub record ListsTable (tells : Bool) (image : Image) (c : PlainCatalogue) (name : List ℕ) (t : PlainListed) : Type 0 where
  pub named : t.name ≡ name
  pub entry : PlainEntry
  pub there : entry_of c name ≡ Some entry
  pub listed : ListsEntry tells image entry t

-- each table of the catalogue, in order
abbrev pub ListsTables : (tells : Bool) → Image → PlainCatalogue → (names : List (List ℕ × ℕ)) → List PlainListed → Type 0
ListsTables tells image c [] [] = Unit {0}
ListsTables tells image c (n ∷ ns) (t ∷ ts) = ListsTable tells image c n.0 t × ListsTables tells image c ns ts
ListsTables tells image c _ _ = ⊥

-- ---- the segments that are sent

-- a segment that may be sent: the name of its table, its place, and its digest as it is listed
pub record Located : Type 0 where
  pub name : List ℕ
  pub place : ℕ
  pub digest : List ℕ

-- the segments of a table from a place on
abbrev pub located_from : (name : List ℕ) → (place : ℕ) → List ListedSegment → List Located
located_from name place [] = []
located_from name place (l ∷ ls) = record { name = name; place = place; digest = l.digest } ∷ located_from name (place + 1) ls

abbrev pub located_in : PlainListed → List Located
located_in t = located_from t.name 0 t.segments

-- the stream of such a segment, which was read of it
pub record IsSent (tells : Bool) (image : Image) (c : PlainCatalogue) (x : Located) (stream : List ℕ) : Type 0 where
  pub entry : PlainEntry
  pub there : entry_of c x.name ≡ Some entry
  pub segment : Segment
  pub at : slice_get entry.segments x.place ≡ Some segment
  pub has : HasStream tells image entry.schema segment x.digest stream

abbrev pub AreSent : (tells : Bool) → Image → PlainCatalogue → List Located → (streams : List (List ℕ)) → Type 0
AreSent tells image c [] [] = Unit {0}
AreSent tells image c (x ∷ xs) (stream ∷ streams) = IsSent tells image c x stream × AreSent tells image c xs streams
AreSent tells image c _ _ = ⊥

-- an archive of all tables was written, without the segments that the receiver has
pub record Sends (tells : Bool) (image : Image) (c : PlainCatalogue) (epoch : ℕ) (had : List (List ℕ)) (old new : Option (List ℕ)) : Type 0 where
  pub tables : List PlainListed
  pub listed : ListsTables tells image c (tables_of c) tables
  pub streams : List (List ℕ)
  pub sent : AreSent tells image c (lacked_by (λ (x : Located). x.digest) had (flat_map located_in tables)) streams
  pub written : Appends old new (archive_of Two epoch tables streams)

abbrev pub SendsAt : (halted tells : Bool) → Image → PlainCatalogue → (epoch : ℕ) → (had : List (List ℕ)) → (old new : Option (List ℕ)) → Type 0
SendsAt true tells image c epoch had old new = ⊥
SendsAt false tells image c epoch had old new = Sends tells image c epoch had old new

-- ---- the digests of the segments

-- the digests of the segments of tables, in the order of the tables and of their rows, each once
abbrev pub digests_of : List PlainListed → List (List ℕ)
digests_of tables = map (λ (l : ListedSegment). l.digest) (lacked [] (segments_of tables))

-- those of all tables, as they are listed
pub record HasDigests (tells : Bool) (image : Image) (c : PlainCatalogue) (digests : List (List ℕ)) : Type 0 where
  pub tables : List PlainListed
  pub listed : ListsTables tells image c (tables_of c) tables
  pub all : digests ≡ digests_of tables

abbrev pub HasDigestsAt : (halted tells : Bool) → Image → PlainCatalogue → (digests : List (List ℕ)) → Type 0
HasDigestsAt true tells image c digests = ⊥
HasDigestsAt false tells image c digests = HasDigests tells image c digests

-- ---- refusals

-- a halted store is refused as halted, and no other is
abbrev pub SaysHalted : (halted : Bool) → Refusal → Type 0
SaysHalted halted refusals.Halted = halted ≡ true
SaysHalted halted _ = halted ≡ false
