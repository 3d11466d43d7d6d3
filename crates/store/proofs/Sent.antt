-- An archive that is listed and sent, step by step.
use Rattle.std.specs.Prelude.{◌||◌, flat_map, Option, option_map, if◌then◌else◌}
use Rattle.std.specs.Io.KnownBytes.{Appends}
use Rattle.std.proofs.Common.{◌≡◌, ◌+◌, ◌<◌, ◌∙◌, ◌++◌, ℕ, Bool, true, false, List, [], ◌∷◌, Some, None, arith, get_or, length, map, take, drop, append_assoc, append-nil, refl, sym, ap, subst}
use Rattle.std.proofs.KnownBytes.{Appends-trans}
use Rattle.std.proofs.lemmas.Bool.{cond-true, cond-false}
use Rattle.std.proofs.lemmas.Grind.{flat_map-append}
use Rattle.std.proofs.lemmas.List.{map-append, get_or-map, length-map}
use Rattle.std.proofs.lemmas.Option.{same_Some}
use Rattle.facts.specs.laws.Lists.{drop-item, take-item}
use Rattle.sector_dev.specs.Disk.{Image, Story, now, shown_image}
use Rattle.sector_dev.specs.declared.device.SectorDevice.{Ghosts}
use Rattle.arrow_schema.specs.Column.{PlainSchema}
use Rattle.catalogue.specs.declared.entry.Segment.{Segment}
use Rattle.catalogue.specs.Edits.{entry_of, tables_of}
use Rattle.catalogue.specs.Entries.{PlainEntry, PlainCatalogue}
use Rattle.catalogue.specs.View.{catalogue_of}
use Rattle.commit.specs.declared.recovery.Opened.{Opened}
use Rattle.pages.specs.declared.stored.StoredCatalogue.{StoredCatalogue}
use Rattle.segments.specs.laws.Usages.{or_false}
use Rattle.table_archive.specs.declared.manifest.ArchiveVersion.TheVariants.{Two}
use Rattle.table_archive.specs.declared.manifest.ListedSegment.{ListedSegment}
use Rattle.table_archive.specs.Archive.{is_among, lacked_by, segments_of, segment_member, archive_of}
use Rattle.table_archive.specs.Manifest.{PlainListed}
use Rattle.store_runs.specs.Calls.{PlainReply, done, is_device_reply}
use Rattle.store_changes.specs.laws.Digests.{copy_then}
use Rattle.store_changes.specs.laws.ReadTables.{reads_more, reads_quiet, image_then}
use Rattle.store.specs.declared.store.Store.{Store}
use Rattle.store.specs.declared.sending.Item.{Item}
use Rattle.store.specs.Fits.{listed_in, commit_of}
use Rattle.store.specs.Reading.{OnlyReadsStore}
use Rattle.store.specs.declared.segment_streams.SegmentInfo.{SegmentInfo}
use Rattle.store.specs.SegmentStreams.{HasStream, info_of}
use Rattle.store.specs.Sending.{HasListedDigest, ListsSegment, ListsSegments, ListsTable, ListsTables, Located, located_in, located_from, IsSent, AreSent, Sends, digests_of}
use Rattle.store.specs.inner.Sending.{plain_item}

-- ---- a store that was only read

module _ {D : Type 0} {g : Ghosts D} (size : D → ℕ) (story : D → Story) (failed : D → ℕ) (tells : Bool) where
  -- one call that reads, after others
  pub reads_then : (reply : PlainReply) (a b c : Store D g) → OnlyReadsStore size story failed tells done a b → OnlyReadsStore size story failed tells reply b c
      → OnlyReadsStore size story failed tells reply a c
  reads_then reply a b c first second = record {
    device = reads_more size story failed tells reply a.device b.device c.device first.device second.device;
    kept = second.kept ∙ first.kept;
    book = second.book ∙ first.book;
    halts = second.halts ∙ ap (λ (h : Bool). h || is_device_reply reply) (first.halts ∙ or_false a.halted);
  }

  -- a refusal that is no failure of the device, after them
  pub reads_but : (reply : PlainReply) (a b : Store D g) → is_device_reply reply ≡ false → OnlyReadsStore size story failed tells done a b
      → OnlyReadsStore size story failed tells reply a b
  reads_but reply a b quiet reads = record {
    device = reads_more size story failed tells reply a.device b.device b.device reads.device (reads_quiet size story failed tells reply b.device quiet);
    kept = reads.kept;
    book = reads.book;
    halts = reads.halts ∙ sym (ap (λ (h : Bool). a.halted || h) quiet);
  }

  module _ (a b : Store D g) (reads : OnlyReadsStore size story failed tells done a b) where
    pub same_image : tells ≡ true → shown_image (now (story b.device)) ≡ shown_image (now (story a.device))
    same_image told = image_then (story a.device) (story b.device) (reads.device.moments told)

    pub same_list : listed_in b ≡ listed_in a
    same_list = ap (λ (o : Opened StoredCatalogue). catalogue_of o.catalogue.list) reads.kept

    pub same_halted : b.halted ≡ a.halted
    same_halted = reads.halts ∙ or_false a.halted

-- ---- as it was shown at first

module _ (tells : Bool) (a b : Image) (same : tells ≡ true → b ≡ a) where
  pub stream_then : (s : PlainSchema) (g : Segment) (digest stream : List ℕ) → HasStream tells b s g digest stream → HasStream tells a s g digest stream
  stream_then s g digest stream has = record { copy = copy_then tells a b same g stream has.copy; digested = has.digested; rows = has.rows; means = has.means }

  digest_then : (s : PlainSchema) (g : Segment) (own : Option (List ℕ)) (digest : List ℕ) → HasListedDigest tells b s g own digest
      → HasListedDigest tells a s g own digest
  digest_then s g None digest has = (has.0, stream_then s g digest has.0 has.1)
  digest_then s g (Some own) digest has = has

  pub segment_then : (s : PlainSchema) (g : Segment) (l : ListedSegment) → ListsSegment tells b s g l → ListsSegment tells a s g l
  segment_then s g l lists = record { bytes = lists.bytes; rows = lists.rows; digest = digest_then s g g.digest l.digest lists.digest }

  segments_then : (s : PlainSchema) (gs : List Segment) (ls : List ListedSegment) → ListsSegments tells b s gs ls → ListsSegments tells a s gs ls
  segments_then s [] [] lists = tt
  segments_then s (g ∷ gs) (l ∷ ls) lists = (segment_then s g l lists.0, segments_then s gs ls lists.1)
  segments_then s [] (l ∷ ls) lists = absurd lists
  segments_then s (g ∷ gs) [] lists = absurd lists

  pub table_then : (c : PlainCatalogue) (name : List ℕ) (t : PlainListed) → ListsTable tells b c name t → ListsTable tells a c name t
  table_then c name t lists = record {
    named = lists.named;
    entry = lists.entry;
    there = lists.there;
    listed = record {
      schema = lists.listed.schema;
      fields = lists.listed.fields;
      segments = segments_then lists.entry.schema lists.entry.segments t.segments lists.listed.segments;
    };
  }

  pub sent_then : (c : PlainCatalogue) (x : Located) (stream : List ℕ) → IsSent tells b c x stream → IsSent tells a c x stream
  sent_then c x stream is = record {
    entry = is.entry;
    there = is.there;
    segment = is.segment;
    at = is.at;
    has = stream_then is.entry.schema is.segment x.digest stream is.has;
  }

  pub all_sent_then : (c : PlainCatalogue) (xs : List Located) (streams : List (List ℕ)) → AreSent tells b c xs streams → AreSent tells a c xs streams
  all_sent_then c [] [] are = tt
  all_sent_then c (x ∷ xs) (s ∷ ss) are = (sent_then c x s are.0, all_sent_then c xs ss are.1)
  all_sent_then c [] (s ∷ ss) are = absurd are
  all_sent_then c (x ∷ xs) [] are = absurd are

-- of a store that was only read since
module _ {D : Type 0} {g : Ghosts D} (size : D → ℕ) (story : D → Story) (failed : D → ℕ) (tells : Bool) (a b : Store D g)
    (reads : OnlyReadsStore size story failed tells done a b) where
  pub first_sent : (x : Located) (stream : List ℕ) → IsSent tells (shown_image (now (story b.device))) (listed_in b) x stream
      → IsSent tells (shown_image (now (story a.device))) (listed_in a) x stream
  first_sent x stream is =
      sent_then tells (shown_image (now (story a.device))) (shown_image (now (story b.device))) (same_image size story failed tells a b reads) (listed_in a) x stream
      (subst (λ (c : PlainCatalogue). IsSent tells (shown_image (now (story b.device))) c x stream) (same_list size story failed tells a b reads) is)

  pub first_all_sent : (xs : List Located) (streams : List (List ℕ)) → AreSent tells (shown_image (now (story b.device))) (listed_in b) xs streams
      → AreSent tells (shown_image (now (story a.device))) (listed_in a) xs streams
  first_all_sent xs streams are =
      all_sent_then tells (shown_image (now (story a.device))) (shown_image (now (story b.device))) (same_image size story failed tells a b reads) (listed_in a) xs streams
      (subst (λ (c : PlainCatalogue). AreSent tells (shown_image (now (story b.device))) c xs streams) (same_list size story failed tells a b reads) are)

  pub first_table : (name : List ℕ) (t : PlainListed) → ListsTable tells (shown_image (now (story b.device))) (listed_in b) name t
      → ListsTable tells (shown_image (now (story a.device))) (listed_in a) name t
  first_table name t lists =
      table_then tells (shown_image (now (story a.device))) (shown_image (now (story b.device))) (same_image size story failed tells a b reads) (listed_in a) name t
      (subst (λ (c : PlainCatalogue). ListsTable tells (shown_image (now (story b.device))) c name t) (same_list size story failed tells a b reads) lists)

  pub first_segment : (s : PlainSchema) (g : Segment) (l : ListedSegment) → ListsSegment tells (shown_image (now (story b.device))) s g l
      → ListsSegment tells (shown_image (now (story a.device))) s g l
  first_segment = segment_then tells (shown_image (now (story a.device))) (shown_image (now (story b.device))) (same_image size story failed tells a b reads)

-- ---- one more

lists_last : (tells : Bool) (image : Image) (s : PlainSchema) (gs : List Segment) (ls : List ListedSegment) (g : Segment) (l : ListedSegment)
    → ListsSegments tells image s gs ls
    → ListsSegment tells image s g l → ListsSegments tells image s (gs ++ g ∷ []) (ls ++ l ∷ [])
lists_last tells image s [] [] g l all one = (one, tt)
lists_last tells image s (x ∷ gs) (y ∷ ls) g l all one = (all.0, lists_last tells image s gs ls g l all.1 one)
lists_last tells image s [] (y ∷ ls) g l all one = absurd all
lists_last tells image s (x ∷ gs) [] g l all one = absurd all

pub lists_more : (tells : Bool) (image : Image) (s : PlainSchema) (segments : List Segment) (place : ℕ) (g : Segment) (ls more : List ListedSegment) (l : ListedSegment) → place < length segments
    → g ≡ get_or segments place g → more ≡ ls ++ l ∷ [] → ListsSegments tells image s (take place segments) ls → ListsSegment tells image s g l
    → ListsSegments tells image s (take (place + 1) segments) more
lists_more tells image s segments place g ls more l lt at longer all one =
    subst (ListsSegments tells image s (take (place + 1) segments)) (sym longer)
    (subst (λ (gs : List Segment). ListsSegments tells image s gs (ls ++ l ∷ [])) (sym (take-item segments place g lt at)) (lists_last tells image s (take place segments) ls g l all one))

tables_last : (tells : Bool) (image : Image) (c : PlainCatalogue) (ns : List (List ℕ × ℕ)) (ts : List PlainListed) (n : List ℕ × ℕ) (t : PlainListed)
    → ListsTables tells image c ns ts
    → ListsTable tells image c n.0 t → ListsTables tells image c (ns ++ n ∷ []) (ts ++ t ∷ [])
tables_last tells image c [] [] n t all one = (one, tt)
tables_last tells image c (x ∷ ns) (y ∷ ts) n t all one = (all.0, tables_last tells image c ns ts n t all.1 one)
tables_last tells image c [] (y ∷ ts) n t all one = absurd all
tables_last tells image c (x ∷ ns) [] n t all one = absurd all

-- of names that are given as others
pub tables_more : {X Y : Type 0} (f : X → List ℕ × ℕ) (of : Y → PlainListed) (tells : Bool) (image : Image) (c : PlainCatalogue) (names : List X) (i : ℕ) (x : X) (ts more : List Y) (t : Y)
    → i < length names → x ≡ get_or names i x → more ≡ ts ++ t ∷ [] → ListsTables tells image c (take i (map f names)) (map of ts)
    → ListsTable tells image c (f x).0 (of t)
    → ListsTables tells image c (take (i + 1) (map f names)) (map of more)
tables_more f of tells image c names i x ts more t lt at longer all one =
    let among : i < length (map f names) = omega (arith, lt, length-map names f) in
    let is : f x ≡ get_or (map f names) i (f x) = sym (get_or-map f names i x (f x) lt ∙ ap f (sym at)) in
    subst (λ (ys : List _). ListsTables tells image c (take (i + 1) (map f names)) (map of ys)) (sym longer)
    (subst (ListsTables tells image c (take (i + 1) (map f names))) (sym (map-append of ts (t ∷ [])))
    (subst (λ (ns : List (List ℕ × ℕ)). ListsTables tells image c ns (map of ts ++ of t ∷ [])) (sym (take-item (map f names) i (f x) among is))
    (tables_last tells image c (take i (map f names)) (map of ts) (f x) (of t) all one)))

sent_last : (tells : Bool) (image : Image) (c : PlainCatalogue) (xs : List Located) (ss : List (List ℕ)) (x : Located) (s : List ℕ)
    → AreSent tells image c xs ss → IsSent tells image c x s
    → AreSent tells image c (xs ++ x ∷ []) (ss ++ s ∷ [])
sent_last tells image c [] [] x s all one = (one, tt)
sent_last tells image c (y ∷ xs) (z ∷ ss) x s all one = (all.0, sent_last tells image c xs ss x s all.1 one)
sent_last tells image c [] (z ∷ ss) x s all one = absurd all
sent_last tells image c (y ∷ xs) [] x s all one = absurd all

pub sent_more : (tells : Bool) (image : Image) (c : PlainCatalogue) (items : List Item) (i : ℕ) (item : Item) (ss : List (List ℕ)) (s : List ℕ)
    → i < length items → item ≡ get_or items i item
    → AreSent tells image c (take i (map plain_item items)) ss → IsSent tells image c (plain_item item) s
    → AreSent tells image c (take (i + 1) (map plain_item items)) (ss ++ s ∷ [])
sent_more tells image c items i item ss s lt at all one =
    let among : i < length (map plain_item items) = omega (arith, lt, length-map items plain_item) in
    let is : plain_item item ≡ get_or (map plain_item items) i (plain_item item) =
    sym (get_or-map plain_item items i item (plain_item item) lt ∙ ap plain_item (sym at)) in
    subst (λ (xs : List Located). AreSent tells image c xs (ss ++ s ∷ [])) (sym (take-item (map plain_item items) i (plain_item item) among is))
    (sent_last tells image c (take i (map plain_item items)) ss (plain_item item) s all one)

pub written_more : (a b d : Option (List ℕ)) (ss : List (List ℕ)) (s : List ℕ) → Appends a b (flat_map segment_member ss) → Appends b d (segment_member s)
    → Appends a d (flat_map segment_member (ss ++ s ∷ []))
written_more a b d ss s all one =
    subst (Appends a d) (sym (flat_map-append segment_member ss (s ∷ [])))
    (Appends-trans a b d (flat_map segment_member ss) (flat_map segment_member (s ∷ [])) all (subst (Appends b d) (sym (append-nil (segment_member s))) one))

-- ---- which are sent

module _ (items : List Item) (i : ℕ) (item : Item) (lt : i < length items) (at : item ≡ get_or items i item) (had : List (List ℕ)) (lacked : List Item) (all : List Located)
    (so_far : map plain_item lacked ++ lacked_by (λ (x : Located). x.digest) had (map plain_item (drop i items)) ≡ all) where
  here : lacked_by (λ (x : Located). x.digest) had (map plain_item (drop i items)) ≡ lacked_by (λ (x : Located). x.digest) had (plain_item item ∷ map plain_item (drop (i + 1) items))
  here = ap (λ (xs : List Item). lacked_by (λ (x : Located). x.digest) had (map plain_item xs)) (drop-item items i item lt at)

  pub one_had : is_among item.digest had ≡ true → map plain_item lacked ++ lacked_by (λ (x : Located). x.digest) had (map plain_item (drop (i + 1) items)) ≡ all
  one_had is =
      ap (λ (xs : List Located). map plain_item lacked ++ xs) (sym (here ∙ cond-true (is_among item.digest had) _ _ is)) ∙ so_far

  pub one_lacked : (more : List Item) → more ≡ lacked ++ item ∷ [] → is_among item.digest had ≡ false
      → map plain_item more ++ lacked_by (λ (x : Located). x.digest) (item.digest ∷ had) (map plain_item (drop (i + 1) items)) ≡ all
  one_lacked more longer is =
      let rest = lacked_by (λ (x : Located). x.digest) (item.digest ∷ had) (map plain_item (drop (i + 1) items)) in
      ap (λ (xs : List Item). map plain_item xs ++ rest) longer
      ∙ ap (λ (xs : List Located). xs ++ rest) (map-append plain_item lacked (item ∷ []))
      ∙ append_assoc (map plain_item lacked) (plain_item item ∷ []) rest
      ∙ ap (λ (xs : List Located). map plain_item lacked ++ xs) (sym (here ∙ cond-false (is_among item.digest had) _ _ is))
      ∙ so_far

-- ---- the digests, each once

map_if : {A : Type 0} (f : A → List ℕ) (b : Bool) (x : A) (xs ys : List A) (us vs : List (List ℕ)) → map f xs ≡ us → map f ys ≡ vs
    → map f (if b then xs else x ∷ ys) ≡ (if b then us else f x ∷ vs)
map_if f true x xs ys us vs one other = one
map_if f false x xs ys us vs one other = ap (λ (zs : List (List ℕ)). f x ∷ zs) other

lacked_digests : {A : Type 0} (f : A → List ℕ) (had : List (List ℕ)) (xs : List A) → map f (lacked_by f had xs) ≡ lacked_by (λ (d : List ℕ). d) had (map f xs)
lacked_digests f had [] = refl
lacked_digests f had (x ∷ xs) = map_if f (is_among (f x) had) x _ _ _ _ (lacked_digests f had xs) (lacked_digests f (f x ∷ had) xs)

located_digests : (name : List ℕ) (place : ℕ) (ls : List ListedSegment)
    → map (λ (x : Located). x.digest) (located_from name place ls) ≡ map (λ (l : ListedSegment). l.digest) ls
located_digests name place [] = refl
located_digests name place (l ∷ ls) = ap (λ (zs : List (List ℕ)). l.digest ∷ zs) (located_digests name (place + 1) ls)

all_located : (ts : List PlainListed) → map (λ (x : Located). x.digest) (flat_map located_in ts) ≡ map (λ (l : ListedSegment). l.digest) (segments_of ts)
all_located [] = refl
all_located (t ∷ ts) =
    map-append (λ (x : Located). x.digest) (located_in t) (flat_map located_in ts)
    ∙ ap (λ (zs : List (List ℕ)). zs ++ map (λ (x : Located). x.digest) (flat_map located_in ts)) (located_digests t.name 0 t.segments)
    ∙ ap (λ (zs : List (List ℕ)). map (λ (l : ListedSegment). l.digest) t.segments ++ zs) (all_located ts)
    ∙ sym (map-append (λ (l : ListedSegment). l.digest) t.segments (segments_of ts))

-- those of located segments are those of the tables
pub same_digests : (ts : List PlainListed) → map (λ (x : Located). x.digest) (lacked_by (λ (x : Located). x.digest) [] (flat_map located_in ts)) ≡ digests_of ts
same_digests ts =
    lacked_digests (λ (x : Located). x.digest) [] (flat_map located_in ts) ∙ ap (lacked_by (λ (d : List ℕ). d) []) (all_located ts)
    ∙ sym (lacked_digests (λ (l : ListedSegment). l.digest) [] (segments_of ts))

pub item_digests : (items : List Item) → map (λ (x : Item). x.digest) items ≡ map (λ (x : Located). x.digest) (map plain_item items)
item_digests [] = refl
item_digests (x ∷ xs) = ap (λ (zs : List (List ℕ)). x.digest ∷ zs) (item_digests xs)

pub digests_listed : (items all : List Item) (digests : List (List ℕ)) (ts : List PlainListed) → digests ≡ map (λ (x : Item). x.digest) items
    → map plain_item items ≡ lacked_by (λ (x : Located). x.digest) [] (map plain_item all) → map plain_item all ≡ flat_map located_in ts
    → digests ≡ digests_of ts
digests_listed items all digests ts are lacked listed =
    are ∙ item_digests items
    ∙ ap (map (λ (x : Located). x.digest)) (lacked ∙ ap (lacked_by (λ (x : Located). x.digest) []) listed)
    ∙ same_digests ts

-- ---- a table

pub some_entry : {X : Type 0} (f : PlainEntry → X) (o : Option PlainEntry) (x : X) → option_map f o ≡ Some x → (e : PlainEntry) × (o ≡ Some e)
some_entry f None x is = absurd (cc is)
some_entry f (Some e) x is = (e, refl)

-- of the segments of an entry, that at a place
pub info_at : (c : PlainCatalogue) (name : List ℕ) (infos : List SegmentInfo) (place : ℕ) (info : SegmentInfo) (e : PlainEntry)
    → option_map (λ (x : PlainEntry). map info_of x.segments) (entry_of c name) ≡ Some infos → entry_of c name ≡ Some e → place < length infos
    → info ≡ get_or infos place info
    → (place < length e.segments) × ((g : Segment) → g ≡ get_or e.segments place g → info ≡ info_of g)
info_at c name infos place info e found there lt at =
    let same : infos ≡ map info_of e.segments = same_Some infos (map info_of e.segments) (sym found ∙ ap (option_map (λ (x : PlainEntry). map info_of x.segments)) there) in
    let among : place < length e.segments = omega (arith, lt, ap length same, length-map e.segments info_of) in (
      among,
      λ g is. at ∙ ap (λ (xs : List SegmentInfo). get_or xs place info) same ∙ get_or-map info_of e.segments place g info among ∙ ap info_of (sym is),
    )

pub count_at : (c : PlainCatalogue) (name : List ℕ) (infos : List SegmentInfo) (e : PlainEntry)
    → option_map (λ (x : PlainEntry). map info_of x.segments) (entry_of c name) ≡ Some infos → entry_of c name ≡ Some e → length infos ≡ length e.segments
count_at c name infos e found there =
    ap length (same_Some infos (map info_of e.segments) (sym found ∙ ap (option_map (λ (x : PlainEntry). map info_of x.segments)) there))
    ∙ length-map e.segments info_of

-- ---- an archive

pub whole_written : (a b d e : Option (List ℕ)) (front middle last : List ℕ) → Appends a b front → Appends b d middle → Appends d e last
    → Appends a e (front ++ (middle ++ last))
whole_written a b d e front middle last one two three =
    Appends-trans a b e front (middle ++ last) one (Appends-trans b d e middle last two three)

module _ {D : Type 0} {g : Ghosts D} (size : D → ℕ) (story : D → Story) (failed : D → ℕ) (tells : Bool) (a b : Store D g)
    (reads : OnlyReadsStore size story failed tells done a b) where
  pub sends_tables : (had : List (List ℕ)) (ts : List PlainListed) (old new : Option (List ℕ))
      → ListsTables tells (shown_image (now (story a.device))) (listed_in a) (tables_of (listed_in a)) ts → (streams : List (List ℕ))
      → AreSent tells (shown_image (now (story b.device))) (listed_in b) (lacked_by (λ (x : Located). x.digest) had (flat_map located_in ts)) streams
      → Appends old new (archive_of Two (commit_of b).epoch ts streams)
      → Sends tells (shown_image (now (story a.device))) (listed_in a) (commit_of a).epoch had old new
  sends_tables had ts old new listed streams sent written =
      record {
        tables = ts;
        listed = listed;
        streams = streams;
        sent = first_all_sent size story failed tells a b reads (lacked_by (λ (x : Located). x.digest) had (flat_map located_in ts)) streams sent;
        written =
            subst (λ (epoch : ℕ). Appends old new (archive_of Two epoch ts streams)) (ap (λ (o : Opened StoredCatalogue). o.commit.epoch) reads.kept) written;
      }
