-- Segments that can be read from a source.
use Rattle.std.specs.Prelude.{◌≡◌, ◌≢◌, ◌≤◌, ◌<◌, ◌+◌, ℕ, zero, suc, Bool, true, List, [], ◌∷◌, length, map, get_or, slice_get, Some, refl}
use Rattle.std.specs.Global.{Vec}
use Rattle.std.proofs.Common.{inl, inr, sym, ap, ◌∙◌, subst, arith}
use Rattle.std.proofs.lemmas.Bool.{and_parts}
use Rattle.std.proofs.lemmas.List.{map-append, length-map, get_or-map}
use Rattle.std.proofs.lemmas.Option.{slice_get_within, get_or_from_slice_get}
use Rattle.sector_dev.specs.Disk.{Disk, Story, Image, now, shown_image, Each}
use Rattle.sector_dev.specs.Time.{OnlyReads}
use Rattle.sector_dev.specs.laws.Time.{stays, read_on}
use Rattle.segments.specs.declared.run.Run.{Run}
use Rattle.segments.specs.declared.extent.Extent.{Extent}
use Rattle.segments.specs.Sectors.{sector_count, bytes_at}
use Rattle.segments.specs.laws.ReadBack.{same_bytes}
use Rattle.catalogue.specs.declared.entry.Segment.{Segment}
use Rattle.catalogue.specs.Entries.{runs_in_segments}
use Rattle.commit.specs.Standing.{is_on_device, all_on_device}
use Rattle.commit.specs.laws.Apart.{on_device_is}
use Rattle.store_changes.specs.declared.drafting.Draft.{Draft}
use Rattle.store_changes.specs.Draft.{laid, IsDraft, streams_of}
use Rattle.store_changes.specs.Source.{AreReadable, disk_laid, AreStream, AreInDraft, ReadsBelow}
use Rattle.store_changes.specs.laws.Drafting.{starts_above, one_place}
use Rattle.store_changes.specs.laws.Laid.{starts_count, laid_below, laid_holds}

pub still_on_device : (old new : ℕ) (run : Run) → new ≡ old → is_on_device old run ≡ true → is_on_device new run ≡ true
still_on_device old new run same on = subst (λ (n : ℕ). is_on_device n run ≡ true) (sym same) on

-- segments on a device
pub on_device_readable : (size : ℕ) (segments : List Segment) → all_on_device size (runs_in_segments segments) ≡ true
    → AreReadable (λ (place : Extent). is_on_device size place.run ≡ true) segments
on_device_readable size [] on = tt
on_device_readable size (g ∷ gs) on =
    let parts = and_parts (is_on_device size g.place.run) (all_on_device size (runs_in_segments gs)) on in
    (parts.0, on_device_readable size gs parts.1)

-- the one at a place
pub readable_at : (P : Extent → Type 0) (segments : List Segment) (place : ℕ) (other : Segment) → place < length segments → AreReadable P segments → P (get_or segments place other).place
readable_at P [] place other inside all = absurd (omega (arith, inside))
readable_at P (g ∷ gs) zero other inside all = all.0
readable_at P (g ∷ gs) (suc place) other inside all = readable_at P gs place other (omega (arith, inside)) all.1

-- ---- the streams of a draft behind a device

-- no read of the device below
pub below_stays : {D : Type 0} (size : D → ℕ) (story : D → Story) (tells : Bool) (name : ℕ) (a : D) → ReadsBelow size story tells name name a a
below_stays size story tells name a = record { named = refl; same = refl; moments = λ told. stays (λ (d : Disk). d ≡ now (story a)) (story a) }

pub below_onward : {D : Type 0} (size : D → ℕ) (story : D → Story) (tells : Bool) (m n o : ℕ) (a b c : D) → ReadsBelow size story tells m n a b → ReadsBelow size story tells n o b c
    → ReadsBelow size story tells m o a c
below_onward size story tells m n o a b c first second = record {
  named = second.named ∙ first.named;
  same = second.same ∙ first.same;
  moments = λ told. read_on (story a) (story b) (story c) (first.moments told) (second.moments told);
}

pub still_in_draft : (size later : ℕ) (d e : Draft) (place : Extent) → later ≡ size → e ≡ d → AreInDraft size d place → AreInDraft later e place
still_in_draft size later d e place same is in_draft =
    subst (λ (x : Draft). AreInDraft later x place) (sym is) (subst (λ (n : ℕ). AreInDraft n d place) (sym same) in_draft)

-- ---- what reads show

map_now : (f : Disk → Disk) (story : Story) → story ≢ [] → now (map f story) ≡ f (now story)
map_now f [] some = absurd (some refl)
map_now f (d ∷ ds) some = refl

shows_laid : (from : ℕ) (streams : List (List ℕ)) (story : Story) → story ≢ [] → shown_image (now (map (disk_laid from streams) story)) ≡ laid from streams (shown_image (now story))
shows_laid from streams story some = ap shown_image (map_now (disk_laid from streams) story some)

-- the same from another image that the device shows
pub laid_alike : (from : ℕ) (streams : List (List ℕ)) (story : Story) (image : Image) → story ≢ [] → image ≡ shown_image (now story)
    → (n : ℕ) → laid from streams image n ≡ shown_image (now (map (disk_laid from streams) story)) n
laid_alike from streams story image some same n =
    ap (λ (i : Image). laid from streams i n) same ∙ sym (ap (λ (i : Image). i n) (shows_laid from streams story some))

each_map : (f : Disk → Disk) (d : Disk) (fresh : Story) → Each (λ (x : Disk). x ≡ d) fresh → Each (λ (x : Disk). x ≡ f d) (map f fresh)
each_map f d [] each = tt
each_map f d (x ∷ xs) each = (ap f each.0, each_map f d xs each.1)

-- reads of the device are reads of the source
pub reads_laid : (f : Disk → Disk) (old new : Story) → old ≢ [] → OnlyReads old new → OnlyReads (map f old) (map f new)
reads_laid f old new some reads = record {
  fresh = map f reads.fresh;
  joined = ap (map f) reads.joined ∙ map-append f reads.fresh old;
  each = subst (λ (x : Disk). Each (λ (d : Disk). d ≡ x) (map f reads.fresh)) (sym (map_now f old some)) (each_map f (now old) reads.fresh reads.each);
}

-- ---- where bytes lie

module _ (size : ℕ) (d : Draft) (place : Extent) (lies : AreInDraft size d place) where
  -- before the draft they are on the device
  pub on_device : place.run.start < d.from → is_on_device size place.run ≡ true
  on_device low = elim lies.lie [ inl on ↦ on | inr own ↦ absurd (let high = starts_above d.from (streams_of d) own.at place.run.start own.starts in omega (arith, low, high)) ]

  -- and from there on they are a stream
  pub in_stream : d.from ≤ place.run.start → AreStream d.from (streams_of d) place
  in_stream high = elim lies.lie [ inl on ↦ absurd (let run = on_device_is size place.run on in let some = run.some in let within = run.within in let begins = lies.begins in omega (arith, high, some, within, begins)) | inr own ↦ own ]

-- bytes before the draft are those on the device
pub device_bytes : (size : ℕ) (d : Draft) (place : Extent) (story : Story) → story ≢ [] → AreInDraft size d place → place.run.start < d.from → place.run.count ≡ sector_count place.bytes
    → bytes_at (shown_image (now (map (disk_laid d.from (streams_of d)) story))) place.run.start place.bytes ≡ bytes_at (shown_image (now story)) place.run.start place.bytes
device_bytes size d place story some lies low count =
    let run = on_device_is size place.run (on_device size d place lies low) in
    let within = run.within in
    let begins = lies.begins in
    same_bytes (shown_image (now (map (disk_laid d.from (streams_of d)) story))) (shown_image (now story)) place.run.start place.bytes
    (λ j lt. ap (λ (i : Image). i (place.run.start + j)) (shows_laid d.from (streams_of d) story some)
    ∙ laid_below d.from (streams_of d) (shown_image (now story)) (place.run.start + j) (omega (arith, within, begins, count, lt)))

-- ---- the stream that is read

pub place_in_streams : (d : Draft) → IsDraft d → (p start : ℕ) → slice_get d.starts.items p ≡ Some start → p < length d.streams.items
place_in_streams d is p start at =
    let inside = slice_get_within d.starts.items p start at in
    let same = ap (λ (ns : List ℕ). length ns) is.starts in
    let count = starts_count d.from (streams_of d) in
    let number = length-map d.streams.items (λ (s : Vec ℕ). s.items) in
    omega (arith, inside, same, count, number)

module _ (size : ℕ) (d : Draft) (place : Extent) (lies : AreInDraft size d place) (high : d.from ≤ place.run.start) (p : ℕ) (at : slice_get d.starts.items p ≡ Some place.run.start)
    (stream : Vec ℕ) (is : stream ≡ get_or d.streams.items p stream) where
  own : AreStream d.from (streams_of d) place
  own = in_stream size d place lies high

  same_place : p ≡ own.at
  same_place =
      one_place d.from (streams_of d) p own.at place.run.start lies.draft.drafted.some
      (subst (λ (ns : List ℕ). slice_get ns p ≡ Some place.run.start) lies.draft.starts at) own.starts

  same_stream : stream.items ≡ own.stream
  same_stream =
      ap (λ (s : Vec ℕ). s.items) is
      ∙ sym (get_or-map (λ (s : Vec ℕ). s.items) d.streams.items p stream [] (place_in_streams d lies.draft p place.run.start at))
      ∙ get_or_from_slice_get (streams_of d) p own.stream [] (ap (slice_get (streams_of d)) same_place ∙ own.is)

  pub stream_length : length stream.items ≡ place.bytes
  stream_length = ap (λ (s : List ℕ). length s) same_stream ∙ own.size

  pub stream_bytes : (story : Story) → story ≢ [] → bytes_at (shown_image (now (map (disk_laid d.from (streams_of d)) story))) place.run.start place.bytes ≡ Some stream.items
  stream_bytes story some =
      ap (λ (i : Image). bytes_at i place.run.start place.bytes) (shows_laid d.from (streams_of d) story some)
      ∙ ap (bytes_at (laid d.from (streams_of d) (shown_image (now story))) place.run.start) (sym own.size)
      ∙ laid_holds d.from (streams_of d) (shown_image (now story)) own.at place.run.start own.stream own.starts own.is
      ∙ ap Some (sym same_stream)
