-- Segments that are sent, and read ahead of their turn.
use Rattle.std.specs.Prelude.{slice_get, Option, min}
use Rattle.std.proofs.Common.{zero, suc, ◌≡◌, ◌∙◌, ◌<◌, ◌+◌, ◌-◌, ◌^◌, ◌++◌, ℕ, Bool, true, false, List, [], ◌∷◌, Some, arith, get_or, length, map, take, refl, sym, ap, subst}
use Rattle.std.specs.Prelude.{if◌then◌else◌}
use Rattle.std.specs.List.{list_all}
use Rattle.std.proofs.lemmas.Bool.{and_from}
use Rattle.std.proofs.lemmas.List.{map-append}
use Rattle.std.proofs.lemmas.Option.{same_Some}
use Rattle.facts.specs.laws.Lists.{take-item}
use Rattle.sha2.specs.Sha256.{sha256}
use Rattle.sector_dev.specs.Disk.{Image, Story}
use Rattle.segments.specs.declared.extent.Extent.{Extent}
use Rattle.catalogue.specs.declared.entry.Segment.{Segment}
use Rattle.catalogue.specs.Edits.{entry_of}
use Rattle.catalogue.specs.Entries.{PlainEntry, PlainCatalogue, is_segment}
use Rattle.tables.specs.declared.refusal.Refusal.{Refusal}
use Rattle.tables.specs.declared.refusal.Refusal.TheVariants as refusals
use Rattle.tables.specs.declared.refusal.Limit.TheVariants as limits
use Rattle.store_runs.specs.Calls.{PlainReply, is_failure, is_device_reply}
use Rattle.store_runs.specs.Held.{is_undamaged}
use Rattle.store_runs.specs.Reading.{IsCopy, OnlyReadsDevice}
use Rattle.store_changes.specs.Source.{AreReadable}
use Rattle.store.specs.declared.sending.Item.{Item}
use Rattle.store.specs.SegmentStreams.{HasStream}
use Rattle.store.specs.Sending.{Located, IsSent}
use Rattle.store.specs.inner.Sending.{plain_item, IsSegmentOf, ArePicked, FailsSending}

-- ---- the segments of items

-- what stands past the last item
abbrev pub no_item : Item
no_item = record { name = record { ref_ptr = (0, 0); now = [] }; place = 0; digest = [] }

pub picked_more : (c : PlainCatalogue) (xs : List Located) (gs : List Segment) (x : Located) (g : Segment) → ArePicked c xs gs → IsSegmentOf c x g
    → ArePicked c (xs ++ x ∷ []) (gs ++ g ∷ [])
picked_more c [] [] x g all one = (one, tt)
picked_more c (y ∷ xs) (h ∷ gs) x g all one = (all.0, picked_more c xs gs x g all.1 one)
picked_more c [] (h ∷ gs) x g all one = absurd all
picked_more c (y ∷ xs) [] x g all one = absurd all

pub picked_next : (c : PlainCatalogue) (items : List Item) (i : ℕ) (item : Item) (gs more : List Segment) (g : Segment) → i < length items
    → item ≡ get_or items i item → more ≡ gs ++ g ∷ [] → ArePicked c (map plain_item (take i items)) gs → IsSegmentOf c (plain_item item) g
    → ArePicked c (map plain_item (take (i + 1) items)) more
picked_next c items i item gs more g lt at longer all one =
    subst (ArePicked c (map plain_item (take (i + 1) items))) (sym longer)
    (subst (λ (xs : List Located). ArePicked c xs (gs ++ g ∷ []))
    (sym (ap (map plain_item) (take-item items i item lt at) ∙ map-append plain_item (take i items) (item ∷ [])))
    (picked_more c (map plain_item (take i items)) gs (plain_item item) g all one))

pub picked_number : (c : PlainCatalogue) (xs : List Located) (gs : List Segment) → ArePicked c xs gs → length gs ≡ length xs
picked_number c [] [] all = refl
picked_number c (x ∷ xs) (g ∷ gs) all = let more = picked_number c xs gs all.1 in omega (arith, more)
picked_number c [] (g ∷ gs) all = absurd all
picked_number c (x ∷ xs) [] all = absurd all

pub picked_at : (c : PlainCatalogue) (items : List Item) (gs : List Segment) (i : ℕ) (item : Item) (g : Segment) → i < length gs
    → item ≡ get_or items i item → g ≡ get_or gs i g → ArePicked c (map plain_item items) gs → IsSegmentOf c (plain_item item) g
picked_at c [] [] i item g lt at is all = absurd (omega (arith, lt))
picked_at c (x ∷ xs) (h ∷ gs) zero item g lt at is all =
    subst (λ (y : Item). IsSegmentOf c (plain_item y) g) (sym at) (subst (IsSegmentOf c (plain_item x)) (sym is) all.0)
picked_at c (x ∷ xs) (h ∷ gs) (suc i) item g lt at is all = picked_at c xs gs i item g (omega (arith, lt)) at is all.1
picked_at c [] (h ∷ gs) i item g lt at is all = absurd all
picked_at c (x ∷ xs) [] i item g lt at is all = absurd all

module _ (c : PlainCatalogue) (P : Extent → Type 0) (each : (x : Located) (g : Segment) → IsSegmentOf c x g → P g.place) where
  pub picked_readable : (xs : List Located) (gs : List Segment) → ArePicked c xs gs → AreReadable P gs
  picked_readable [] [] all = tt
  picked_readable (x ∷ xs) (g ∷ gs) all = (each x g all.0, picked_readable xs gs all.1)
  picked_readable [] (g ∷ gs) all = absurd all
  picked_readable (x ∷ xs) [] all = absurd all

pub picked_sound : (c : PlainCatalogue) → ((x : Located) (g : Segment) → IsSegmentOf c x g → is_segment g ≡ true) → (xs : List Located) (gs : List Segment)
    → ArePicked c xs gs → list_all is_segment gs ≡ true
picked_sound c each [] [] all = refl
picked_sound c each (x ∷ xs) (g ∷ gs) all = and_from (is_segment g) (list_all is_segment gs) (each x g all.0) (picked_sound c each xs gs all.1)
picked_sound c each [] (g ∷ gs) all = absurd all
picked_sound c each (x ∷ xs) [] all = absurd all

-- ---- the stream of one

-- of the entry that was looked up again
pub sent_of : (tells : Bool) (image : Image) (c : PlainCatalogue) (x : Located) (g : Segment) (e : PlainEntry) (bytes : List ℕ) → IsSegmentOf c x g
    → entry_of c x.name ≡ Some e → HasStream tells image e.schema g x.digest bytes → IsSent tells image c x bytes
sent_of tells image c x g e bytes named there has =
    let same : named.0 ≡ e = same_Some named.0 e (sym named.1 ∙ there) in
    record {
      entry = e;
      there = there;
      segment = g;
      at = subst (λ (y : PlainEntry). slice_get y.segments x.place ≡ Some g) same named.2;
      has = has;
    }

-- ---- refusals

pub quiet_sending : (r : Refusal) → FailsSending r → is_failure r ≡ false
quiet_sending refusals.Write f = refl
quiet_sending (refusals.TooMany limits.Bytes) f = refl
quiet_sending refusals.OutOfMemory f = refl
quiet_sending _ f = absurd f

-- a device that was only read, told by another reply
pub device_alike : {D : Type 0} (size : D → ℕ) (story : D → Story) (failed : D → ℕ) (tells : Bool) (one other : PlainReply) (a b : D)
    → is_device_reply other ≡ is_device_reply one → OnlyReadsDevice size story failed tells one a b → OnlyReadsDevice size story failed tells other a b
device_alike size story failed tells one other a b same reads = record {
  same = reads.same;
  moments = reads.moments;
  count = reads.count ∙ ap (λ (t : Bool). if t then min (failed a + 1) (2 ^ 64 - 1) else failed a) (sym same);
}
