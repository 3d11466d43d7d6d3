-- What an opening finds is what the machine allows.
use Rattle.std.proofs.Common.{◌≡◌, ◌⊎◌, inl, inr, ℕ, Bool, true, false, ◌&&◌, ◌≢◌, Option, Some, None, refl, sym, ap, ◌∙◌, subst}
use Rattle.std.specs.Prelude.{[], Result, Ok, Err}
use Rattle.sector_dev.specs.Disk.{Disk, Story, Image, now, MayLeave, ShowsImage, shown_image, synced_image, flushed}
use Rattle.sector_dev.specs.Time.{Grows, LeavesOnly}
use Rattle.sector_dev.specs.laws.Time.{weaken, now_has}
use Rattle.sector_dev.specs.laws.Crash.{only_flushed}
use Rattle.commit.specs.declared.sector.Commit.{Commit}
use Rattle.commit.specs.declared.cause.Cause.{Cause}
use Rattle.commit.specs.declared.cause.Cause.TheVariants.{DeviceSize}
use Rattle.commit.specs.Standing.{Standing, no_store, damaged, rules, standing}
use Rattle.commit.specs.Opening.{CountsOpen, IsOpening, TellsStanding}
use Rattle.commit.specs.declared.reading.OpenError.{OpenError}
use Rattle.commit.specs.declared.reading.OpenError.TheVariants as errors
use Rattle.catalogue.specs.Entries.{PlainCatalogue}
use Rattle.tables.specs.Tables.{Tables}
use Rattle.tables.specs.Verdict.{after}
use Rattle.store_runs.specs.Calls.{open_call, PlainReply, done, shut_by, may_be_done, counted}
use Rattle.store_runs.specs.Steps.{Step}
use Rattle.store_runs.specs.Runs.{Goes}
use Rattle.store_runs.specs.Machine as machines
use Rattle.store_runs.specs.Machine.{broken, holds, Machine, with_doubt, running, opened, shut_down, Allows, AllowsEach, meanwhile, has_written}
use Rattle.store_runs.specs.Held.{tables_held, held_tables, held_of, held_by}
use Rattle.pages.specs.Stored.{stored_reading}
use Rattle.store.specs.Fits.{setting_of}
use Rattle.store.specs.Opening.{opening_of, TellsOpening}
use Rattle.commit.specs.declared.opening_refusal.OpeningRefusal.TheVariants as refusals
use Rattle.store.proofs.Asked.{not_less}

-- the machine after an opening that found these tables: its settled commands make them
pub record Finds (base : Tables) (m : Machine) (found : Option Tables) : Type 0 where
  pub next : Machine
  pub is : (next ≡ opened m.settled) ⊎ (next ≡ opened (with_doubt m.settled m.doubt))
  pub tables : found ≡ Some (after base next.settled)

held_some : (o : Option Tables) (t : Tables) → held_tables o ≡ holds t → o ≡ Some t
held_some None t is = absurd (cc is)
held_some (Some u) t is = let same : u ≡ t = cc is in ap Some same

held_none : {A : Type 0} (o : Option Tables) → held_tables o ≡ machines.no_store → A
held_none None is = absurd (cc is)
held_none (Some u) is = absurd (cc is)

-- what an opening counts, in the words of replies
pub opening_counts : {T : Type 0} (r : Result T OpenError) (e : OpenError) (f f' : ℕ) → r ≡ Err e → CountsOpen f f' r → f' ≡ counted (shut_by (opening_of e)) f
opening_counts (Ok x) e f f' is counts = absurd (cc is)
opening_counts (Err errors.NotAStore) e f f' is counts = let same : errors.NotAStore ≡ e = cc is in subst (λ (k : OpenError). f' ≡ counted (shut_by (opening_of k)) f) same counts
opening_counts (Err (errors.Damaged cause)) e f f' is counts = let same : errors.Damaged cause ≡ e = cc is in subst (λ (k : OpenError). f' ≡ counted (shut_by (opening_of k)) f) same counts
opening_counts (Err errors.Device) e f f' is counts = let same : errors.Device ≡ e = cc is in subst (λ (k : OpenError). f' ≡ counted (shut_by (opening_of k)) f) same counts
opening_counts (Err errors.OutOfMemory) e f f' is counts = let same : errors.OutOfMemory ≡ e = cc is in subst (λ (k : OpenError). f' ≡ counted (shut_by (opening_of k)) f) same counts

-- what is reported of a store is so, in the words of openings
pub opening_tells : (e : OpenError) (found : Standing PlainCatalogue) → TellsStanding e found → TellsOpening (opening_of e) found
opening_tells errors.NotAStore found tells = tells
opening_tells (errors.Damaged cause) found tells = tells
opening_tells errors.Device found tells = tt
opening_tells errors.OutOfMemory found tells = tt

-- a device of a size that no store has
pub opening_limits : {T : Type 0} (r : Result T OpenError) (e : OpenError) → r ≡ Err e → r ≡ Err (errors.Damaged DeviceSize) → opening_of e ≡ refusals.Damaged DeviceSize
opening_limits (Ok x) e is told = absurd (cc is)
opening_limits (Err x) e is told =
    let one : x ≡ e = cc is in
    let other : x ≡ errors.Damaged DeviceSize = cc told in
    ap opening_of (sym one ∙ other)

-- what is synced after a sync is what reads gave
pub synced_then : (s0 s1 : Story) (c : PlainCatalogue) (t : Option Tables) → now s1 ≡ flushed (now s0) → tables_held (shown_image (now s0)) c ≡ t → tables_held (synced_image (now s1)) c ≡ t
unfolding flushed
synced_then s0 s1 c t synced is = ap (λ (d : Disk). tables_held (synced_image d) c) synced ∙ is

pub runs_then : (base : Tables) (m : Machine) (found : Option Tables) (f : Finds base m found) → (f.next.phase ≡ running) × (f.next.started ≡ true) × (f.next.doubt ≡ None) × (f.next.exports ≡ []) × (f.next.next_id ≡ 0)
runs_then base m found f = by_choice f.is
  where
    by_choice : (f.next ≡ opened m.settled) ⊎ (f.next ≡ opened (with_doubt m.settled m.doubt)) → (f.next.phase ≡ running) × (f.next.started ≡ true) × (f.next.doubt ≡ None) × (f.next.exports ≡ []) × (f.next.next_id ≡ 0)
    by_choice (inl is) = (ap (λ (k : Machine). k.phase) is, ap (λ (k : Machine). k.started) is, ap (λ (k : Machine). k.doubt) is, ap (λ (k : Machine). k.exports) is, ap (λ (k : Machine). k.next_id) is)
    by_choice (inr is) = (ap (λ (k : Machine). k.phase) is, ap (λ (k : Machine). k.started) is, ap (λ (k : Machine). k.doubt) is, ap (λ (k : Machine). k.exports) is, ap (λ (k : Machine). k.next_id) is)

module _ (size : ℕ) (base : Tables) (m : Machine) where
  pub found_tables : (image : Image) (k : Commit) (c : PlainCatalogue) → Allows (setting_of size base) m image → standing stored_reading size image ≡ rules k c → Finds base m (tables_held image c)
  unfolding Allows held_by
  found_tables image k c (inl is) stands = record { next = opened m.settled; is = inl refl; tables = held_some (tables_held image c) (after base m.settled) (ap (held_of image) (sym stands) ∙ is) }
  found_tables image k c (inr (inl is)) stands =
      record { next = opened (with_doubt m.settled m.doubt); is = inr refl; tables = held_some (tables_held image c) (after base (with_doubt m.settled m.doubt)) (ap (held_of image) (sym stands) ∙ is) }
  found_tables image k c (inr (inr none)) stands = held_none (tables_held image c) (ap (held_of image) (sym stands) ∙ none.1)

  -- after it each image has these tables
  pub settled_then : (image : Image) (k : Commit) (c : PlainCatalogue) → standing stored_reading size image ≡ rules k c → (f : Finds base m (tables_held image c)) → Allows (setting_of size base) f.next image
  unfolding Allows held_by
  settled_then image k c stands f = inl (ap (held_of image) stands ∙ ap held_tables f.tables)

  no_command : (b : Bool) → meanwhile open_call m b ≡ m
  no_command true = refl
  no_command false = refl

  -- at each moment of it
  pub opening_moments : (reply : PlainReply) (s0 s1 : Story) → ShowsImage (now s0) → LeavesOnly (Allows (setting_of size base) m) (now s0) → Grows (IsOpening (now s0)) s0 s1
      → Grows (AllowsEach (setting_of size base) open_call reply m (now s0)) s0 s1
  unfolding ShowsImage
  opening_moments reply s0 s1 shows allows grows = weaken each grows
    where
      same : (b : Bool) (image : Image) → Allows (setting_of size base) m image → Allows (setting_of size base) (meanwhile open_call m b) image
      same b image is = subst (λ (k : Machine). Allows (setting_of size base) k image) (sym (no_command b)) is

      each : (d : Disk) → IsOpening (now s0) d → AllowsEach (setting_of size base) open_call reply m (now s0) d
      each d (inl is) image may = same (may_be_done reply && has_written (now s0) d) image (allows image (subst (λ (x : Disk). MayLeave x image) is may))
      each d (inr is) image may =
          same (may_be_done reply && has_written (now s0) d) image (subst (λ (x : Image). Allows (setting_of size base) m x) (sym (only_flushed (now s0) image (subst (λ (x : Disk). MayLeave x image) is may))) (allows (shown_image (now s0)) shows))

  -- an opening begins no write
  none_written : (s0 s1 : Story) → IsOpening (now s0) (now s1) → has_written (now s0) (now s1) ≡ false
  unfolding flushed
  none_written s0 s1 (inl is) = ap (has_written (now s0)) is ∙ not_less (now s0).writes
  none_written s0 s1 (inr is) = ap (has_written (now s0)) is ∙ not_less (now s0).writes

  pub opening_done : (s0 s1 : Story) (f f' : ℕ) (k : Commit) (c : PlainCatalogue) → ShowsImage (now s0) → LeavesOnly (Allows (setting_of size base) m) (now s0) → Grows (IsOpening (now s0)) s0 s1
      → standing stored_reading size (shown_image (now s0)) ≡ rules k c → now s1 ≡ flushed (now s0) → f' ≡ f → (found : Finds base m (tables_held (shown_image (now s0)) c))
      → Goes (setting_of size base) m open_call done s0 s1 f f' found.next
  unfolding Step
  opening_done s0 s1 f f' k c shows allows grows stands synced same found =
      record {
        step = (none_written s0 s1 (inr synced), found.is);
        moments = opening_moments done s0 s1 shows allows grows;
        settles = λ image may.
            subst (λ (x : Image). Allows (setting_of size base) found.next x) (sym (only_flushed (now s0) image (subst (λ (d : Disk). MayLeave d image) synced may))) (settled_then (shown_image (now s0)) k c stands found);
        quiet = λ no quiet. absurd (cc no);
        counts = same;
        tells = tt;
        room = tt;
        spares = λ needs. absurd (cc needs);
        keeps = tt;
      }

  -- after one that is refused the machine allows what it allowed
  allows_after : (s0 s1 : Story) → ShowsImage (now s0) → LeavesOnly (Allows (setting_of size base) m) (now s0) → IsOpening (now s0) (now s1) → LeavesOnly (Allows (setting_of size base) m) (now s1)
  unfolding ShowsImage
  allows_after s0 s1 shows allows (inl is) image may = allows image (subst (λ (d : Disk). MayLeave d image) is may)
  allows_after s0 s1 shows allows (inr is) image may =
      subst (λ (x : Image). Allows (setting_of size base) m x) (sym (only_flushed (now s0) image (subst (λ (d : Disk). MayLeave d image) is may))) (allows (shown_image (now s0)) shows)

  pub same_allows : (d : Disk) → LeavesOnly (Allows (setting_of size base) m) d → LeavesOnly (Allows (setting_of size base) (shut_down m)) d
  unfolding Allows
  same_allows d allows image may = allows image may

  -- no store is found only before the start, and no damaged one at all
  pub not_started : (image : Image) → Allows (setting_of size base) m image → standing stored_reading size image ≡ no_store → m.started ≡ false
  unfolding Allows held_by
  not_started image (inl is) none = let held : machines.no_store ≡ holds (after base m.settled) = ap (held_of image) (sym none) ∙ is in absurd (cc held)
  not_started image (inr (inl is)) none = let held : machines.no_store ≡ holds (after base (with_doubt m.settled m.doubt)) = ap (held_of image) (sym none) ∙ is in absurd (cc held)
  not_started image (inr (inr is)) none = is.0

  not_damaged : (image : Image) (cause : Cause) → Allows (setting_of size base) m image → standing stored_reading size image ≡ damaged cause → ⊥
  unfolding Allows held_by
  not_damaged image cause (inl is) bad = let held : broken ≡ holds (after base m.settled) = ap (held_of image) (sym bad) ∙ is in cc held
  not_damaged image cause (inr (inl is)) bad = let held : broken ≡ holds (after base (with_doubt m.settled m.doubt)) = ap (held_of image) (sym bad) ∙ is in cc held
  not_damaged image cause (inr (inr is)) bad = let held : broken ≡ machines.no_store = ap (held_of image) (sym bad) ∙ is.1 in cc held

  pub opening_refused : (e : OpenError) (s0 s1 : Story) (f f' : ℕ) → ShowsImage (now s0) → LeavesOnly (Allows (setting_of size base) m) (now s0) → Grows (IsOpening (now s0)) s0 s1
      → TellsStanding e (standing stored_reading size (shown_image (now s0))) → (e ≢ errors.Device → now s1 ≡ now s0) → f' ≡ counted (shut_by (opening_of e)) f
      → Goes (setting_of size base) m open_call (shut_by (opening_of e)) s0 s1 f f' (shut_down m)
  unfolding Step ShowsImage held_by
  opening_refused errors.NotAStore s0 s1 f f' shows allows grows tells quiet counts =
      let opening = now_has {P = IsOpening (now s0)} (inl refl) grows in
      record {
        step = (not_started (shown_image (now s0)) (allows (shown_image (now s0)) shows) tells, none_written s0 s1 opening, refl);
        moments = opening_moments (shut_by (opening_of errors.NotAStore)) s0 s1 shows allows grows;
        settles = same_allows (now s1) (allows_after s0 s1 shows allows opening);
        quiet = λ no device. quiet (λ is. cc is);
        counts = counts;
        tells = ap (held_of (shown_image (now s0))) tells;
        room = tt;
        spares = λ needs. absurd (cc needs);
        keeps = tt;
      }
  opening_refused (errors.Damaged cause) s0 s1 f f' shows allows grows tells quiet counts = absurd (not_damaged (shown_image (now s0)) cause (allows (shown_image (now s0)) shows) tells)
  opening_refused errors.Device s0 s1 f f' shows allows grows tells quiet counts =
      let opening = now_has {P = IsOpening (now s0)} (inl refl) grows in
      record {
        step = (none_written s0 s1 opening, refl);
        moments = opening_moments (shut_by (opening_of errors.Device)) s0 s1 shows allows grows;
        settles = same_allows (now s1) (allows_after s0 s1 shows allows opening);
        quiet = λ no device. absurd (cc device);
        counts = counts;
        tells = tt;
        room = tt;
        spares = λ needs. absurd (cc needs);
        keeps = tt;
      }
  opening_refused errors.OutOfMemory s0 s1 f f' shows allows grows tells quiet counts =
      let opening = now_has {P = IsOpening (now s0)} (inl refl) grows in
      record {
        step = (none_written s0 s1 opening, refl);
        moments = opening_moments (shut_by (opening_of errors.OutOfMemory)) s0 s1 shows allows grows;
        settles = same_allows (now s1) (allows_after s0 s1 shows allows opening);
        quiet = λ no device. quiet (λ is. cc is);
        counts = counts;
        tells = tt;
        room = tt;
        spares = λ needs. absurd (cc needs);
        keeps = tt;
      }

  pub device_after : (s0 s1 : Story) → ShowsImage (now s0) → LeavesOnly (Allows (setting_of size base) m) (now s0) → Grows (IsOpening (now s0)) s0 s1 → LeavesOnly (Allows (setting_of size base) (shut_down m)) (now s1)
  device_after s0 s1 shows allows grows = same_allows (now s1) (allows_after s0 s1 shows allows (now_has {P = IsOpening (now s0)} (inl refl) grows))

  -- what reads show is what the machine allows
  pub found_shown : (s0 : Story) (k : Commit) (c : PlainCatalogue) → ShowsImage (now s0) → LeavesOnly (Allows (setting_of size base) m) (now s0) → standing stored_reading size (shown_image (now s0)) ≡ rules k c
      → Finds base m (tables_held (shown_image (now s0)) c)
  unfolding ShowsImage
  found_shown s0 k c shows allows stands = found_tables (shown_image (now s0)) k c (allows (shown_image (now s0)) shows) stands
