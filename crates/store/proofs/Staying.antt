-- A change of a store that leaves its tables as they are, in the words of the machine.
use Rattle.std.specs.Prelude.{◌≡◌, ◌≢◌, ◌⊎◌, ◌≤◌, ◌+◌, ◌-◌, ◌^◌, ◌&&◌, ℕ, min, Bool, true, false, List, Some, Ok, Err, refl, if◌then◌else◌}
use Rattle.std.proofs.Common.{inl, inr, sym, ap, ◌∙◌, subst, arith}
use Rattle.std.proofs.lemmas.Bool.{lt-ltb, true≢false}
use Rattle.sector_dev.specs.Disk.{Disk, Story, Image, now, synced_image, MayLeave}
use Rattle.sector_dev.specs.declared.device.SectorDevice.{Ghosts}
use Rattle.sector_dev.specs.Time.{Grows, LeavesOnly}
use Rattle.sector_dev.specs.laws.Time.{weaken, now_has, stays, goes_on, now_read}
use Rattle.sector_dev.specs.laws.Crash.{only_image}
use Rattle.segments.specs.declared.run.Run.{Run}
use Rattle.segments.specs.Usages.{IsUsedIn}
use Rattle.catalogue.specs.declared.entry.Segment.{Segment}
use Rattle.catalogue.specs.declared.limits.TheConstants.{MAX_SEGMENTS}
use Rattle.catalogue.specs.Entries.{IsCatalogue, runs_of, segment_count}
use Rattle.catalogue.specs.laws.Kept.{catalogue_is}
use Rattle.export_book.specs.Book.{PlainBook}
use Rattle.commit.specs.Standing.{is_size, rules, standing, used_runs, InSome}
use Rattle.tables.specs.declared.refusal.Refusal.{Refusal}
use Rattle.tables.specs.declared.refusal.Refusal.TheVariants as refusals
use Rattle.tables.specs.declared.refusal.Limit.TheVariants as limits
use Rattle.tables.specs.Tables.{Tables}
use Rattle.tables.specs.Verdict.{after}
use Rattle.store.specs.declared.store.Store.{Store}
use Rattle.store_runs.specs.Calls.{PlainCall, PlainReply, compact_call, upgrade_call, refused, counted, is_change, is_device_reply, may_be_done}
use Rattle.store_runs.specs.Machine.{pinned_by, holds, Setting, Machine, running, halted, Allows, AllowsEach, SparesKept, meanwhile, has_written, halt}
use Rattle.store_runs.specs.Steps.{Step}
use Rattle.store_runs.specs.Runs.{Goes, TellsFound, TellsExport}
use Rattle.store_runs.specs.Rooms.{TellsRoom}
use Rattle.store_runs.specs.Held.{tables_held, held_tables, held_by}
use Rattle.pages.specs.Stored.{stored_reading}
use Rattle.store.specs.Fits.{book_of, setting_of, listed_in, ExportsFit, StoreFits, IsSound}
use Rattle.store_runs.specs.Changes.{PlainChange, edited, placed_segments, HoldsStreams}
use Rattle.store.specs.Exported.{AreExportable}
use Rattle.store_changes.specs.laws.Changed.{placed_held}
use Rattle.store_runs.specs.Carrying.{outline, placed, commit_placed}
use Rattle.store.specs.Reading.{OnlyReadsStore}
use Rattle.store.specs.Applying.{GoesOn, EndsAs, IsKept, IsCarryingAtEachMoment, IsCarriedOnDisk}
use Rattle.store_changes.specs.OnDisk.{HasCarried, IsOldOrCarried, IsCarrying}
use Rattle.store_changes.specs.laws.Frame.{held_is, same_tables}
use Rattle.store_changes.specs.laws.Synced.{own_image}
use Rattle.store.proofs.Asked.{not_less, refused_elsewhere, refused_keeps, stays_keeps}
use Rattle.store.proofs.StillFits.{fits_halted, fits_unwritten}
use Rattle.store.proofs.ReadsStore.{moments_read, spared_reading}
use Rattle.store.proofs.Spares.{spares_in, exports_on}

-- a call that changes no table: it is in doubt at no moment, and where it is refused the machine stays or is halted
pub record Staying (call : PlainCall) : Type 0 where
  pub undoubted : (s : Setting) (m : Machine) (begun : Bool) (image : Image) → Allows s m image → Allows s (meanwhile call m begun) image
  pub off : (s : Setting) (m : Machine) (wrote : Bool) (image : Image) → Allows s m image → Allows s (halt call wrote m) image
  pub failed : (s : Setting) (m : Machine) (wrote : Bool) → m.phase ≡ running → Step s m call (refused refusals.Device) wrote (halt call wrote m)
  pub epochs : (s : Setting) (m : Machine) → m.phase ≡ running → Step s m call (refused (refusals.TooMany limits.Epochs)) false m
  pub full : (s : Setting) (m : Machine) (count : ℕ) → m.phase ≡ running → Step s m call (refused (refusals.NoRoom count)) false m
  pub memory : (s : Setting) (m : Machine) → m.phase ≡ running → Step s m call (refused refusals.OutOfMemory) false m

undoubted_compact : (s : Setting) (m : Machine) (begun : Bool) (image : Image) → Allows s m image → Allows s (meanwhile compact_call m begun) image
unfolding Allows
undoubted_compact s m true image allows = allows
undoubted_compact s m false image allows = allows

off_compact : (s : Setting) (m : Machine) (wrote : Bool) (image : Image) → Allows s m image → Allows s (halt compact_call wrote m) image
unfolding Allows
off_compact s m true image allows = allows
off_compact s m false image allows = allows

pub compact_stays : Staying compact_call
unfolding Step
compact_stays = record {
  undoubted = undoubted_compact;
  off = off_compact;
  failed = λ s m wrote on. (on, refl);
  epochs = λ s m on. (on, (refl, refl));
  full = λ s m count on. (on, (refl, refl));
  memory = λ s m on. (on, (refl, refl));
}

undoubted_upgrade : (s : Setting) (m : Machine) (begun : Bool) (image : Image) → Allows s m image → Allows s (meanwhile upgrade_call m begun) image
unfolding Allows
undoubted_upgrade s m true image allows = allows
undoubted_upgrade s m false image allows = allows

off_upgrade : (s : Setting) (m : Machine) (wrote : Bool) (image : Image) → Allows s m image → Allows s (halt upgrade_call wrote m) image
unfolding Allows
off_upgrade s m true image allows = allows
off_upgrade s m false image allows = allows

pub upgrade_stays : Staying upgrade_call
unfolding Step
upgrade_stays = record {
  undoubted = undoubted_upgrade;
  off = off_upgrade;
  failed = λ s m wrote on. (on, refl);
  epochs = λ s m on. (on, (refl, refl));
  full = λ s m count on. (on, (refl, refl));
  memory = λ s m on. (on, (refl, refl));
}

module _ {D : Type 0} {g : Ghosts D} (size : D → ℕ) (story : D → Story) (failed : D → ℕ) (base : Tables) (m : Machine) (old new : Store D g) (fits : StoreFits size story base m old) (on : m.phase ≡ running)
    (sized : size new.device ≡ size old.device) (book : book_of new ≡ book_of old) (exportable : AreExportable (size old.device) (book_of old).exports) (change : PlainChange) (call : PlainCall) (staying : Staying call)
    (keeps : (image : Image) → ((n : ℕ) → InSome (runs_of (listed_in old)) n → image n ≡ synced_image (now (story old.device)) n) → (others : List Segment)
    → HoldsStreams image others change.streams change.counts → tables_held image (edited (listed_in old) change.edit others) ≡ tables_held image (listed_in old)) where
  abbrev s : Setting
  s = setting_of (size old.device) base

  sound : IsSound size story base m old
  sound = fits.sound on

  catalogue : IsCatalogue (listed_in old)
  catalogue = catalogue_is (listed_in old) old.opened.catalogue.list.kept

  abbrev used : Run → Type 0
  used = IsUsedIn old.opened.map.entries

  abbrev before : Disk
  before = now (story old.device)

  -- ---- what its images hold

  still_held : (image : Image) → ((n : ℕ) → InSome (used_runs stored_reading old.opened.commit (listed_in old)) n → image n ≡ (before.at n).synced) → tables_held image (listed_in old) ≡ Some (after base m.settled)
  still_held image kept = same_tables (synced_image before) image (listed_in old) catalogue.entries (λ n within. kept n (inr within)) ∙ sound.tables

  new_held : (image : Image) → ((n : ℕ) → InSome (used_runs stored_reading old.opened.commit (listed_in old)) n → image n ≡ (before.at n).synced) → (is : HasCarried (size old.device) used old.opened.commit (listed_in old) change image)
      → tables_held image (placed old.opened.commit.version (listed_in old) change is.places) ≡ Some (after base m.settled)
  new_held image kept is = placed_held image old.opened.commit.version (listed_in old) change is.places ∙ keeps image (λ n within. kept n (inr within)) (placed_segments old.opened.commit.version is.places change.streams change.counts) is.holds ∙ still_held image kept

  each : (image : Image) → IsOldOrCarried (size old.device) used old.opened.commit (listed_in old) before change image → held_by (size old.device) image ≡ holds (after base m.settled)
  each image is = by_which is.which
    where
      by_which : (standing stored_reading (size old.device) image ≡ rules old.opened.commit (listed_in old)) ⊎ HasCarried (size old.device) used old.opened.commit (listed_in old) change image
          → held_by (size old.device) image ≡ holds (after base m.settled)
      by_which (inl stood) = held_is (size old.device) image old.opened.commit (listed_in old) stood ∙ ap held_tables (still_held image is.kept)
      by_which (inr does) =
          held_is (size old.device) image (commit_placed old.opened.commit (listed_in old) change does.text) (placed old.opened.commit.version (listed_in old) change does.places) does.stands
          ∙ ap held_tables (new_held image is.kept does)

  each_allows : (image : Image) → IsOldOrCarried (size old.device) used old.opened.commit (listed_in old) before change image → Allows s m image
  unfolding Allows
  each_allows image is = inl (each image is)

  abbrev Carrying : Disk → Type 0
  Carrying d = IsCarrying (size old.device) used old.opened.commit (listed_in old) before change d

  moments_in : (reply : PlainReply) → IsCarryingAtEachMoment size story old change new → Grows (AllowsEach s call reply m before) (story old.device) (story new.device)
  moments_in reply carries =
      weaken (λ (d : Disk) (p : Carrying d) (image : Image) (may : MayLeave d image). staying.undoubted s m (may_be_done reply && has_written before d) image (each_allows image (p.leaves image may))) carries

  first_moment : Carrying before
  first_moment = record {
    touches = inl refl;
    begun = inl refl;
    leaves = λ image may.
        let one : image ≡ synced_image before = only_image before image sound.stands.quiet.pending may in
        record { which = inl (ap (standing stored_reading (size old.device)) one ∙ sound.stands.found); kept = λ n within. ap (λ (i : Image). i n) one };
  }

  last_moment : IsCarryingAtEachMoment size story old change new → Carrying (now (story new.device))
  last_moment carries = now_has {P = λ d. Carrying d} first_moment carries

  -- ---- how it ends

  pub changed_goes : (reply : PlainReply) → Step s m call reply true m → is_change call reply ≡ true → is_device_reply reply ≡ false → TellsFound s reply before → failed new.device ≡ failed old.device → new.halted ≡ false
      → TellsRoom s (pinned_by m) call reply before (now (story new.device)) → IsCarryingAtEachMoment size story old change new → IsCarriedOnDisk size story old change new → GoesOn size story failed base m call reply old new
  unfolding Allows held_by
  changed_goes reply step changes works found count quiet room carries does =
      let s1 = now (story new.device) in
      let image = synced_image s1 in
      let last = (last_moment carries).leaves image (own_image s1) in
      let tables : tables_held image (listed_in new) ≡ Some (after base m.settled) = ap (tables_held image) listed ∙ new_held image last.kept does.holds in
      let held : held_by (size old.device) image ≡ holds (after base m.settled) = held_is (size old.device) image new.opened.commit (listed_in new) stands ∙ ap held_tables tables in
      let settles : LeavesOnly (Allows s m) s1 = λ i may. inl (ap (held_by (size old.device)) (only_image s1 i does.stands.quiet.pending may) ∙ held) in
      record {
        next = m;
        same = sized;
        goes = record {
          step = subst (λ (wrote : Bool). Step s m call reply wrote m) (sym (lt-ltb before.writes s1.writes does.begun)) step;
          moments = moments_in reply carries;
          settles = settles;
          quiet = λ no device. absurd (true≢false (sym changes ∙ no));
          counts = count ∙ sym (ap (λ (b : Bool). if b then min (failed old.device + 1) (2 ^ 64 - 1) else failed old.device) works);
          tells = found;
          room = room;
          spares = λ needs. spares_in size story base m old new sound book exportable change carries;
          keeps = stays_keeps s m call reply true before step;
        };
        fits = record {
          phase = on ∙ sym (ap (λ (b : Bool). if b then halted else running) quiet);
          started = fits.started;
          device = record {
            in_limits = subst (λ (n : ℕ). is_size n ≡ true) (sym sized) fits.device.in_limits;
            allows = subst (λ (n : ℕ). LeavesOnly (Allows (setting_of n base) m) s1) (sym sized) settles;
            fresh = λ no. absurd (true≢false (sym fits.started ∙ no));
          };
          sound = λ again. record {
            stands = does.stands;
            tables = tables;
            uses = new.uses;
            none = sound.none;
            exports = exports_on size story base m old new sound book exportable change carries;
            next = ap (λ (b : PlainBook). b.next) book ∙ sound.next;
          };
        };
      }
    where
      stands : standing stored_reading (size old.device) (synced_image (now (story new.device))) ≡ rules new.opened.commit (listed_in new)
      stands = ap (λ (n : ℕ). standing stored_reading n (synced_image (now (story new.device)))) (sym sized) ∙ does.stands.found

      same_rules : rules new.opened.commit (listed_in new)
          ≡ rules (commit_placed old.opened.commit (listed_in old) change does.holds.text) (placed old.opened.commit.version (listed_in old) change does.holds.places)
      same_rules = sym stands ∙ does.holds.stands

      listed : listed_in new ≡ placed old.opened.commit.version (listed_in old) change does.holds.places
      listed = let both = same_rules in cc both

  failed_goes : failed new.device ≡ min (failed old.device + 1) (2 ^ 64 - 1) → new.halted ≡ true → IsCarryingAtEachMoment size story old change new → GoesOn size story failed base m call (refused refusals.Device) old new
  failed_goes count stopped carries =
      let s1 = now (story new.device) in
      let wrote = has_written before s1 in
      let next = halt call wrote m in
      let settles : LeavesOnly (Allows s next) s1 = λ image may. staying.off s m wrote image (each_allows image ((last_moment carries).leaves image may)) in
      record {
        next = next;
        same = sized;
        goes = record {
          step = staying.failed s m wrote on;
          moments = moments_in (refused refusals.Device) carries;
          settles = settles;
          quiet = λ no device. absurd (cc device);
          counts = count;
          tells = tt;
          room = refused_elsewhere s (pinned_by m) call refusals.Device before s1 (λ is. cc is);
          spares = λ needs. spares_in size story base m old new sound book exportable change carries;
          keeps = refused_keeps s call refusals.Device before next;
        };
        fits = fits_halted size story base m old new fits sized call wrote stopped settles;
      }

  refused_stays : (r : Refusal) → Step s m call (refused r) false m → is_device_reply (refused r) ≡ false → failed new.device ≡ failed old.device → new.halted ≡ false → IsKept old new
      → TellsRoom s (pinned_by m) call (refused r) before (now (story new.device)) → story new.device ≡ story old.device → GoesOn size story failed base m call (refused r) old new
  refused_stays r step works count quiet kept room same =
      let disk : now (story new.device) ≡ before = ap now same in
      let moments : Grows (λ (d : Disk). d ≡ before) (story old.device) (story new.device) = subst (λ (t : Story). Grows (λ (d : Disk). d ≡ before) (story old.device) t) (sym same) (stays (λ (d : Disk). d ≡ before) (story old.device)) in
      record {
        next = m;
        same = sized;
        goes = record {
          step = subst (λ (b : Bool). Step s m call (refused r) b m) (sym (ap (has_written before) disk ∙ not_less before.writes)) step;
          moments = moments_read s m call (refused r) (story old.device) (story new.device) fits.device.allows moments;
          settles = subst (λ (d : Disk). LeavesOnly (Allows s m) d) (sym disk) fits.device.allows;
          quiet = λ no device. disk;
          counts = count ∙ sym (ap (λ (b : Bool). if b then min (failed old.device + 1) (2 ^ 64 - 1) else failed old.device) works);
          tells = tt;
          room = room;
          spares = λ needs. spared_reading m (story old.device) (story new.device) moments;
          keeps = refused_keeps s call r before m;
        };
        fits = fits_unwritten size story base m old new fits sized m.exports m.next_id on quiet kept.0 kept.1 disk
            (subst (λ (b : PlainBook). ExportsFit (synced_image (now (story old.device))) b.exports m.exports) (sym book) sound.exports) (ap (λ (b : PlainBook). b.next) book ∙ sound.next);
      }

  -- however it is refused
  pub refusal_goes : segment_count (outline old.opened.commit.version (listed_in old) change) ≤ MAX_SEGMENTS → (r : Refusal) → failed new.device ≡ counted (refused r) (failed old.device) → EndsAs size old (Ok change) (Err r) new → TellsRoom s (pinned_by m) call (refused r) before (now (story new.device))
      → (new.halted ≡ is_device_reply (refused r)) → IsKept old new → (r ≢ refusals.Device → story new.device ≡ story old.device) → IsCarryingAtEachMoment size story old change new
      → GoesOn size story failed base m call (refused r) old new
  refusal_goes few refusals.Device count carried room halts kept quiet carries = failed_goes count halts carries
  refusal_goes few (refusals.TooMany limits.Epochs) count carried room halts kept quiet carries = refused_stays (refusals.TooMany limits.Epochs) (staying.epochs s m on) refl count halts kept room (quiet (λ is. cc is))
  refusal_goes few (refusals.TooMany limits.Segments) count carried room halts kept quiet carries = absurd (let many = carried.1 in omega (arith, few, many))
  refusal_goes few (refusals.NoRoom n) count carried room halts kept quiet carries = refused_stays (refusals.NoRoom n) (staying.full s m n on) refl count halts kept room (quiet (λ is. cc is))
  refusal_goes few refusals.OutOfMemory count carried room halts kept quiet carries = refused_stays refusals.OutOfMemory (staying.memory s m on) refl count halts kept room (quiet (λ is. cc is))
  refusal_goes few _ count carried room halts kept quiet carries = absurd carried

-- ---- after the reads

module _ {D : Type 0} {g : Ghosts D} (size : D → ℕ) (story : D → Story) (failed : D → ℕ) (base : Tables) (m : Machine) (tells : Bool) (told : tells ≡ true) (old mid new : Store D g) (call : PlainCall) (staying : Staying call) (ends reply : PlainReply) where
  -- one that goes on from where reads left the store
  pub goes_behind : is_device_reply ends ≡ false → StoreFits size story base m old → OnlyReadsStore size story failed tells ends old mid → TellsFound (setting_of (size old.device) base) reply (now (story old.device))
      → GoesOn size story failed base m call reply mid new → GoesOn size story failed base m call reply old new
  goes_behind quiet fits reads found goes =
      let moments = reads.device.moments told in
      let later : now (story mid.device) ≡ now (story old.device) = now_read (story old.device) (story mid.device) moments in
      let s : Setting = setting_of (size old.device) base in
      let own : Goes s m call reply (story mid.device) (story new.device) (failed mid.device) (failed new.device) goes.next =
      subst (λ (n : ℕ). Goes (setting_of n base) m call reply (story mid.device) (story new.device) (failed mid.device) (failed new.device) goes.next) reads.device.same goes.goes in
      record {
        next = goes.next;
        same = goes.same ∙ reads.device.same;
        goes = record {
          step = subst (λ (d : Disk). Step s m call reply (has_written d (now (story new.device))) goes.next) later own.step;
          moments = goes_on (moments_read s m call reply (story old.device) (story mid.device) fits.device.allows moments)
              (subst (λ (d : Disk). Grows (AllowsEach s call reply m d) (story mid.device) (story new.device)) later own.moments);
          settles = own.settles;
          quiet = λ no device. own.quiet no device ∙ later;
          counts = own.counts ∙ ap (counted reply) (reads.device.count ∙ ap (λ (b : Bool). if b then min (failed old.device + 1) (2 ^ 64 - 1) else failed old.device) quiet);
          tells = found;
          room = subst (λ (d : Disk). TellsRoom s (pinned_by m) call reply d (now (story new.device))) later own.room;
          spares = λ needs. goes_on (spared_reading m (story old.device) (story mid.device) moments)
              (subst (λ (d : Disk). Grows (SparesKept m d) (story mid.device) (story new.device)) later (own.spares needs));
          keeps = subst (λ (d : Disk). TellsExport s call reply d goes.next) later own.keeps;
        };
        fits = goes.fits;
      }
