-- A call that reads a table is a call of the machine: it changes nothing, unless its device fails.
use Rattle.std.specs.Prelude.{◌≢◌, ◌||◌, ◌&&◌, min, if◌then◌else◌}
use Rattle.std.proofs.Common.{◌≡◌, ◌+◌, ◌-◌, ◌^◌, ℕ, Bool, true, false, List, Option, Some, None, refl, sym, ap, ◌∙◌, subst}
use Rattle.std.proofs.lemmas.Bool.{and_right, or_right}
use Rattle.sector_dev.specs.Disk.{Disk, Story, Image, now, MayLeave, shown_image, synced_image}
use Rattle.sector_dev.specs.Time.{Grows, LeavesOnly, OnlyReads}
use Rattle.sector_dev.specs.laws.Time.{weaken, now_read}
use Rattle.sector_dev.specs.declared.device.SectorDevice.{Ghosts}
use Rattle.segments.specs.laws.Usages.{or_false}
use Rattle.cells.specs.Cell.{PlainTable}
use Rattle.catalogue.specs.Entries.{PlainEntry, IsCatalogue, is_entry}
use Rattle.catalogue.specs.Edits.{entry_of}
use Rattle.catalogue.specs.View.{catalogue_of}
use Rattle.catalogue.specs.laws.Changed.{found_passes}
use Rattle.catalogue.specs.laws.Kept.{entry_is}
use Rattle.commit.specs.declared.recovery.Opened.{Opened}
use Rattle.export_book.specs.Book.{PlainBook}
use Rattle.pages.specs.declared.stored.StoredCatalogue.{StoredCatalogue}
use Rattle.commit.specs.Standing.{is_size, Stands}
use Rattle.tables.specs.declared.refusal.Refusal.{Refusal}
use Rattle.tables.specs.declared.refusal.Refusal.TheVariants as refusals
use Rattle.tables.specs.Refusals.{by_room, origin_of}
use Rattle.tables.specs.Tables.{Tables, table_at}
use Rattle.tables.specs.Verdict.{after}
use Rattle.store_changes.specs.laws.Synced.{shown_is_synced}
use Rattle.store.specs.declared.store.Store.{Store}
use Rattle.store_runs.specs.Calls.{PlainCall, read_call, export_call, PlainReply, refused, is_device_reply, may_be_done}
use Rattle.store_runs.specs.Machine.{pinned_by, SparesKept, Setting, Machine, running, halted, halt, meanwhile, has_written, tables_now, Allows, AllowsEach}
use Rattle.store_runs.specs.Steps.{Step, Stays, RefusesReading}
use Rattle.store_runs.specs.Runs.{TellsFound}
use Rattle.store_runs.specs.Rooms.{TellsRoom}
use Rattle.store_runs.specs.Held.{tables_held, table_held}
use Rattle.pages.specs.Stored.{stored_reading}
use Rattle.store.specs.Fits.{book_of, setting_of, StoreFits, DeviceFits, ExportsFit, IsSound, listed_in}
use Rattle.store.specs.Applying.{GoesOn}
use Rattle.store_runs.specs.Reading.{IsUnread, IsDamaged, Unreads, RefusesRead, ReadsTable}
use Rattle.store.specs.Reading.{OnlyReadsStore}
use Rattle.store_changes.specs.laws.Named.{entry_has, entry_lacks}
use Rattle.store.proofs.Asked.{not_less, is_running, not_running, refused_elsewhere, refused_keeps, stays_keeps}
use Rattle.store_changes.specs.LawsBelow.{TableLaws}
use Rattle.store_changes.specs.laws.ReadTables.{unread_not_held, damaged_not_held}

-- ---- moments

pub none_written : (old new : Story) → OnlyReads old new → has_written (now old) (now new) ≡ false
none_written old new reads = ap (has_written (now old)) (now_read old new reads) ∙ not_less (now old).writes

-- at each moment the machine allows what it allowed
pub moments_read : (s : Setting) (m : Machine) (call : PlainCall) (reply : PlainReply) (old new : Story) → LeavesOnly (Allows s m) (now old) → OnlyReads old new → Grows (AllowsEach s call reply m (now old)) old new
moments_read s m call reply old new allows reads = weaken each reads
  where
    written : (d : Disk) → d ≡ now old → (may_be_done reply && has_written (now old) d) ≡ false
    written d is = ap (λ (b : Bool). may_be_done reply && b) (ap (has_written (now old)) is ∙ not_less (now old).writes) ∙ and_right (may_be_done reply) false refl

    each : (d : Disk) → d ≡ now old → AllowsEach s call reply m (now old) d
    each d is image may =
        subst (λ (b : Bool). Allows s (meanwhile call m b) image) (sym (written d is)) (allows image (subst (λ (x : Disk). MayLeave x image) is may))

-- and no sector is written
pub spared_reading : (m : Machine) (old new : Story) → OnlyReads old new → Grows (SparesKept m (now old)) old new
spared_reading m old new reads = weaken (λ (d : Disk) is n within. ap (λ (x : Disk). x.at n) is) reads

-- why no table is read, in the words of the machine
abbrev pub RefusesAs : Setting → Machine → PlainCall → List ℕ → Refusal → Machine → Type 0
RefusesAs s m call name refusals.NoTable next = (m.phase ≡ running) × (table_at (tables_now s m) name ≡ None) × Stays m false next
RefusesAs s m call name r next = RefusesReading m call r false next

-- ---- what it leaves

module _ {D : Type 0} {g : Ghosts D} (size : D → ℕ) (story : D → Story) (failed : D → ℕ) (base : Tables) (m : Machine) (tells : Bool) (told : tells ≡ true) (old new : Store D g) (fits : StoreFits size story base m old) where
  abbrev pub own : Setting
  own = setting_of (size old.device) base

  -- what the store stands for after it
  sound_after : (ends : PlainReply) → OnlyReadsStore size story failed tells ends old new → IsSound size story base m old → IsSound size story base m new
  sound_after ends reads sound =
      let later : now (story new.device) ≡ now (story old.device) = now_read (story old.device) (story new.device) (reads.device.moments told) in
      let at : Stands stored_reading (size new.device) (now (story new.device)) old.opened.commit (listed_in old) =
      subst (λ (n : ℕ). Stands stored_reading n (now (story new.device)) old.opened.commit (listed_in old)) (sym reads.device.same) (subst (λ (d : Disk). Stands stored_reading (size old.device) d old.opened.commit (listed_in old)) (sym later) sound.stands) in
      record {
        stands = subst (λ (o : Opened StoredCatalogue). Stands stored_reading (size new.device) (now (story new.device)) o.commit (catalogue_of o.catalogue.list)) (sym reads.kept) at;
        tables = (λ i. tables_held (synced_image (later i)) (catalogue_of (reads.kept i).catalogue.list)) ∙ sound.tables;
        uses = new.uses;
        none = sound.none;
        exports = subst (λ (b : PlainBook). ExportsFit (synced_image (now (story new.device))) b.exports m.exports) (sym reads.book)
            (subst (λ (d : Disk). ExportsFit (synced_image d) (book_of old).exports m.exports) (sym later) sound.exports);
        next = ap (λ (b : PlainBook). b.next) reads.book ∙ sound.next;
      }

  device_after : (next : Machine) (ends : PlainReply) → OnlyReadsStore size story failed tells ends old new → (next.started ≡ m.started) × (next.settled ≡ m.settled) × (next.doubt ≡ m.doubt) → LeavesOnly (Allows own next) (now (story new.device))
      → DeviceFits size story base next new.device
  device_after next ends reads same allows = record {
    in_limits = subst (λ (n : ℕ). is_size n ≡ true) (sym reads.device.same) fits.device.in_limits;
    allows = subst (λ (n : ℕ). LeavesOnly (Allows (setting_of n base) next) (now (story new.device))) (sym reads.device.same) allows;
    fresh = λ early. let never = sym fits.started ∙ sym same.0 ∙ early in absurd (cc never);
  }

  -- where the device does not fail it stands for the same machine
  pub fits_reading : (ends : PlainReply) → is_device_reply ends ≡ false → OnlyReadsStore size story failed tells ends old new → StoreFits size story base m new
  fits_reading ends quiet reads =
      let later : now (story new.device) ≡ now (story old.device) = now_read (story old.device) (story new.device) (reads.device.moments told) in
      let allows : LeavesOnly (Allows own m) (now (story new.device)) = subst (λ (d : Disk). LeavesOnly (Allows own m) d) (sym later) fits.device.allows in
      let halts : new.halted ≡ old.halted = reads.halts ∙ ap (λ (b : Bool). old.halted || b) quiet ∙ or_false old.halted in
      record {
        phase = fits.phase ∙ ap (λ (b : Bool). if b then halted else running) (sym halts);
        started = fits.started;
        device = device_after m ends reads (refl, refl, refl) allows;
        sound = λ on. sound_after ends reads (fits.sound on);
      }

  -- where the device does not fail
  pub stays_reading : (call : PlainCall) (reply ends : PlainReply) → is_device_reply ends ≡ false → is_device_reply reply ≡ false → TellsFound own reply (now (story old.device))
      → TellsRoom own (pinned_by m) call reply (now (story old.device)) (now (story new.device)) → Step own m call reply false m → OnlyReadsStore size story failed tells ends old new → GoesOn size story failed base m call reply old new
  stays_reading call reply ends quiet answered found room step reads =
      let moments = reads.device.moments told in
      let later : now (story new.device) ≡ now (story old.device) = now_read (story old.device) (story new.device) moments in
      let allows : LeavesOnly (Allows own m) (now (story new.device)) = subst (λ (d : Disk). LeavesOnly (Allows own m) d) (sym later) fits.device.allows in
      record {
        next = m;
        same = reads.device.same;
        goes = record {
          step = subst (λ (b : Bool). Step own m call reply b m) (sym (none_written (story old.device) (story new.device) moments)) step;
          moments = moments_read own m call reply (story old.device) (story new.device) fits.device.allows moments;
          settles = allows;
          quiet = λ no device. later;
          counts = reads.device.count ∙ ap (λ (b : Bool). if b then min (failed old.device + 1) (2 ^ 64 - 1) else failed old.device) (quiet ∙ sym answered);
          tells = found;
          room = room;
          spares = λ needs. spared_reading m (story old.device) (story new.device) moments;
          keeps = stays_keeps own m call reply false (now (story old.device)) step;
        };
        fits = fits_reading ends quiet reads;
      }

  -- where it fails
  pub halts_reading : (call : PlainCall) → Step own m call (refused refusals.Device) false (halt call false m) → OnlyReadsStore size story failed tells (refused refusals.Device) old new
      → GoesOn size story failed base m call (refused refusals.Device) old new
  unfolding Allows
  halts_reading call step reads =
      let moments = reads.device.moments told in
      let later : now (story new.device) ≡ now (story old.device) = now_read (story old.device) (story new.device) moments in
      let stood : LeavesOnly (Allows own m) (now (story new.device)) = subst (λ (d : Disk). LeavesOnly (Allows own m) d) (sym later) fits.device.allows in
      let allows : LeavesOnly (Allows own (halt call false m)) (now (story new.device)) = λ image may. stood image may in
      let halts : new.halted ≡ true = reads.halts ∙ or_right old.halted true refl in
      record {
        next = halt call false m;
        same = reads.device.same;
        goes = record {
          step = subst (λ (b : Bool). Step own m call (refused refusals.Device) b (halt call false m)) (sym (none_written (story old.device) (story new.device) moments)) step;
          moments = moments_read own m call (refused refusals.Device) (story old.device) (story new.device) fits.device.allows moments;
          settles = allows;
          quiet = λ no device. later;
          counts = reads.device.count;
          tells = tt;
          room = refused_elsewhere own (pinned_by m) call refusals.Device (now (story old.device)) (now (story new.device)) (λ is. cc is);
          spares = λ needs. spared_reading m (story old.device) (story new.device) moments;
          keeps = refused_keeps own call refusals.Device (now (story old.device)) (halt call false m);
        };
        fits = record {
          phase = ap (λ (b : Bool). if b then halted else running) (sym halts);
          started = fits.started;
          device = device_after (halt call false m) (refused refusals.Device) reads (refl, refl, refl) allows;
          sound = λ on. absurd (cc on);
        };
      }

  -- ---- what it answers

  pub shown : m.phase ≡ running → shown_image (now (story old.device)) ≡ synced_image (now (story old.device))
  shown on = shown_is_synced (now (story old.device)) (fits.sound on).stands.quiet.shown

  -- a table that was read is the machine's
  pub found_table : (name : List ℕ) (t : PlainTable) → ReadsTable old.halted tells (shown_image (now (story old.device))) (entry_of (listed_in old) name) t
      → (m.phase ≡ running) × (table_at (tables_now own m) name ≡ Some t)
  found_table name t reads = by_state old.halted (entry_of (listed_in old) name) refl refl reads
    where
      by_state : (h : Bool) (o : Option PlainEntry) → old.halted ≡ h → entry_of (listed_in old) name ≡ o → ReadsTable h tells (shown_image (now (story old.device))) o t → (m.phase ≡ running) × (table_at (tables_now own m) name ≡ Some t)
      by_state true o h found r = absurd r
      by_state false None h found r = absurd r
      by_state false (Some e) h found r =
          let on = is_running m.phase old.halted fits.phase h in
          let has = entry_has (synced_image (now (story old.device))) (listed_in old) (after base m.settled) (fits.sound on).tables name e found in
          (on, has.2 ∙ sym has.1 ∙ ap (λ (image : Image). table_held image e) (sym (shown on)) ∙ r.held told)

  pub refused_reading : TableLaws → IsCatalogue (listed_in old) → (call : PlainCall) (name : List ℕ) → ((q : Refusal) (next : Machine) → RefusesAs own m call name q next → Step own m call (refused q) false next) → (r : Refusal)
      → RefusesRead old.halted tells (shown_image (now (story old.device))) (entry_of (listed_in old) name) r → OnlyReadsStore size story failed tells (refused r) old new → GoesOn size story failed base m call (refused r) old new
  refused_reading laws catalogue call name step r refuses reads = by_state old.halted (entry_of (listed_in old) name) refl refl refuses
    where
      elsewhere_told : (q : Refusal) → origin_of q ≢ by_room → TellsRoom own (pinned_by m) call (refused q) (now (story old.device)) (now (story new.device))
      elsewhere_told q other = refused_elsewhere own (pinned_by m) call q (now (story old.device)) (now (story new.device)) other

      on : old.halted ≡ false → m.phase ≡ running
      on h = is_running m.phase old.halted fits.phase h

      is_halted : old.halted ≡ true → r ≡ refusals.Halted → GoesOn size story failed base m call (refused r) old new
      is_halted h is =
          subst (λ (q : Refusal). OnlyReadsStore size story failed tells (refused q) old new → GoesOn size story failed base m call (refused q) old new) (sym is)
          (stays_reading call (refused refusals.Halted) (refused refusals.Halted) refl refl tt (elsewhere_told refusals.Halted (λ is. cc is)) (step refusals.Halted m (not_running m.phase old.halted fits.phase h, (refl, refl)))) reads

      is_missing : old.halted ≡ false → entry_of (listed_in old) name ≡ None → r ≡ refusals.NoTable → GoesOn size story failed base m call (refused r) old new
      is_missing h none is =
          let lacks = entry_lacks (synced_image (now (story old.device))) (listed_in old) (after base m.settled) (fits.sound (on h)).tables name none in
          subst (λ (q : Refusal). OnlyReadsStore size story failed tells (refused q) old new → GoesOn size story failed base m call (refused q) old new) (sym is)
          (stays_reading call (refused refusals.NoTable) (refused refusals.NoTable) refl refl tt (elsewhere_told refusals.NoTable (λ is. cc is)) (step refusals.NoTable m (on h, lacks, (refl, refl)))) reads

      -- no segment of a table that the machine has is unread
      no_segment : old.halted ≡ false → (e : PlainEntry) (place : ℕ) → entry_of (listed_in old) name ≡ Some e → IsUnread (shown_image (now (story old.device))) e place → ⊥
      no_segment h e place found unread =
          let has = entry_has (synced_image (now (story old.device))) (listed_in old) (after base m.settled) (fits.sound (on h)).tables name e found in
          let within = (entry_is e (found_passes is_entry (listed_in old) name e catalogue.entries found)).schema in
          unread_not_held laws (shown_image (now (story old.device))) e place has.0 within unread (ap (λ (image : Image). table_held image e) (shown (on h)) ∙ has.1)

      -- nor damaged
      no_damage : old.halted ≡ false → (e : PlainEntry) (place : ℕ) → entry_of (listed_in old) name ≡ Some e → IsDamaged (shown_image (now (story old.device))) e place → ⊥
      no_damage h e place found damaged =
          let has = entry_has (synced_image (now (story old.device))) (listed_in old) (after base m.settled) (fits.sound (on h)).tables name e found in
          let within = (entry_is e (found_passes is_entry (listed_in old) name e catalogue.entries found)).schema in
          damaged_not_held laws (shown_image (now (story old.device))) e place has.0 within damaged (ap (λ (image : Image). table_held image e) (shown (on h)) ∙ has.1)

      by_refusal : old.halted ≡ false → (e : PlainEntry) → entry_of (listed_in old) name ≡ Some e → (q : Refusal) → Unreads tells (shown_image (now (story old.device))) e q → OnlyReadsStore size story failed tells (refused q) old new
          → GoesOn size story failed base m call (refused q) old new
      by_refusal h e found refusals.Device u reads = halts_reading call (step refusals.Device (halt call false m) (on h, refl, refl)) reads
      by_refusal h e found refusals.OutOfMemory u reads = stays_reading call (refused refusals.OutOfMemory) (refused refusals.OutOfMemory) refl refl tt (elsewhere_told refusals.OutOfMemory (λ is. cc is)) (step refusals.OutOfMemory m (on h, (refl, refl))) reads
      by_refusal h e found (refusals.SegmentUnread place) u reads = absurd (no_segment h e place found (u.1 told))
      by_refusal h e found (refusals.SegmentDamaged place) u reads = absurd (no_damage h e place found (u.1 told))
      by_refusal h e found _ u reads = absurd u

      by_state : (h : Bool) (o : Option PlainEntry) → old.halted ≡ h → entry_of (listed_in old) name ≡ o → RefusesRead h tells (shown_image (now (story old.device))) o r → GoesOn size story failed base m call (refused r) old new
      by_state true o h found u = is_halted h u
      by_state false None h found u = is_missing h found u
      by_state false (Some e) h found u = by_refusal h e found r u reads

-- ---- the call that reads

pub read_step : (s : Setting) (m : Machine) (name : List ℕ) (q : Refusal) (next : Machine) → RefusesAs s m (read_call name) name q next → Step s m (read_call name) (refused q) false next
unfolding Step
read_step s m name refusals.NoTable next h = h
read_step s m name _ next h = h

pub export_step : (s : Setting) (m : Machine) (name : List ℕ) (q : Refusal) (next : Machine) → RefusesAs s m (export_call name) name q next → Step s m (export_call name) (refused q) false next
unfolding Step
export_step s m name refusals.NoTable next h = h
export_step s m name _ next h = h
