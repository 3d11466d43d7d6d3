-- A command is decided, and then it is carried out or refused.
use Rattle.std.specs.Prelude.{◌≢◌, ◌<◌, ◌≤◌, ◌⊎◌, ◌&&◌, ◌||◌, ◌↔◌, List, [], ◌∷◌, nat_le, min, IfErr}
use Rattle.std.proofs.lemmas.Bool.{and_parts, leb-true}
use Rattle.std.proofs.Common.{◌≡◌, ℕ, ◌+◌, ◌-◌, ◌^◌, Bool, true, false, Result, Ok, Err, inl, inr, refl, sym, ap, ◌∙◌, subst, if◌then◌else◌}
use Rattle.sector_dev.specs.Disk.{Disk, Story, Image, now, MayLeave, shown_image, synced_image}
use Rattle.sector_dev.specs.Time.{Grows, LeavesOnly}
use Rattle.sector_dev.specs.laws.Crash.{only_image}
use Rattle.sector_dev.specs.laws.Time.{goes_on, weaken, now_read}
use Rattle.sector_dev.specs.declared.device.SectorDevice.{Ghosts}
use Rattle.segments.specs.declared.run.Run.{Run}
use Rattle.segments.specs.Usages.{IsUsedIn, SameUsages}
use Rattle.segments.specs.laws.Usages.{or_false}
use Rattle.catalogue.specs.View.{catalogue_of}
use Rattle.commit.specs.Standing.{is_on_device, all_on_device, standing, Stands}
use Rattle.commit.specs.declared.recovery.Opened.{Opened}
use Rattle.tables.specs.declared.refusal.Refusal.{Refusal}
use Rattle.tables.specs.declared.refusal.Refusal.TheVariants as refusals
use Rattle.tables.specs.declared.refusal.Limit.TheVariants as limits
use Rattle.tables.specs.Refusals.{Origin, by_tables, by_room, by_memory, by_device, by_halt, elsewhere, origin_of}
use Rattle.tables.specs.Tables.{Tables}
use Rattle.tables.specs.Commands.{PlainCommand}
use Rattle.tables.specs.Verdict.{verdict}
use Rattle.tables.specs.laws.Steps.{told_by_tables}
use Rattle.store.specs.declared.store.Store.{Store}
use Rattle.pages.specs.declared.stored.StoredCatalogue.{StoredCatalogue}
use Rattle.store_runs.specs.Calls.{apply_call, PlainReply, refused, refused_at, is_failure, is_device_reply, counted}
use Rattle.store_runs.specs.Changes.{PlainChange}
use Rattle.store_runs.specs.Deciding.{AreBefore, IsDecided}
use Rattle.pages.specs.Stored.{stored_reading}
use Rattle.store_runs.specs.Machine.{pinned_by, Setting, Machine, running, halted, tables_now, has_written, AllowsEach, SparesKept}
use Rattle.store.specs.Reading.{OnlyReadsStore}
use Rattle.store_runs.specs.Reading.{ended}
use Rattle.store_runs.specs.Runs.{Goes, TellsFound}
use Rattle.store_runs.specs.Rooms.{TellsRoom}
use Rattle.store_runs.specs.Steps.{IsNoList, Step, RefusesFrom, RefusesLine}
use Rattle.store.specs.Fits.{setting_of, StoreFits, commit_of, listed_in, IsOnDisk}
use Rattle.store.specs.Applying.{EndsAs, IsKept, IsCarryingAtEachMoment, IsCarriedOnDisk, IsApplyingAtEachMoment, IsDoneOnDisk, GoesOn}
use Rattle.store_changes.specs.OnDisk.{HasDone, IsOldOrDone, IsApplying, HasCarried, IsOldOrCarried, IsTaking, IsCarrying}
use Rattle.store_runs.specs.Carrying.{IsCarried}
use Rattle.store_changes.specs.Verdicts.{IsVerdict, IsUndecided}
use Rattle.tables.specs.declared.command.Command.{Command}
use Rattle.tables.specs.declared.command.Command.TheVariants.{Create, ImportStream, AppendStream, AppendRows, AppendTable, SaveAs, Rename, Drop}
use Rattle.tables.specs.View.{command_of}
use Rattle.store_changes.specs.laws.ReadTables.{reads_quiet}
use Rattle.store.proofs.Asked.{still, not_running, refused_elsewhere}
use Rattle.store.proofs.ReadsStore.{moments_read, stays_reading, halts_reading, spared_reading}

-- the device alone is the origin of a failure
abbrev is_by_device : Origin → Bool
is_by_device by_device = true
is_by_device _ = false

failure_origin : (r : Refusal) → is_failure r ≡ is_by_device (origin_of r)
failure_origin refusals.Device = refl
failure_origin (refusals.TooMany limits.Tables) = refl
failure_origin _ = refl

-- no other refusal is a failure
pub is_device : (r : Refusal) → is_failure r ≡ true → r ≡ refusals.Device
is_device refusals.Device h = refl
is_device _ h = absurd (cc h)

-- a call that does not touch the device
pub reads_nothing : {D : Type 0} {g : Ghosts D} (size : D → ℕ) (story : D → Story) (failed : D → ℕ) (tells : Bool) (reply : PlainReply) (store : Store D g) → is_device_reply reply ≡ false → OnlyReadsStore size story failed tells reply store store
reads_nothing size story failed tells reply store quiet = record {
  device = reads_quiet size story failed tells reply store.device quiet;
  kept = refl;
  book = refl;
  halts = sym (ap (λ (b : Bool). store.halted || b) quiet ∙ or_false store.halted);
}

-- a command of the code is no list
pub single_command : (command : Command) → IsNoList (command_of command)
single_command (Create new) = tt
single_command (ImportStream name bytes) = tt
single_command (AppendStream name bytes) = tt
single_command (AppendRows name rows) = tt
single_command (AppendTable name new) = tt
single_command (SaveAs from to query) = tt
single_command (Rename from to) = tt
single_command (Drop name) = tt

-- runs on a device lie before its end
pub on_before : (size : ℕ) (runs : List Run) → all_on_device size runs ≡ true → AreBefore size runs
on_before size [] is = tt
on_before size (r ∷ rs) is =
    let parts = and_parts (is_on_device size r) (all_on_device size rs) is in
    let own = and_parts (nat_le 2 r.start) (nat_le 1 r.count && nat_le (r.start + r.count) size) parts.0 in
    (leb-true (r.start + r.count) size (and_parts (nat_le 1 r.count) (nat_le (r.start + r.count) size) own.1).1, on_before size rs parts.1)

-- why a command is refused before anything is written, by where its refusal comes from
abbrev RefusesFirst : Origin → Tables → PlainCommand → Refusal → Type 0
RefusesFirst by_tables t c r = verdict t c ≡ Err r
RefusesFirst by_memory t c r = Unit {0}
RefusesFirst by_device t c r = Unit {0}
RefusesFirst _ t c r = ⊥

refuses_as : (t : Tables) (c : PlainCommand) (r : Refusal) → IsUndecided c (Err r) ⊎ IsVerdict t c (Err r) → RefusesFirst (origin_of r) t c r
refuses_as t c r (inl (inl memory)) = let same : r ≡ refusals.OutOfMemory = cc memory in subst (λ (q : Refusal). RefusesFirst (origin_of q) t c q) (sym same) tt
refuses_as t c r (inl (inr fails)) = let same : r ≡ refusals.Device = cc fails.0 in subst (λ (q : Refusal). RefusesFirst (origin_of q) t c q) (sym same) tt
refuses_as t c r (inr is) = subst (λ (o : Origin). RefusesFirst o t c r) (sym (told_by_tables t c r is)) is

-- a change that was decided is the verdict
pub change_verdict : (t : Tables) (c : PlainCommand) (change : PlainChange) → IsUndecided c (Ok change) ⊎ IsVerdict t c (Ok change) → IsVerdict t c (Ok change)
change_verdict t c change (inl (inl memory)) = absurd (cc memory)
change_verdict t c change (inl (inr fails)) = absurd (cc fails.0)
change_verdict t c change (inr is) = is

module _ {D : Type 0} {g : Ghosts D} (size : D → ℕ) (story : D → Story) (failed : D → ℕ) (base : Tables) (m : Machine) (c : PlainCommand) where
  -- a command of a store that is halted
  pub refuses_halted : (store : Store D g) → store.halted ≡ true → StoreFits size story base m store → GoesOn size story failed base m (apply_call c) (refused refusals.Halted) store store
  unfolding Step
  refuses_halted store on fits = still size story failed base m (apply_call c) (refused refusals.Halted) store (not_running m.phase store.halted fits.phase on, (refl, refl)) refl fits tt tt

  -- one that is refused before anything is written; the device may have been read
  pub refuses_first : (tells : Bool) → tells ≡ true → IsNoList c → (r : Refusal) (old new : Store D g) → old.halted ≡ false → StoreFits size story base m old → OnlyReadsStore size story failed tells (refused r) old new
      → IsUndecided c (Err r) ⊎ IsVerdict (tables_now (setting_of (size old.device) base) m) c (Err r) → GoesOn size story failed base m (apply_call c) (refused r) old new
  unfolding Step
  refuses_first tells told single r old new on fits reads answered = by_origin (origin_of r) refl
    where
      s : Setting
      s = setting_of (size old.device) base

      running_is : m.phase ≡ running
      running_is = fits.phase ∙ ap (λ (b : Bool). if b then halted else running) on

      moved : (o : Origin) → origin_of r ≡ o → RefusesFirst o (tables_now s m) c r
      moved o is = subst (λ (x : Origin). RefusesFirst x (tables_now s m) c r) is (refuses_as (tables_now s m) c r answered)

      stays_by : (o : Origin) → origin_of r ≡ o → is_by_device o ≡ false → o ≢ by_room → RefusesFrom o s m c r false m → GoesOn size story failed base m (apply_call c) (refused r) old new
      stays_by o is none other step =
          let quiet : is_failure r ≡ false = failure_origin r ∙ ap is_by_device is ∙ none in
          stays_reading size story failed base m tells told old new fits (apply_call c) (refused r) (refused r) quiet quiet tt
          (refused_elsewhere s (pinned_by m) (apply_call c) r (now (story old.device)) (now (story new.device)) (λ room. other (sym is ∙ room))) (subst (λ (x : Origin). RefusesFrom x s m c r false m) (sym is) step) reads

      by_origin : (o : Origin) → origin_of r ≡ o → GoesOn size story failed base m (apply_call c) (refused r) old new
      by_origin by_tables is = stays_by by_tables is refl (λ room. cc room) (running_is, single, moved by_tables is, (refl, refl))
      by_origin by_memory is = stays_by by_memory is refl (λ room. cc room) (running_is, (refl, refl))
      by_origin by_device is =
          let device : r ≡ refusals.Device = is_device r (failure_origin r ∙ ap is_by_device is) in
          subst (λ (q : Refusal). OnlyReadsStore size story failed tells (refused q) old new → GoesOn size story failed base m (apply_call c) (refused q) old new) (sym device)
          (halts_reading size story failed base m tells told old new fits (apply_call c) (running_is, refl)) reads
      by_origin by_room is = absurd (moved by_room is)
      by_origin by_halt is = absurd (moved by_halt is)
      by_origin elsewhere is = absurd (moved elsewhere is)

  -- a list that is refused for a line before anything is written
  pub refuses_line : (tells : Bool) → tells ≡ true → (place : ℕ) (r : Refusal) (old new : Store D g) → old.halted ≡ false → StoreFits size story base m old → OnlyReadsStore size story failed tells (refused_at place r) old new
      → RefusesLine (origin_of r) (tables_now (setting_of (size old.device) base) m) c place r → GoesOn size story failed base m (apply_call c) (refused_at place r) old new
  unfolding Step
  refuses_line tells told place r old new on fits reads line =
      stays_reading size story failed base m tells told old new fits (apply_call c) (refused_at place r) (refused_at place r) refl refl tt tt
      (fits.phase ∙ ap (λ (b : Bool). if b then halted else running) on, line, (refl, refl)) reads

  -- a command that is refused since memory was, or since the device failed
  pub refuses_memory : (tells : Bool) → tells ≡ true → (old new : Store D g) → old.halted ≡ false → StoreFits size story base m old → OnlyReadsStore size story failed tells (refused refusals.OutOfMemory) old new
      → GoesOn size story failed base m (apply_call c) (refused refusals.OutOfMemory) old new
  unfolding Step
  refuses_memory tells told old new on fits reads =
      stays_reading size story failed base m tells told old new fits (apply_call c) (refused refusals.OutOfMemory) (refused refusals.OutOfMemory) refl refl tt
      (refused_elsewhere (setting_of (size old.device) base) (pinned_by m) (apply_call c) refusals.OutOfMemory (now (story old.device)) (now (story new.device)) (λ room. cc room))
      (fits.phase ∙ ap (λ (b : Bool). if b then halted else running) on, (refl, refl)) reads

  pub refuses_device : (tells : Bool) → tells ≡ true → (old new : Store D g) → old.halted ≡ false → StoreFits size story base m old → OnlyReadsStore size story failed tells (refused refusals.Device) old new
      → GoesOn size story failed base m (apply_call c) (refused refusals.Device) old new
  unfolding Step
  refuses_device tells told old new on fits reads =
      halts_reading size story failed base m tells told old new fits (apply_call c) (fits.phase ∙ ap (λ (b : Bool). if b then halted else running) on, refl) reads

  -- a call that goes on from where reads left the store
  pub goes_after : (tells : Bool) → tells ≡ true → (old mid new : Store D g) (ends reply : PlainReply) → is_device_reply ends ≡ false → StoreFits size story base m old → OnlyReadsStore size story failed tells ends old mid
      → TellsFound (setting_of (size old.device) base) reply (now (story old.device)) → GoesOn size story failed base m (apply_call c) reply mid new → GoesOn size story failed base m (apply_call c) reply old new
  goes_after tells told old mid new ends reply quiet fits reads found goes =
      let moments = reads.device.moments told in
      let later : now (story mid.device) ≡ now (story old.device) = now_read (story old.device) (story mid.device) moments in
      let s : Setting = setting_of (size old.device) base in
      let own : Goes s m (apply_call c) reply (story mid.device) (story new.device) (failed mid.device) (failed new.device) goes.next =
      subst (λ (n : ℕ). Goes (setting_of n base) m (apply_call c) reply (story mid.device) (story new.device) (failed mid.device) (failed new.device) goes.next) reads.device.same goes.goes in
      record {
        next = goes.next;
        same = goes.same ∙ reads.device.same;
        goes = record {
          step = subst (λ (d : Disk). Step s m (apply_call c) reply (has_written d (now (story new.device))) goes.next) later own.step;
          moments = goes_on (moments_read s m (apply_call c) reply (story old.device) (story mid.device) fits.device.allows moments)
              (subst (λ (d : Disk). Grows (AllowsEach s (apply_call c) reply m d) (story mid.device) (story new.device)) later own.moments);
          settles = own.settles;
          quiet = λ no device. own.quiet no device ∙ later;
          counts = own.counts ∙ ap (counted reply) (reads.device.count ∙ ap (λ (b : Bool). if b then min (failed old.device + 1) (2 ^ 64 - 1) else failed old.device) quiet);
          tells = found;
          room = subst (λ (d : Disk). TellsRoom s (pinned_by m) (apply_call c) reply d (now (story new.device))) later own.room;
          spares = λ needs. goes_on (spared_reading m (story old.device) (story mid.device) moments)
              (subst (λ (d : Disk). Grows (SparesKept m d) (story mid.device) (story new.device)) later (own.spares needs));
          keeps = tt;
        };
        fits = goes.fits;
      }

-- ---- what a command leaves of a store that was read before

module _ {D : Type 0} {g : Ghosts D} (size : D → ℕ) (story : D → Story) (failed : D → ℕ) (tells : Bool) (old mid : Store D g) (ends : PlainReply) (reads : OnlyReadsStore size story failed tells ends old mid) where
  pub ends_after : (d : Result PlainChange Refusal) (result : Result (Unit {0}) Refusal) (new : Store D g) → EndsAs size mid d result new → EndsAs size old d result new
  ends_after (Ok change) result new carried =
      subst (λ (o : Opened StoredCatalogue). IsCarried (size old.device) (IsUsedIn o.map.entries) o.commit (catalogue_of o.catalogue.list) change result (commit_of new) (listed_in new)) reads.kept
      (subst (λ (n : ℕ). IsCarried n (IsUsedIn mid.opened.map.entries) mid.opened.commit (catalogue_of mid.opened.catalogue.list) change result (commit_of new) (listed_in new)) reads.device.same carried)
  ends_after (Err r) result new is = is

  pub kept_after : (new : Store D g) → IsKept mid new → IsKept old new
  kept_after new is = subst (λ (o : Opened StoredCatalogue). (new.opened.commit ≡ o.commit) × (listed_in new ≡ catalogue_of o.catalogue.list) × SameUsages o.map.entries new.opened.map.entries) reads.kept is

  module _ (told : tells ≡ true) where
    later : now (story mid.device) ≡ now (story old.device)
    later = now_read (story old.device) (story mid.device) (reads.device.moments told)

    pub on_disk_after : IsOnDisk size story old → IsOnDisk size story mid
    on_disk_after on =
        subst (λ (o : Opened StoredCatalogue). Stands stored_reading (size mid.device) (now (story mid.device)) o.commit (catalogue_of o.catalogue.list)) (sym reads.kept)
        (subst (λ (n : ℕ). Stands stored_reading n (now (story mid.device)) old.opened.commit (listed_in old)) (sym reads.device.same)
        (subst (λ (d : Disk). Stands stored_reading (size old.device) d old.opened.commit (listed_in old)) (sym later) on))

    -- while it was read the disk is as before, and a stop leaves what stood
    one_image : IsOnDisk size story old → (d : Disk) → d ≡ now (story old.device) → (image : Image) → MayLeave d image → image ≡ synced_image (now (story old.device))
    one_image on d is image may = only_image (now (story old.device)) image on.quiet.pending (subst (λ (x : Disk). MayLeave x image) is may)

    module _ (change : PlainChange) where
      idle : IsOnDisk size story old → Grows (IsCarrying (size old.device) (IsUsedIn old.opened.map.entries) old.opened.commit (listed_in old) (now (story old.device)) change) (story old.device) (story mid.device)
      idle on = weaken (λ d is. record { touches = inl is; begun = inl is; leaves = each d is }) (reads.device.moments told)
        where
          each : (d : Disk) → d ≡ now (story old.device) → LeavesOnly (IsOldOrCarried (size old.device) (IsUsedIn old.opened.map.entries) old.opened.commit (listed_in old) (now (story old.device)) change) d
          each d is image may =
              let one = one_image on d is image may in
              record {
                which = inl (ap (standing stored_reading (size old.device)) one ∙ on.found);
                kept = λ n within. ap (λ (i : Image). i n) one;
              }

      pub carries_after : (new : Store D g) → IsOnDisk size story old → IsCarryingAtEachMoment size story mid change new → IsCarryingAtEachMoment size story old change new
      carries_after new on carries =
          goes_on (idle on)
          (subst (λ (o : Opened StoredCatalogue). Grows (IsCarrying (size old.device) (IsUsedIn o.map.entries) o.commit (catalogue_of o.catalogue.list) (now (story old.device)) change) (story mid.device) (story new.device)) reads.kept
          (subst (λ (n : ℕ). Grows (IsCarrying n (IsUsedIn mid.opened.map.entries) mid.opened.commit (listed_in mid) (now (story old.device)) change) (story mid.device) (story new.device)) reads.device.same
          (subst (λ (d : Disk). Grows (IsCarrying (size mid.device) (IsUsedIn mid.opened.map.entries) mid.opened.commit (listed_in mid) d change) (story mid.device) (story new.device)) later carries)))

      pub carried_after : (new : Store D g) → IsCarriedOnDisk size story mid change new → IsCarriedOnDisk size story old change new
      carried_after new has = record {
        stands = has.stands;
        begun = subst (λ (d : Disk). d.writes < (now (story new.device)).writes) later has.begun;
        takes =
            subst (λ (o : Opened StoredCatalogue). IsTaking (size old.device) (IsUsedIn o.map.entries) o.commit (catalogue_of o.catalogue.list) (now (story old.device)) change (now (story new.device))) reads.kept
            (subst (λ (n : ℕ). IsTaking n (IsUsedIn mid.opened.map.entries) mid.opened.commit (listed_in mid) (now (story old.device)) change (now (story new.device))) reads.device.same
            (subst (λ (d : Disk). IsTaking (size mid.device) (IsUsedIn mid.opened.map.entries) mid.opened.commit (listed_in mid) d change (now (story new.device))) later has.takes));
        holds =
            subst (λ (o : Opened StoredCatalogue). HasCarried (size old.device) (IsUsedIn o.map.entries) o.commit (catalogue_of o.catalogue.list) change (synced_image (now (story new.device)))) reads.kept
            (subst (λ (n : ℕ). HasCarried n (IsUsedIn mid.opened.map.entries) mid.opened.commit (listed_in mid) change (synced_image (now (story new.device)))) reads.device.same has.holds);
      }

  module _ (told : tells ≡ true) (c : PlainCommand) where
    pub decided_after : (change : PlainChange) → IsDecided true (shown_image (now (story old.device))) (listed_in old) c (Ok change) → IsDecided true (shown_image (now (story mid.device))) (listed_in mid) c (Ok change)
    decided_after change is =
        subst (λ (o : Opened StoredCatalogue). IsDecided true (shown_image (now (story mid.device))) (catalogue_of o.catalogue.list) c (Ok change)) (sym reads.kept)
        (subst (λ (d : Disk). IsDecided true (shown_image d) (listed_in old) c (Ok change)) (sym (later told)) is)

    -- while it was read each image has what stood
    pub stood : IsOnDisk size story old → Grows (IsApplying (size old.device) (IsUsedIn old.opened.map.entries) old.opened.commit (listed_in old) (now (story old.device)) c) (story old.device) (story mid.device)
    stood on = weaken (λ d is. record { touches = inl is; leaves = each d is }) (reads.device.moments told)
      where
        each : (d : Disk) → d ≡ now (story old.device) → LeavesOnly (IsOldOrDone (size old.device) (IsUsedIn old.opened.map.entries) old.opened.commit (listed_in old) (now (story old.device)) c) d
        each d is image may =
            let one = one_image told on d is image may in
            record {
              which = inl (ap (standing stored_reading (size old.device)) one ∙ on.found);
              kept = λ n within. ap (λ (i : Image). i n) one;
            }

    pub writes_after : (new : Store D g) → IsOnDisk size story old → IsApplyingAtEachMoment size story mid c new → IsApplyingAtEachMoment size story old c new
    writes_after new on writes =
        goes_on (stood on)
        (subst (λ (o : Opened StoredCatalogue). Grows (IsApplying (size old.device) (IsUsedIn o.map.entries) o.commit (catalogue_of o.catalogue.list) (now (story old.device)) c) (story mid.device) (story new.device)) reads.kept
        (subst (λ (n : ℕ). Grows (IsApplying n (IsUsedIn mid.opened.map.entries) mid.opened.commit (listed_in mid) (now (story old.device)) c) (story mid.device) (story new.device)) reads.device.same
        (subst (λ (d : Disk). Grows (IsApplying (size mid.device) (IsUsedIn mid.opened.map.entries) mid.opened.commit (listed_in mid) d c) (story mid.device) (story new.device)) (later told) writes)))

    pub written_after : (new : Store D g) → IsDoneOnDisk size story mid c new → IsDoneOnDisk size story old c new
    written_after new has = record {
      stands = has.stands;
      holds =
          subst (λ (o : Opened StoredCatalogue). HasDone (size old.device) (IsUsedIn o.map.entries) o.commit (catalogue_of o.catalogue.list) (now (story old.device)) c (synced_image (now (story new.device)))) reads.kept
          (subst (λ (n : ℕ). HasDone n (IsUsedIn mid.opened.map.entries) mid.opened.commit (listed_in mid) (now (story old.device)) c (synced_image (now (story new.device)))) reads.device.same
          (subst (λ (d : Disk). HasDone (size mid.device) (IsUsedIn mid.opened.map.entries) mid.opened.commit (listed_in mid) d c (synced_image (now (story new.device)))) (later told) has.holds));
    }

-- ---- answers

-- a decision that is no failure of the device
pub ended_quiet : {T : Type 0} (r : Result T Refusal) → IfErr r (λ e. is_failure e ≡ false) → is_device_reply (ended r) ≡ false
ended_quiet (Ok x) h = refl
ended_quiet (Err e) h = h

-- what is found is reported of openings and formattings alone
pub tells_command : (s : Setting) (d : Disk) (r : Result (Unit {0}) Refusal) → TellsFound s (ended r) d
tells_command s d (Ok unit) = tt
tells_command s d (Err e) = tt

-- a refusal of a store that was only read
pub read_kept : {D : Type 0} {g : Ghosts D} (size : D → ℕ) (story : D → Story) (failed : D → ℕ) (tells : Bool) (old new : Store D g) (ends : PlainReply) → OnlyReadsStore size story failed tells ends old new → IsKept old new
read_kept size story failed tells old new ends reads =
    kept_after size story failed tells old new ends reads new (refl, refl, λ run. refl)

abbrev pub refused_by : Refusal → Result (Unit {0}) Refusal
refused_by r = Err r

-- the store is halted just where the device failed
pub read_halts : {D : Type 0} {g : Ghosts D} (size : D → ℕ) (story : D → Story) (failed : D → ℕ) (tells : Bool) (old new : Store D g) (r : Refusal) → old.halted ≡ false → OnlyReadsStore size story failed tells (refused r) old new
    → (new.halted ≡ true) ↔ (refused_by r ≡ Err refusals.Device)
read_halts size story failed tells old new r on reads =
    let is : new.halted ≡ is_failure r = reads.halts ∙ ap (λ (b : Bool). b || is_failure r) on in
    (λ (h : new.halted ≡ true). ap refused_by (is_device r (sym is ∙ h)), λ (h : refused_by r ≡ Err refusals.Device). is ∙ ap is_failure (let e : r ≡ refusals.Device = cc h in e))
