-- An upgrade, in the words of the machine: the tables stay as they are.
use Rattle.std.specs.Prelude.{◌≡◌, ◌≢◌, ◌≤◌, ◌↔◌, ℕ, Bool, true, false, List, length, Some, Ok, Err, refl}
use Rattle.std.proofs.Common.{sym, ap, ◌∙◌, subst, arith}
use Rattle.sector_dev.specs.Disk.{Disk, Story, Image, now, synced_image, shown_image}
use Rattle.sector_dev.specs.declared.device.SectorDevice.{Ghosts}
use Rattle.sector_dev.specs.laws.Time.{now_read}
use Rattle.catalogue.specs.declared.entry.Segment.{Segment}
use Rattle.catalogue.specs.declared.limits.TheConstants.{MAX_SEGMENTS}
use Rattle.catalogue.specs.Entries.{PlainEntry, PlainCatalogue, IsCatalogue, is_entry, runs_of, segment_count}
use Rattle.catalogue.specs.Edits.{entry_of}
use Rattle.catalogue.specs.View.{catalogue_of}
use Rattle.catalogue.specs.laws.Changed.{found_passes}
use Rattle.catalogue.specs.laws.Digests.{digested_count}
use Rattle.catalogue.specs.laws.Kept.{entry_is, catalogue_is}
use Rattle.segments.specs.declared.run.Run.{Run}
use Rattle.commit.specs.declared.sector.Commit.{Commit}
use Rattle.commit.specs.Standing.{rules, standing, InSome}
use Rattle.commit.specs.declared.recovery.Opened.{Opened}
use Rattle.commit.specs.declared.sector.FormatVersion.{FormatVersion}
use Rattle.commit.specs.declared.sector.FormatVersion.TheVariants.{One, Two}
use Rattle.pages.specs.declared.stored.StoredCatalogue.{StoredCatalogue}
use Rattle.pages.specs.Stored.{stored_reading}
use Rattle.tables.specs.declared.refusal.Refusal.{Refusal}
use Rattle.tables.specs.declared.refusal.Refusal.TheVariants as refusals
use Rattle.tables.specs.Tables.{Tables}
use Rattle.tables.specs.Verdict.{after}
use Rattle.store.specs.declared.store.Store.{Store}
use Rattle.store_runs.specs.Calls.{PlainReply, upgrade_call, done, already, refused, counted}
use Rattle.store_runs.specs.Machine.{Setting, Machine, running}
use Rattle.store_runs.specs.Steps.{Step}
use Rattle.store_runs.specs.Held.{tables_held, listed_entry, each_listed}
use Rattle.store_runs.specs.Rooms.{UpgradeDecides}
use Rattle.store.specs.Fits.{book_of, setting_of, listed_in, StoreFits}
use Rattle.store_runs.specs.Changes.{PlainChange, CanChange, IsChange, edited, placed_segments, HoldsStreams}
use Rattle.store_runs.specs.Carrying.{outline, IsCarried}
use Rattle.store.specs.Exported.{AreExportable}
use Rattle.store_runs.specs.Reading.{Unreads}
use Rattle.store.specs.Reading.{OnlyReadsStore}
use Rattle.store.specs.Applying.{GoesOn, EndsAs, IsKept, IsCarryingAtEachMoment, IsCarriedOnDisk}
use Rattle.store_runs.specs.Digesting.{IsUpgrade, StopsReading}
use Rattle.store_changes.specs.LawsBelow.{TableLaws}
use Rattle.store_changes.specs.ReadSegment.{FailsReading}
use Rattle.store_changes.specs.laws.Named.{entry_has}
use Rattle.store_changes.specs.laws.Digested.{segments_of, AreDigests, all_are_digests}
use Rattle.store.specs.laws.Upgraded.{digests_number, segments_number, digests_are, digests_each, digested_listed}
use Rattle.store.proofs.Asked.{not_running, still}
use Rattle.store.proofs.Applied.{refused_by}
use Rattle.store_changes.specs.laws.ReadTables.{unread_not_held, damaged_not_held}
use Rattle.store_changes.specs.laws.Synced.{shown_is_synced}
use Rattle.store_changes.specs.laws.Frame.{HoldsAlike}
use Rattle.store_changes.specs.laws.Mapped.{placed_mapped}
use Rattle.store.proofs.ReadsStore.{stays_reading, halts_reading}
use Rattle.store.proofs.Roomed.{unchanged, carried_out, room_refused}
use Rattle.store.proofs.Staying.{upgrade_stays, changed_goes, refusal_goes, goes_behind}
use Rattle.store_changes.specs.laws.StepParts.{at_name}
use Rattle.store.proofs.Stepped.{halts_by}

-- ---- the change

module _ (tells : Bool) (image : Image) (c : PlainCatalogue) (change : PlainChange) (u : IsUpgrade tells image c change) where
  own : AreDigests tells image (segments_of c) u.digests
  own = all_are_digests tells image c u.digests u.own

  -- as many digests as segments
  number : length u.digests ≡ segment_count c
  number = digests_number tells image _ u.digests own ∙ segments_number c

  pub can_upgrade : CanChange c change
  can_upgrade short =
      subst (IsChange c) (sym u.is)
      (record { edit = (number, digests_are tells image _ u.digests own, refl); each = refl; some = tt; short = tt; rows = refl })

  -- there are no more segments than before
  pub upgrade_few : (v : FormatVersion) → IsCatalogue c → segment_count (outline v c change) ≤ MAX_SEGMENTS
  upgrade_few v k =
      subst (λ (x : PlainChange). segment_count (outline v c x) ≤ MAX_SEGMENTS) (sym u.is) (let most = k.segments in let count = digested_count c u.digests in omega (arith, most, count))

  -- each image that has in the segments what reads showed has the same of each table
  pub upgrade_keeps : tells ≡ true → IsCatalogue c → (other : Image) → ((n : ℕ) → InSome (runs_of c) n → other n ≡ image n) → (others : List Segment) → HoldsStreams other others change.streams change.counts
      → HoldsAlike other c (edited c change.edit others)
  upgrade_keeps told k other same others holds =
      subst (λ (x : PlainChange). HoldsAlike other c (edited c x.edit others)) (sym u.is) (digests_each tells told image other c u.digests k same own)

  -- on any device each table is listed as before
  pub upgrade_listed : (size : ℕ) (used : Run → Type 0) (k k' : Commit) (c' : PlainCatalogue) → IsCarried size used k c change (Ok tt) k' c' → each_listed c' ≡ each_listed c
  upgrade_listed size used k k' c' (next, few, (places, text, takes, is, commit)) =
      ap each_listed is ∙ placed_mapped listed_entry (λ e o. refl) k.version c change places
      ∙ ap (λ (x : PlainChange). each_listed (edited c x.edit (placed_segments k.version places change.streams change.counts))) u.is ∙ digested_listed c u.digests

-- it is so of the store that was read
pub upgrade_behind : {D : Type 0} {g : Ghosts D} (size : D → ℕ) (story : D → Story) (failed : D → ℕ) (tells : Bool) → tells ≡ true → (old mid : Store D g) (ends : PlainReply) → OnlyReadsStore size story failed tells ends old mid → (change : PlainChange)
    → IsUpgrade tells (shown_image (now (story old.device))) (listed_in old) change → IsUpgrade tells (shown_image (now (story mid.device))) (listed_in mid) change
upgrade_behind size story failed tells told old mid ends reads change is =
    let later : now (story mid.device) ≡ now (story old.device) = now_read (story old.device) (story mid.device) (reads.device.moments told) in
    subst (λ (o : Opened StoredCatalogue). IsUpgrade tells (shown_image (now (story mid.device))) (catalogue_of o.catalogue.list) change) (sym reads.kept)
    (subst (λ (d : Disk). IsUpgrade tells (shown_image d) (listed_in old) change) (sym later) is)

-- ---- it was carried out, or refused after the reads

made_step : (s : Setting) (m : Machine) → m.phase ≡ running → m.started ≡ true → Step s m upgrade_call done true m
unfolding Step
made_step s m on started = (on, started, refl, refl)

module _ {D : Type 0} {g : Ghosts D} (size : D → ℕ) (story : D → Story) (failed : D → ℕ) (base : Tables) (m : Machine) (tells : Bool) (told : tells ≡ true) (old mid new : Store D g)
    (fits : StoreFits size story base m old) (on : m.phase ≡ running) (there : StoreFits size story base m mid) (reads : OnlyReadsStore size story failed tells done old mid) (change : PlainChange)
    (first : old.opened.commit.version ≡ One) (upgrade : IsUpgrade tells (shown_image (now (story old.device))) (listed_in old) change)
    (sized : size new.device ≡ size mid.device) (book : book_of new ≡ book_of mid) (exportable : AreExportable (size mid.device) (book_of mid).exports) (carries : IsCarryingAtEachMoment size story mid change new) where
  behind : IsUpgrade tells (shown_image (now (story mid.device))) (listed_in mid) change
  behind = upgrade_behind size story failed tells told old mid done reads change upgrade

  decides : UpgradeDecides (now (story mid.device)) mid.opened.commit (listed_in mid) change
  decides = (
    ap (λ (o : Opened StoredCatalogue). o.commit.version) reads.kept ∙ first,
    subst (λ (t : Bool). IsUpgrade t (shown_image (now (story mid.device))) (listed_in mid) change) told behind,
  )

  catalogue : IsCatalogue (listed_in mid)
  catalogue = catalogue_is (listed_in mid) mid.opened.catalogue.list.kept

  keeps : (image : Image) → ((n : ℕ) → InSome (runs_of (listed_in mid)) n → image n ≡ synced_image (now (story mid.device)) n) → (others : List Segment)
      → HoldsStreams image others change.streams change.counts → tables_held image (edited (listed_in mid) change.edit others) ≡ tables_held image (listed_in mid)
  keeps image same others holds =
      let shown : shown_image (now (story mid.device)) ≡ synced_image (now (story mid.device)) = shown_is_synced (now (story mid.device)) (there.sound on).stands.quiet.shown in
      (upgrade_keeps tells (shown_image (now (story mid.device))) (listed_in mid) change behind told catalogue image (λ n within. same n within ∙ ap (λ (i : Image). i n) (sym shown)) others holds).1

  pub upgraded_goes : failed new.device ≡ failed mid.device → EndsAs size mid (Ok change) (Ok tt) new → new.halted ≡ false → IsCarriedOnDisk size story mid change new → GoesOn size story failed base m upgrade_call done old new
  upgraded_goes count carried quiet does =
      let s1 = now (story new.device) in
      let stands : standing stored_reading (size mid.device) (shown_image s1) ≡ rules new.opened.commit (listed_in new) =
      ap (standing stored_reading (size mid.device)) (shown_is_synced s1 does.stands.quiet.shown) ∙ ap (λ (n : ℕ). standing stored_reading n (synced_image s1)) (sym sized) ∙ does.stands.found in
      goes_behind size story failed base m tells told old mid new upgrade_call upgrade_stays done done refl fits reads tt
      (changed_goes size story failed base m mid new there on sized book exportable change upgrade_call upgrade_stays keeps done (made_step (setting_of (size mid.device) base) m on there.started) refl refl tt count quiet
      (carried_out size story base m mid (there.sound on) (UpgradeDecides (now (story mid.device))) change decides (Ok tt) new.opened.commit (listed_in new) s1 stands carried) carries does)

  pub unmade_goes : (r : Refusal) → failed new.device ≡ counted (refused r) (failed mid.device) → EndsAs size mid (Ok change) (Err r) new → (new.halted ≡ true) ↔ (refused_by r ≡ Err refusals.Device) → IsKept mid new
      → (r ≢ refusals.Device → story new.device ≡ story mid.device) → GoesOn size story failed base m upgrade_call (refused r) old new
  unmade_goes r count carried halts kept quiet =
      goes_behind size story failed base m tells told old mid new upgrade_call upgrade_stays done (refused r) refl fits reads tt
      (refusal_goes size story failed base m mid new there on sized book exportable change upgrade_call upgrade_stays keeps
      (upgrade_few tells (shown_image (now (story mid.device))) (listed_in mid) change behind mid.opened.commit.version catalogue) r count carried
      (room_refused size story base m mid (there.sound on) (UpgradeDecides (now (story mid.device))) change decides r new carried kept quiet) (halts_by new.halted r halts) kept quiet carries)

-- ---- nothing was decided

-- a table that is held is read, unless the device fails or memory is refused
stop_fails : TableLaws → (image : Image) (c : PlainCatalogue) → IsCatalogue c → (t : Tables) → tables_held image c ≡ Some t → (tells : Bool) → tells ≡ true → (r : Refusal) → StopsReading tells image c r → FailsReading r
stop_fails laws image c k t held tells told r stop = by_refusal r stop.stops
  where
    e : PlainEntry
    e = stop.entry

    found : entry_of c e.name ≡ Some e
    found = at_name c stop.number e k.order stop.at

    by_refusal : (q : Refusal) → Unreads tells image stop.entry q → FailsReading q
    by_refusal refusals.Device u = tt
    by_refusal refusals.OutOfMemory u = tt
    by_refusal (refusals.SegmentUnread place) u =
        let has = entry_has image c t held e.name e found in
        absurd (unread_not_held laws image e place has.0 (entry_is e (found_passes is_entry c e.name e k.entries found)).schema (u.1 told) has.1)
    by_refusal (refusals.SegmentDamaged place) u =
        let has = entry_has image c t held e.name e found in
        absurd (damaged_not_held laws image e place has.0 (entry_is e (found_passes is_entry c e.name e k.entries found)).schema (u.1 told) has.1)
    by_refusal _ u = absurd u

module _ {D : Type 0} {g : Ghosts D} (size : D → ℕ) (story : D → Story) (failed : D → ℕ) (base : Tables) (m : Machine) (tells : Bool) (told : tells ≡ true) (old new : Store D g) (fits : StoreFits size story base m old) where
  -- a store that is halted
  pub off_upgrade_goes : old.halted ≡ true → GoesOn size story failed base m upgrade_call (refused refusals.Halted) old old
  unfolding Step
  off_upgrade_goes off = still size story failed base m upgrade_call (refused refusals.Halted) old (not_running m.phase old.halted fits.phase off, (refl, refl)) refl fits tt tt

  -- one of version 2
  pub already_goes : m.phase ≡ running → old.opened.commit.version ≡ Two → GoesOn size story failed base m upgrade_call already old old
  unfolding Step
  already_goes on two = still size story failed base m upgrade_call already old (on, (refl, refl)) refl fits tt (unchanged size story base m old (fits.sound on) (λ k c. k.version ≡ Two) two)

  -- a table that is read, where all are held
  pub stopped_goes : TableLaws → m.phase ≡ running → (r : Refusal) → StopsReading tells (shown_image (now (story old.device))) (listed_in old) r → OnlyReadsStore size story failed tells (refused r) old new
      → GoesOn size story failed base m upgrade_call (refused r) old new
  unfolding Step
  stopped_goes laws on r stop reads = by_refusal r (stop_fails laws (shown_image (now (story old.device))) (listed_in old) (catalogue_is (listed_in old) old.opened.catalogue.list.kept) (after base m.settled) held tells told r stop) reads
    where
      held : tables_held (shown_image (now (story old.device))) (listed_in old) ≡ Some (after base m.settled)
      held = ap (λ (i : Image). tables_held i (listed_in old)) (shown_is_synced (now (story old.device)) (fits.sound on).stands.quiet.shown) ∙ (fits.sound on).tables

      by_refusal : (q : Refusal) → FailsReading q → OnlyReadsStore size story failed tells (refused q) old new → GoesOn size story failed base m upgrade_call (refused q) old new
      by_refusal refusals.Device fails only = halts_reading size story failed base m tells told old new fits upgrade_call (on, refl) only
      by_refusal refusals.OutOfMemory fails only = stays_reading size story failed base m tells told old new fits upgrade_call (refused refusals.OutOfMemory) (refused refusals.OutOfMemory) refl refl tt tt (on, (refl, refl)) only
      by_refusal _ fails only = absurd fails
