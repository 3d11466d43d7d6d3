-- A step of a compaction, in the words of the machine: whatever its change does, the tables stay as they are.
use Rattle.std.specs.Prelude.{◌≡◌, ◌≢◌, ◌+◌, ◌-◌, ◌^◌, ℕ, min, Bool, true, false, ◌↔◌, List, Option, Some, None, Ok, Err, refl, if◌then◌else◌}
use Rattle.std.proofs.Common.{sym, ap, ◌∙◌, subst}
use Rattle.std.proofs.lemmas.Bool.{true≢false, false_from_ne_true}
use Rattle.sector_dev.specs.Disk.{Disk, Story, Image, now, synced_image, shown_image}
use Rattle.sector_dev.specs.declared.device.SectorDevice.{Ghosts}
use Rattle.sector_dev.specs.laws.Time.{now_read}
use Rattle.segments.specs.declared.run.Run.{Run}
use Rattle.segments.specs.Usages.{IsUsedIn}
use Rattle.catalogue.specs.declared.entry.Segment.{Segment}
use Rattle.catalogue.specs.Entries.{PlainCatalogue, runs_of}
use Rattle.catalogue.specs.laws.Kept.{catalogue_is}
use Rattle.commit.specs.Standing.{rules, standing, InSome}
use Rattle.commit.specs.declared.recovery.Opened.{Opened}
use Rattle.catalogue.specs.View.{catalogue_of}
use Rattle.pages.specs.declared.stored.StoredCatalogue.{StoredCatalogue}
use Rattle.pages.specs.Stored.{stored_reading}
use Rattle.tables.specs.declared.refusal.Refusal.{Refusal}
use Rattle.tables.specs.declared.refusal.Refusal.TheVariants as refusals
use Rattle.tables.specs.Tables.{Tables}
use Rattle.tables.specs.Verdict.{after}
use Rattle.store.specs.declared.store.Store.{Store}
use Rattle.store_runs.specs.declared.compacting.Compaction.{Compaction}
use Rattle.store_runs.specs.declared.compacting.Compaction.TheVariants as compactions
use Rattle.store_runs.specs.Calls.{PlainReply, compact_call, done, nothing, refused, is_failure, counted, is_change, is_device_reply}
use Rattle.store_runs.specs.Machine.{Setting, Machine, running, pinned_by}
use Rattle.store_runs.specs.Steps.{Step}
use Rattle.store_runs.specs.Runs.{TellsFound}
use Rattle.store_runs.specs.Rooms.{StepFinds, StepDecides, StepEnds, TellsStep}
use Rattle.store_runs.specs.Held.{tables_held}
use Rattle.store.specs.Fits.{book_of, setting_of, listed_in, StoreFits}
use Rattle.store_runs.specs.Changes.{PlainChange, edited, HoldsStreams}
use Rattle.store.specs.Exported.{AreExportable}
use Rattle.store.specs.Reading.{OnlyReadsStore}
use Rattle.store.specs.Applying.{GoesOn, EndsAs, IsKept, IsCarryingAtEachMoment, IsCarriedOnDisk}
use Rattle.store.specs.Compacting.{reply_of}
use Rattle.store_runs.specs.Compacting.{IsStep, UnreadsStep}
use Rattle.store_changes.specs.LawsBelow.{LawsBelow, TableLaws}
use Rattle.store_changes.specs.ReadSegment.{FailsReading}
use Rattle.store.proofs.Asked.{not_running, still}
use Rattle.store.proofs.Applied.{is_device, refused_by}
use Rattle.store_changes.specs.laws.Synced.{shown_is_synced}
use Rattle.store.proofs.ReadsStore.{stays_reading, halts_reading}
use Rattle.store_changes.specs.laws.StepChanges.{step_keeps, step_few}
use Rattle.store.proofs.StepReads.{step_fails}
use Rattle.store.proofs.Roomed.{in_use, unchanged, carried_out, room_refused}
use Rattle.store.proofs.Staying.{compact_stays, changed_goes, refusal_goes, goes_behind}

-- something was done
abbrev pub IsDone : Compaction → Type 0
IsDone compactions.Merged = Unit {0}
IsDone compactions.Moved = Unit {0}
IsDone compactions.Nothing = ⊥

done_step : (s : Setting) (m : Machine) (done : Compaction) → IsDone done → m.phase ≡ running → m.started ≡ true → Step s m compact_call (reply_of done) true m
unfolding Step
done_step s m compactions.Merged is on started = (on, started, refl, refl)
done_step s m compactions.Moved is on started = (on, started, refl, refl)
done_step s m compactions.Nothing is on started = absurd is

done_changes : (done : Compaction) → IsDone done → is_change compact_call (reply_of done) ≡ true
done_changes compactions.Merged is = refl
done_changes compactions.Moved is = refl
done_changes compactions.Nothing is = absurd is

done_works : (done : Compaction) → is_device_reply (reply_of done) ≡ false
done_works compactions.Merged = refl
done_works compactions.Moved = refl
done_works compactions.Nothing = refl

done_found : (s : Setting) (done : Compaction) (d : Disk) → TellsFound s (reply_of done) d
done_found s compactions.Merged d = tt
done_found s compactions.Moved d = tt
done_found s compactions.Nothing d = tt

done_told : (size : ℕ) (pinned : List Run) (done : Compaction) (before after : Disk) → IsDone done → StepEnds size pinned done before after → TellsStep size pinned (reply_of done) before after
done_told size pinned compactions.Merged before after is ended = ended
done_told size pinned compactions.Moved before after is ended = ended
done_told size pinned compactions.Nothing before after is ended = absurd is

-- ---- of a step that was found

-- what was found is so of the store that was read
pub found_behind : {D : Type 0} {g : Ghosts D} (size : D → ℕ) (story : D → Story) (failed : D → ℕ) (tells : Bool) → tells ≡ true → (old mid : Store D g) (ends : PlainReply) → OnlyReadsStore size story failed tells ends old mid
    → (made : Compaction) (change : Option PlainChange) → IsStep tells (shown_image (now (story old.device))) (size old.device) (IsUsedIn old.opened.map.entries) (listed_in old) made change
    → IsStep tells (shown_image (now (story mid.device))) (size mid.device) (IsUsedIn mid.opened.map.entries) (listed_in mid) made change
found_behind size story failed tells told old mid ends reads made change is =
    let later : now (story mid.device) ≡ now (story old.device) = now_read (story old.device) (story mid.device) (reads.device.moments told) in
    subst (λ (o : Opened StoredCatalogue). IsStep tells (shown_image (now (story mid.device))) (size mid.device) (IsUsedIn o.map.entries) (catalogue_of o.catalogue.list) made change) (sym reads.kept)
    (subst (λ (n : ℕ). IsStep tells (shown_image (now (story mid.device))) n (IsUsedIn old.opened.map.entries) (listed_in old) made change) (sym reads.device.same)
    (subst (λ (d : Disk). IsStep tells (shown_image d) (size old.device) (IsUsedIn old.opened.map.entries) (listed_in old) made change) (sym later) is))

pub is_done : (tells : Bool) (image : Image) (size : ℕ) (used : Run → Type 0) (c : PlainCatalogue) (done : Compaction) (change : PlainChange) → IsStep tells image size used c done (Some change) → IsDone done
is_done tells image size used c compactions.Merged change step = tt
is_done tells image size used c compactions.Moved change step = tt
is_done tells image size used c compactions.Nothing change step = absurd step

-- a store is halted just where its device failed
pub halts_by : (b : Bool) (r : Refusal) → (b ≡ true) ↔ (refused_by r ≡ Err refusals.Device) → b ≡ is_failure r
halts_by b r (to, from) = by_test (is_failure r) refl
  where
    by_test : (t : Bool) → is_failure r ≡ t → b ≡ is_failure r
    by_test true is = from (ap refused_by (is_device r is)) ∙ sym is
    by_test false is = false_from_ne_true b (λ (h : b ≡ true). let fails : r ≡ refusals.Device = (let e = to h in cc e) in true≢false (sym (ap is_failure fails) ∙ is)) ∙ sym is

module _ {D : Type 0} {g : Ghosts D} (size : D → ℕ) (story : D → Story) (failed : D → ℕ) (base : Tables) (m : Machine) (tells : Bool) (told : tells ≡ true) (laws : LawsBelow) (old mid new : Store D g)
    (fits : StoreFits size story base m old) (on : m.phase ≡ running) (there : StoreFits size story base m mid) (reads : OnlyReadsStore size story failed tells done old mid) (made : Compaction) (change : PlainChange)
    (step : IsStep tells (shown_image (now (story old.device))) (size old.device) (IsUsedIn old.opened.map.entries) (listed_in old) made (Some change))
    (sized : size new.device ≡ size mid.device) (book : book_of new ≡ book_of mid) (exportable : AreExportable (size mid.device) (book_of mid).exports) (carries : IsCarryingAtEachMoment size story mid change new) where
  behind : IsStep tells (shown_image (now (story mid.device))) (size mid.device) (IsUsedIn mid.opened.map.entries) (listed_in mid) made (Some change)
  behind = found_behind size story failed tells told old mid done reads made (Some change) step

  keeps : (image : Image) → ((n : ℕ) → InSome (runs_of (listed_in mid)) n → image n ≡ synced_image (now (story mid.device)) n) → (others : List Segment)
      → HoldsStreams image others change.streams change.counts → tables_held image (edited (listed_in mid) change.edit others) ≡ tables_held image (listed_in mid)
  keeps image same others =
      let shown : shown_image (now (story mid.device)) ≡ synced_image (now (story mid.device)) = shown_is_synced (now (story mid.device)) (there.sound on).stands.quiet.shown in
      λ holds. (step_keeps laws (listed_in mid) (catalogue_is (listed_in mid) mid.opened.catalogue.list.kept) tells told (shown_image (now (story mid.device))) image (λ n within. same n within ∙ ap (λ (i : Image). i n) (sym shown))
      (size mid.device) (IsUsedIn mid.opened.map.entries) made change behind others holds).1

  -- what was found, by the runs in use as the machine knows them
  finds : StepFinds (size mid.device) (pinned_by m) (now (story mid.device)) made mid.opened.commit (listed_in mid) (Some change)
  finds =
      in_use size story base m mid (there.sound on) (λ used. IsStep true (shown_image (now (story mid.device))) (size mid.device) used (listed_in mid) made (Some change))
      (subst (λ (t : Bool). IsStep t (shown_image (now (story mid.device))) (size mid.device) (IsUsedIn mid.opened.map.entries) (listed_in mid) made (Some change)) told behind)

  done_is : IsDone made
  done_is = is_done tells (shown_image (now (story mid.device))) (size mid.device) (IsUsedIn mid.opened.map.entries) (listed_in mid) made change behind

  pub made_goes : failed new.device ≡ failed mid.device → EndsAs size mid (Ok change) (Ok tt) new → new.halted ≡ false → IsCarriedOnDisk size story mid change new → GoesOn size story failed base m compact_call (reply_of made) old new
  made_goes count carried quiet does =
      let s1 = now (story new.device) in
      let stands : standing stored_reading (size mid.device) (shown_image s1) ≡ rules new.opened.commit (listed_in new) =
      ap (standing stored_reading (size mid.device)) (shown_is_synced s1 does.stands.quiet.shown) ∙ ap (λ (n : ℕ). standing stored_reading n (synced_image s1)) (sym sized) ∙ does.stands.found in
      let ended : StepEnds (size mid.device) (pinned_by m) made (now (story mid.device)) s1 =
      carried_out size story base m mid (there.sound on) (λ k c x. StepFinds (size mid.device) (pinned_by m) (now (story mid.device)) made k c (Some x)) change finds (Ok tt) new.opened.commit (listed_in new) s1 stands carried in
      goes_behind size story failed base m tells told old mid new compact_call compact_stays done (reply_of made) refl fits reads (done_found (setting_of (size old.device) base) made (now (story old.device)))
      (changed_goes size story failed base m mid new there on sized book exportable change compact_call compact_stays keeps (reply_of made) (done_step (setting_of (size mid.device) base) m made done_is on there.started) (done_changes made done_is)
      (done_works made) (done_found (setting_of (size mid.device) base) made (now (story mid.device))) count quiet (done_told (size mid.device) (pinned_by m) made (now (story mid.device)) s1 done_is ended) carries does)

  pub refused_goes : (r : Refusal) → failed new.device ≡ counted (refused r) (failed mid.device) → EndsAs size mid (Ok change) (Err r) new → (new.halted ≡ true) ↔ (refused_by r ≡ Err refusals.Device) → IsKept mid new
      → (r ≢ refusals.Device → story new.device ≡ story mid.device) → GoesOn size story failed base m compact_call (refused r) old new
  refused_goes r count carried halts kept quiet =
      goes_behind size story failed base m tells told old mid new compact_call compact_stays done (refused r) refl fits reads tt
      (refusal_goes size story failed base m mid new there on sized book exportable change compact_call compact_stays keeps
      (step_few mid.opened.commit.version (listed_in mid) (catalogue_is (listed_in mid) mid.opened.catalogue.list.kept) tells (shown_image (now (story mid.device))) (size mid.device) (IsUsedIn mid.opened.map.entries) made change behind)
      r count carried (room_refused size story base m mid (there.sound on) (StepDecides (size mid.device) (pinned_by m) (now (story mid.device))) change (made, finds) r new carried kept quiet) (halts_by new.halted r halts) kept quiet carries)

-- ---- nothing was decided

module _ {D : Type 0} {g : Ghosts D} (size : D → ℕ) (story : D → Story) (failed : D → ℕ) (base : Tables) (m : Machine) (tells : Bool) (told : tells ≡ true) (old new : Store D g) (fits : StoreFits size story base m old) where
  -- a store that is halted
  pub off_goes : old.halted ≡ true → GoesOn size story failed base m compact_call (refused refusals.Halted) old old
  unfolding Step
  off_goes off = still size story failed base m compact_call (refused refusals.Halted) old (not_running m.phase old.halted fits.phase off, (refl, refl)) refl fits tt tt

  -- there is nothing to do
  pub none_goes : m.phase ≡ running → IsStep tells (shown_image (now (story old.device))) (size old.device) (IsUsedIn old.opened.map.entries) (listed_in old) compactions.Nothing None
      → OnlyReadsStore size story failed tells done old new → GoesOn size story failed base m compact_call nothing old new
  unfolding Step
  none_goes on none reads =
      let found : StepFinds (size old.device) (pinned_by m) (now (story old.device)) compactions.Nothing old.opened.commit (listed_in old) None =
      in_use size story base m old (fits.sound on) (λ used. IsStep true (shown_image (now (story old.device))) (size old.device) used (listed_in old) compactions.Nothing None)
      (subst (λ (t : Bool). IsStep t (shown_image (now (story old.device))) (size old.device) (IsUsedIn old.opened.map.entries) (listed_in old) compactions.Nothing None) told none) in
      stays_reading size story failed base m tells told old new fits compact_call nothing done refl refl tt
      (unchanged size story base m old (fits.sound on) (λ k c. StepFinds (size old.device) (pinned_by m) (now (story old.device)) compactions.Nothing k c None) found) (on, (refl, refl)) reads

  -- a segment that is read, where all are held
  pub unread_goes : TableLaws → m.phase ≡ running → (r : Refusal) → UnreadsStep tells (shown_image (now (story old.device))) (listed_in old) r → OnlyReadsStore size story failed tells (refused r) old new
      → GoesOn size story failed base m compact_call (refused r) old new
  unfolding Step
  unread_goes laws on r unread reads = by_refusal r (step_fails laws (shown_image (now (story old.device))) (listed_in old) (catalogue_is (listed_in old) old.opened.catalogue.list.kept) (after base m.settled) held tells told r unread) reads
    where
      held : tables_held (shown_image (now (story old.device))) (listed_in old) ≡ Some (after base m.settled)
      held = ap (λ (i : Image). tables_held i (listed_in old)) (shown_is_synced (now (story old.device)) (fits.sound on).stands.quiet.shown) ∙ (fits.sound on).tables

      by_refusal : (q : Refusal) → FailsReading q → OnlyReadsStore size story failed tells (refused q) old new → GoesOn size story failed base m compact_call (refused q) old new
      by_refusal refusals.Device fails only = halts_reading size story failed base m tells told old new fits compact_call (on, refl) only
      by_refusal refusals.OutOfMemory fails only = stays_reading size story failed base m tells told old new fits compact_call (refused refusals.OutOfMemory) (refused refusals.OutOfMemory) refl refl tt tt (on, (refl, refl)) only
      by_refusal _ fails only = absurd fails

-- ---- what it counts, and what it is not

-- a step that was made counts no failure
pub done_counts : (made : Compaction) (before after : ℕ) → after ≡ before → after ≡ counted (reply_of made) before
done_counts made before after same = same ∙ sym (ap (λ (b : Bool). if b then min (before + 1) (2 ^ 64 - 1) else before) (done_works made))

pub never_nothing : (tells : Bool) (image : Image) (size : ℕ) (used : Run → Type 0) (c : PlainCatalogue) (made : Compaction) (change : PlainChange) → IsStep tells image size used c made (Some change) → made ≡ compactions.Nothing → ⊥
never_nothing tells image size used c compactions.Merged change step is = cc is
never_nothing tells image size used c compactions.Moved change step is = cc is
never_nothing tells image size used c compactions.Nothing change step is = step

-- reads that were done, in the words of a step
pub nothing_read : {D : Type 0} {g : Ghosts D} {size : D → ℕ} {story : D → Story} {failed : D → ℕ} {tells : Bool} {old new : Store D g} → OnlyReadsStore size story failed tells done old new → OnlyReadsStore size story failed tells nothing old new
nothing_read reads = record { device = record { same = reads.device.same; moments = reads.device.moments; count = reads.device.count }; kept = reads.kept; book = reads.book; halts = reads.halts }
