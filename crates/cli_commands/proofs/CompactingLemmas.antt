-- Steps of a compaction, one after another.
use Rattle.std.specs.Prelude.{◌≢◌, ◌↔◌, ◌++◌, ◌*◌, ◌^◌, ◌-◌, Bool, if◌then◌else◌, Option, None, Some, IfSome, unwrap_or, Result, Ok, Err, OnOk}
use Rattle.std.proofs.Common.{◌≡◌, ◌∙◌, ◌<◌, ◌≤◌, ◌+◌, ℕ, suc, true, false, List, [], ◌∷◌, map, length, inl, inr, refl, ap, sym, subst, true≢false, arith}
use Rattle.std.proofs.lemmas.Bool.{and_parts, leb-true, lt-ltb, le-ltb, false_from_ne_true}
use Rattle.std.proofs.lemmas.Nat.{mul-le}
use Rattle.std.specs.Io.KnownBytes.{Appends}
use Rattle.std.proofs.lemmas.List.{map_push, length_push}
use Rattle.sector_dev.specs.Disk.{Disk, Image, Story, now, synced_image}
use Rattle.sector_dev.specs.Time.{Grows, LeavesOnly}
use Rattle.sector_dev.specs.laws.Time.{stays, goes_on, weaken, now_has}
use Rattle.sector_dev.specs.laws.Crash.{only_image}
use Rattle.sector_dev.specs.declared.device.SectorDevice.{Ghosts}
use Rattle.sector_dev.specs.declared.file.TheConstants.{MOST_SECTORS}
use Rattle.catalogue.specs.declared.limits.TheConstants.{MAX_SEGMENTS}
use Rattle.catalogue.specs.Entries.{PlainCatalogue, runs_of, segment_count}
use Rattle.catalogue.specs.laws.Kept.{catalogue_is}
use Rattle.commit.specs.Standing.{all_on_device, rules, standing}
use Rattle.commit.specs.declared.sector.Commit.{Commit}
use Rattle.commit.specs.laws.Frame.{fault_none}
use Rattle.tables.specs.Tables.{Tables}
use Rattle.tables.specs.Verdict.{after}
use Rattle.tables.specs.declared.refusal.Limit.TheVariants as limits
use Rattle.tables.specs.declared.refusal.Refusal as tables
use Rattle.tables.specs.declared.refusal.Refusal.TheVariants as refusals
use Rattle.store_runs.specs.declared.compacting.Compaction.{Compaction}
use Rattle.store_runs.specs.declared.compacting.Compaction.TheVariants.{Merged, Moved, Nothing}
use Rattle.store.specs.declared.store.Store.{Store}
use Rattle.store.specs.Applying.{GoesOn, HoldsSameTables, KeepsEachTable}
use Rattle.store_runs.specs.Calls.{PlainCall, compact_call, PlainReply, nothing, refused, counted}
use Rattle.store.specs.Compacting.{reply_of, step_reply, HasStepped, IsSteppingAtEachMoment, HasSteppedOnDisk}
use Rattle.store_changes.specs.Exchanging.{Shrinks, ShrinkInTurn, AreOnDevice}
use Rattle.store.specs.Fits.{StoreFits, setting_of, book_of, commit_of, device_of, is_halted, listed_in, IsOnDisk}
use Rattle.pages.specs.Stored.{stored_reading}
use Rattle.store_runs.specs.Held.{held_by, HeldTable, each_held, each_listed}
use Rattle.store_runs.specs.Machine.{Setting, Machine, running, halted, holds, meanwhile, Allows, AllowsEach, with_doubt}
use Rattle.store.specs.Reading.{OnlyReadsStore}
use Rattle.store_runs.specs.Runs.{Goes, Run}
use Rattle.store_runs.specs.Steps.{Step}
use Rattle.store_runs.specs.laws.Going.{runs_joined, no_run, run_of_one}
use Rattle.store_changes.specs.laws.Shrinking.{few_in_turn}
use Rattle.store_changes.specs.laws.Synced.{own_image}
use Rattle.cli_reports.specs.declared.refusal.Refusal.{Refusal}
use Rattle.cli_commands.specs.Compacting.{steps_text, Steps, StepsTo, StopsBy, step_calls, RunsOn, StaysWith, is_called, CompactedSo, Compacted}

-- ---- one step and the machine

-- a step that is answered changes nothing of the machine
machine_stays : (s : Setting) (m : Machine) (done : Compaction) (wrote : Bool) (next : Machine) → Step s m compact_call (reply_of done) wrote next → next ≡ m
unfolding Step
machine_stays s m Merged wrote next step = step.3
machine_stays s m Moved wrote next step = step.3
machine_stays s m Nothing wrote next step = step.1.1

-- nor of its settled commands where it is refused
settled_stays : (s : Setting) (m : Machine) (r : tables.Refusal) (wrote : Bool) (next : Machine) → Step s m compact_call (refused r) wrote next → next.settled ≡ m.settled
unfolding Step
settled_stays s m (refusals.TooMany limits.Epochs) wrote next step = ap (λ (k : Machine). k.settled) step.1.1
settled_stays s m (refusals.NoRoom count) wrote next step = ap (λ (k : Machine). k.settled) step.1.1
settled_stays s m refusals.OutOfMemory wrote next step = ap (λ (k : Machine). k.settled) step.1.1
settled_stays s m refusals.Halted wrote next step = ap (λ (k : Machine). k.settled) step.1.1
settled_stays s m refusals.Device wrote next step = ap (λ (k : Machine). k.settled) step.1
settled_stays s m _ wrote next step = absurd step

no_failure : (done : Compaction) (failed : ℕ) → counted (reply_of done) failed ≡ failed
no_failure Merged failed = refl
no_failure Moved failed = refl
no_failure Nothing failed = refl

-- what a stop in a step leaves the machine allows, which has no command in doubt
allows_plain : (s : Setting) (m : Machine) (begun : Bool) (image : Image) → m.doubt ≡ None → m.started ≡ true → Allows s (meanwhile compact_call m begun) image
    → s.held image ≡ holds (after s.base m.settled)
unfolding Allows
allows_plain s m true image none started (inl is) = is
allows_plain s m false image none started (inl is) = is
allows_plain s m true image none started (inr (inl is)) = is ∙ ap (λ o. holds (after s.base (with_doubt m.settled o))) none
allows_plain s m false image none started (inr (inl is)) = is ∙ ap (λ o. holds (after s.base (with_doubt m.settled o))) none
allows_plain s m true image none started (inr (inr fresh)) = absurd (true≢false (sym started ∙ fresh.0))
allows_plain s m false image none started (inr (inr fresh)) = absurd (true≢false (sym started ∙ fresh.0))

stays_plain : (s : Setting) (m : Machine) (reply : PlainReply) (old new : Story) → m.doubt ≡ None → m.started ≡ true → Grows (AllowsEach s compact_call reply m (now old)) old new
    → Grows (LeavesOnly (λ (image : Image). s.held image ≡ holds (after s.base m.settled))) old new
stays_plain s m reply old new none started moments =
    weaken (λ (d : Disk) allows image may. allows_plain s m _ image none started (allows image may)) moments

abbrev to_unit : {E : Type 0} → Result Compaction E → Result (Unit {0}) E
to_unit (Ok x) = Ok tt
to_unit (Err e) = Err e

abbrev from_unit : {E : Type 0} → Result (Unit {0}) E → Result Compaction E
from_unit (Ok x) = Ok Nothing
from_unit (Err e) = Err e

abbrev as_step : tables.Refusal → Result Compaction tables.Refusal
as_step r = Err r

err_differs : {A E : Type 0} (x : A) (e : E) → Ok x ≡ Err e → ⊥
err_differs x e is = absurd (cc is)

-- n steps are fewer than a number of 64 bits counts
few : (s p count : ℕ) → s ≤ MAX_SEGMENTS → p ≤ MOST_SECTORS → count ≤ s * (s * p + 1) → count < 2 ^ 64 - 1
few s p count segments sectors le =
    let inner : s * p ≤ MAX_SEGMENTS * MOST_SECTORS = mul-le s p MAX_SEGMENTS MOST_SECTORS segments sectors in
    let most : s * (s * p + 1) ≤ MAX_SEGMENTS * (MAX_SEGMENTS * MOST_SECTORS + 1) = mul-le s (s * p + 1) MAX_SEGMENTS (MAX_SEGMENTS * MOST_SECTORS + 1) segments (omega (arith, inner)) in
    omega (arith, le, most)

pub below_limit : {n count most limit : ℕ} → n ≡ count → count < most → most ≡ limit → n < limit
below_limit is lt same = omega (arith, is, lt, same)

listed_alike : (k j : Commit) (c d : PlainCatalogue) → rules k c ≡ rules j d → c ≡ d
listed_alike k j c d is = cc is

module _ {D : Type 0} {g : Ghosts D} where
  -- ---- stores are within their limits

  on_device : (s : Store D g) → all_on_device (g.size (device_of s)) (runs_of (listed_in s)) ≡ true
  on_device s = (fault_none (g.size (device_of s)) s.opened.commit.catalogue.run (runs_of (listed_in s)) s.fit).0

  few_segments : (s : Store D g) → segment_count (listed_in s) ≤ MAX_SEGMENTS
  few_segments s = (catalogue_is (listed_in s) s.opened.catalogue.list.kept).segments

  few_sectors : (s : Store D g) → g.size (device_of s) ≤ MOST_SECTORS
  few_sectors s = leb-true _ _ (and_parts _ _ s.in_limits).1

  -- the catalogues after the steps
  abbrev behind : (old : Store D g) (taken : List Compaction) (new : Store D g) → StepsTo old taken new → List PlainCatalogue
  behind old [] new steps = []
  behind old (t ∷ ts) new steps = listed_in steps.0 ∷ behind steps.0 ts new steps.2

  behind_count : (old : Store D g) (taken : List Compaction) (new : Store D g) (steps : StepsTo old taken new) → length (behind old taken new steps) ≡ length taken
  behind_count old [] new steps = refl
  behind_count old (t ∷ ts) new steps = ap suc (behind_count steps.0 ts new steps.2)

  behind_shrinks : (old : Store D g) (taken : List Compaction) (new : Store D g) (steps : StepsTo old taken new) → ShrinkInTurn (listed_in old) (behind old taken new steps)
  behind_shrinks old [] new steps = tt
  behind_shrinks old (t ∷ ts) new steps = (steps.1.shrinks, behind_shrinks steps.0 ts new steps.2)

  behind_placed : (size : ℕ) (old : Store D g) (taken : List Compaction) (new : Store D g) (steps : StepsTo old taken new) → g.size (device_of old) ≡ size
      → AreOnDevice size (listed_in old ∷ behind old taken new steps)
  behind_placed size old [] new steps is = (subst (λ (n : ℕ). all_on_device n (runs_of (listed_in old)) ≡ true) is (on_device old), tt)
  behind_placed size old (t ∷ ts) new steps is = (
    subst (λ (n : ℕ). all_on_device n (runs_of (listed_in old)) ≡ true) is (on_device old),
    behind_placed size steps.0 ts new steps.2 (steps.1.size ∙ is),
  )

  pub few_steps : (old : Store D g) (taken : List Compaction) (new : Store D g) → StepsTo old taken new → length taken < 2 ^ 64 - 1
  few_steps old taken new steps =
      let p = g.size (device_of old) in
      few (segment_count (listed_in old)) p (length taken) (few_segments old) (few_sectors old)
      (subst (λ (n : ℕ). n ≤ segment_count (listed_in old) * (segment_count (listed_in old) * p + 1)) (behind_count old taken new steps)
      (few_in_turn p (listed_in old) (behind old taken new steps) (behind_placed p old taken new steps refl) (behind_shrinks old taken new steps)))

  -- ---- one step more

  steps_more : (old : Store D g) (taken : List Compaction) (mid : Store D g) (done : Compaction) (new : Store D g) → StepsTo old taken mid → Steps mid done new → StepsTo old (taken ++ done ∷ []) new
  steps_more old [] mid done new steps step = (new, subst (λ (s : Store D g). Steps s done new) steps step, refl)
  steps_more old (t ∷ ts) mid done new steps step = (steps.0, steps.1, steps_more steps.0 ts mid done new steps.2 step)

  -- a machine that a store stands for, where the store is not halted
  nothing_doubted : (base : Tables) (m : Machine) (s : Store D g) → StoreFits g.size g.story base m s → is_halted s ≡ false → m.doubt ≡ None
  nothing_doubted base m s fits on = (fits.sound (fits.phase ∙ ap (λ (h : Bool). if h then halted else running) on)).none

  -- what the steps so far did to a store that stands for a machine
  pub record GoneOn (base : Tables) (m : Machine) (taken : List Compaction) (old new : Store D g) : Type 0 where
    pub run : Run (setting_of (g.size (device_of old)) base) (step_calls taken) (map reply_of taken) m (g.story (device_of old)) (g.failed (device_of old)) m (g.story (device_of new)) (g.failed (device_of new))
    pub fits : StoreFits g.size g.story base m new
    pub stays : StaysWith (after base m.settled) old new

  -- ---- on a store that lies on its disk

  -- what it holds now, of these tables
  abbrev Holds : (of : Store D g) → Disk → Type 0
  Holds of d = LeavesOnly (HoldsSameTables (g.size (device_of of)) (synced_image (now (g.story (device_of of)))) (listed_in of)) d

  holds_now : (s : Store D g) → IsOnDisk g.size g.story s → Holds s (now (g.story (device_of s)))
  holds_now s on image may =
      let one : image ≡ synced_image (now (g.story (device_of s))) = only_image (now (g.story (device_of s))) image on.quiet.pending may in
      record {
        commit = commit_of s;
        catalogue = listed_in s;
        stands = ap (standing stored_reading (g.size (device_of s))) one ∙ on.found;
        same = ap (λ (i : Image). each_held i (listed_in s)) one;
      }

  -- each table of a store as it is there
  abbrev each_of : Store D g → List HeldTable
  each_of s = each_held (synced_image (now (g.story (device_of s)))) (listed_in s)

  -- after a call that keeps each table
  held_after : (old new : Store D g) → IsOnDisk g.size g.story old → IsOnDisk g.size g.story new → g.size (device_of new) ≡ g.size (device_of old) → KeepsEachTable g.size g.story old new
      → each_of new ≡ each_of old
  held_after old new on stood size keeps =
      let image : Image = synced_image (now (g.story (device_of new))) in
      let here : HoldsSameTables (g.size (device_of old)) (synced_image (now (g.story (device_of old)))) (listed_in old) image =
      now_has {P = Holds old} (holds_now old on) keeps image (own_image (now (g.story (device_of new)))) in
      let stands : standing stored_reading (g.size (device_of old)) image ≡ rules (commit_of new) (listed_in new) = ap (λ (n : ℕ). standing stored_reading n image) (sym size) ∙ stood.found in
      ap (each_held image) (sym (listed_alike here.commit (commit_of new) here.catalogue (listed_in new) (sym here.stands ∙ stands))) ∙ here.same

  -- a call after others that kept each table
  keeps_on : (old mid new : Store D g) → g.size (device_of mid) ≡ g.size (device_of old) → each_of mid ≡ each_of old → KeepsEachTable g.size g.story old mid → KeepsEachTable g.size g.story mid new
      → KeepsEachTable g.size g.story old new
  keeps_on old mid new size held first keeps =
      goes_on first (weaken (λ (d : Disk) (leaves : Holds mid d) (image : Image) may.
      let here = leaves image may in
      record {
        commit = here.commit;
        catalogue = here.catalogue;
        stands = ap (λ (n : ℕ). standing stored_reading n image) (sym size) ∙ here.stands;
        same = here.same ∙ held;
      }) keeps)

  -- what the steps so far did to such a store
  pub record KeptSo (old new : Store D g) : Type 0 where
    pub stands : IsOnDisk g.size g.story new
    pub held : each_of new ≡ each_of old
    pub each : KeepsEachTable g.size g.story old new

  none_kept : (s : Store D g) → IsOnDisk g.size g.story s → KeptSo s s
  none_kept s on = record { stands = on; held = refl; each = stays (Holds s) (g.story (device_of s)) }

  kept_more : (old mid new : Store D g) → g.size (device_of mid) ≡ g.size (device_of old) → g.size (device_of new) ≡ g.size (device_of mid) → KeptSo old mid → IsOnDisk g.size g.story new
      → KeepsEachTable g.size g.story mid new → KeptSo old new
  kept_more old mid new size sized so on keeps = record {
    stands = on;
    held = held_after mid new so.stands on sized keeps ∙ so.held;
    each = keeps_on old mid new size so.held so.each keeps;
  }

  -- what the steps so far did
  pub record SoFar (count : ℕ) (old new : Store D g) : Type 0 where
    pub taken : List Compaction
    pub counted_so : length taken ≡ count
    pub steps : StepsTo old taken new
    pub size : g.size (device_of new) ≡ g.size (device_of old)
    pub failures : g.failed (device_of new) ≡ g.failed (device_of old)
    pub book : book_of new ≡ book_of old
    pub halted_so : is_halted new ≡ is_halted old
    pub still : is_halted old ≡ true → new ≡ old
    pub goes : g.tells ≡ true → (base : Tables) (m : Machine) → StoreFits g.size g.story base m old → GoneOn base m taken old new
    pub keeps : g.tells ≡ true → IsOnDisk g.size g.story old → KeptSo old new
    pub listed : each_listed (listed_in new) ≡ each_listed (listed_in old)

  pub none_so_far : (s : Store D g) → SoFar 0 s s
  none_so_far s = record {
    taken = [];
    counted_so = refl;
    steps = refl;
    size = refl;
    failures = refl;
    book = refl;
    halted_so = refl;
    still = λ _. refl;
    keeps = λ told on. none_kept s on;
    listed = refl;
    goes = λ told base m fits. record {
      run = no_run (setting_of (g.size (device_of s)) base) m (g.story (device_of s)) (g.failed (device_of s));
      fits = fits;
      stays = stays (LeavesOnly (λ (image : Image). held_by (g.size (device_of s)) image ≡ holds (after base m.settled))) (g.story (device_of s));
    };
  }

  -- a call after the steps so far
  run_more : (base : Tables) (m next : Machine) (taken : List Compaction) (reply : PlainReply) (old mid new : Store D g) → g.size (device_of mid) ≡ g.size (device_of old) → GoneOn base m taken old mid
      → Goes (setting_of (g.size (device_of mid)) base) m compact_call reply (g.story (device_of mid)) (g.story (device_of new)) (g.failed (device_of mid)) (g.failed (device_of new)) next
      → Run (setting_of (g.size (device_of old)) base) (step_calls taken ++ compact_call ∷ []) (map reply_of taken ++ reply ∷ []) m (g.story (device_of old)) (g.failed (device_of old)) next
      (g.story (device_of new)) (g.failed (device_of new))
  run_more base m next taken reply old mid new size gone goes =
      let s = setting_of (g.size (device_of old)) base in
      runs_joined s (step_calls taken) (compact_call ∷ []) (map reply_of taken) (reply ∷ []) m m next (g.story (device_of old)) (g.story (device_of mid)) (g.story (device_of new)) (g.failed (device_of old))
      (g.failed (device_of mid)) (g.failed (device_of new)) gone.run
      (run_of_one s compact_call reply m next (g.story (device_of mid)) (g.story (device_of new)) (g.failed (device_of mid)) (g.failed (device_of new))
      (subst (λ (n : ℕ). Goes (setting_of n base) m compact_call reply (g.story (device_of mid)) (g.story (device_of new)) (g.failed (device_of mid)) (g.failed (device_of new)) next) size goes))

  stays_more : (base : Tables) (m next : Machine) (reply : PlainReply) (old mid new : Store D g) → g.size (device_of mid) ≡ g.size (device_of old) → StoreFits g.size g.story base m mid → is_halted mid ≡ false
      → StaysWith (after base m.settled) old mid
      → Goes (setting_of (g.size (device_of mid)) base) m compact_call reply (g.story (device_of mid)) (g.story (device_of new)) (g.failed (device_of mid)) (g.failed (device_of new)) next
      → StaysWith (after base m.settled) old new
  stays_more base m next reply old mid new size fits on first goes =
      goes_on first (subst (λ (n : ℕ). Grows (LeavesOnly (λ (image : Image). held_by n image ≡ holds (after base m.settled))) (g.story (device_of mid)) (g.story (device_of new))) size
      (stays_plain (setting_of (g.size (device_of mid)) base) m reply (g.story (device_of mid)) (g.story (device_of new)) (nothing_doubted base m mid fits on) fits.started goes.moments))

  gone_more : (base : Tables) (m : Machine) (taken : List Compaction) (done : Compaction) (old mid new : Store D g) → g.size (device_of mid) ≡ g.size (device_of old) → is_halted mid ≡ false → GoneOn base m taken old mid
      → GoesOn g.size g.story g.failed base m compact_call (reply_of done) mid new → GoneOn base m (taken ++ done ∷ []) old new
  gone_more base m taken done old mid new size on gone goes =
      let s = setting_of (g.size (device_of old)) base in
      let same : goes.next ≡ m = machine_stays (setting_of (g.size (device_of mid)) base) m done _ goes.next goes.goes.step in
      record {
        run =
            subst (λ (calls : List PlainCall). Run s calls (map reply_of (taken ++ done ∷ [])) m (g.story (device_of old)) (g.failed (device_of old)) m (g.story (device_of new)) (g.failed (device_of new)))
            (sym (map_push (λ (x : Compaction). compact_call) taken done))
            (subst (λ (replies : List PlainReply). Run s (step_calls taken ++ compact_call ∷ []) replies m (g.story (device_of old)) (g.failed (device_of old)) m (g.story (device_of new)) (g.failed (device_of new)))
            (sym (map_push reply_of taken done))
            (subst (λ (k : Machine). Run s (step_calls taken ++ compact_call ∷ []) (map reply_of taken ++ reply_of done ∷ []) m (g.story (device_of old)) (g.failed (device_of old)) k (g.story (device_of new))
            (g.failed (device_of new))) same (run_more base m goes.next taken (reply_of done) old mid new size gone goes.goes)));
        fits = subst (λ (k : Machine). StoreFits g.size g.story base k new) same goes.fits;
        stays = stays_more base m goes.next (reply_of done) old mid new size gone.fits on gone.stays goes.goes;
      }

  -- one step that did something
  pub so_far_more : (count : ℕ) (old mid new : Store D g) (done : Compaction) → SoFar count old mid → done ≢ Nothing
      → (g.tells ≡ true → (base : Tables) (m : Machine) → StoreFits g.size g.story base m mid → GoesOn g.size g.story g.failed base m compact_call (reply_of done) mid new)
      → HasStepped g.size g.story g.tells mid done new → (done ≢ Nothing → Shrinks (listed_in mid) (listed_in new))
      → ((Ok done ≡ Err refusals.Halted) ↔ (is_halted mid ≡ true)) → (is_halted mid ≡ false → (is_halted new ≡ true) ↔ (Ok done ≡ Err refusals.Device))
      → g.size (device_of new) ≡ g.size (device_of mid) → g.failed (device_of new) ≡ counted (step_reply (Ok done)) (g.failed (device_of mid)) → book_of new ≡ book_of mid
      → (g.tells ≡ true → IsOnDisk g.size g.story mid → IsSteppingAtEachMoment g.size g.story g.tells mid new)
      → (done ≢ Nothing → g.tells ≡ true → IsOnDisk g.size g.story mid → HasSteppedOnDisk g.size g.story g.tells mid done new)
      → (g.tells ≡ true → IsOnDisk g.size g.story mid → KeepsEachTable g.size g.story mid new)
      → each_listed (listed_in new) ≡ each_listed (listed_in mid) → SoFar (count + 1) old new
  so_far_more count old mid new done so did goes stepped shrinks halted_if halts size failures book writes written each listed =
      let on : is_halted mid ≡ false = false_from_ne_true (is_halted mid) (λ h. err_differs done refusals.Halted (halted_if.1 h)) in
      let on_then : is_halted new ≡ false = false_from_ne_true (is_halted new) (λ h. err_differs done refusals.Device ((halts on).0 h)) in
      record {
        taken = so.taken ++ done ∷ [];
        counted_so = length_push so.taken done ∙ ap (λ (n : ℕ). n + 1) so.counted_so;
        steps = steps_more old so.taken mid done new so.steps (record { did = did; stepped = stepped; shrinks = shrinks did; size = size; writes = writes; written = written did; each_table = each; listed = listed });
        size = size ∙ so.size;
        failures = failures ∙ no_failure done (g.failed (device_of mid)) ∙ so.failures;
        book = book ∙ so.book;
        halted_so = on_then ∙ sym on ∙ so.halted_so;
        still = λ h. absurd (true≢false (sym h ∙ sym so.halted_so ∙ on));
        goes = λ told base m fits. let gone = so.goes told base m fits in gone_more base m so.taken done old mid new so.size on gone (goes told base m gone.fits);
        keeps = λ told stands. let kept = so.keeps told stands in kept_more old mid new so.size size kept (written did told kept.stands).2.stands (each told kept.stands);
        listed = listed ∙ so.listed;
      }

  -- ---- the last step

  runs_end : (base : Tables) (m : Machine) (taken : List Compaction) (reply : PlainReply) (old mid new : Store D g) → g.size (device_of mid) ≡ g.size (device_of old) → GoneOn base m taken old mid
      → (goes : GoesOn g.size g.story g.failed base m compact_call reply mid new) → goes.next.settled ≡ m.settled
      → RunsOn base m (step_calls taken ++ compact_call ∷ []) (map reply_of taken ++ reply ∷ []) old new
  runs_end base m taken reply old mid new size gone goes settled = record {
    next = goes.next;
    settled = settled;
    run = run_more base m goes.next taken reply old mid new size gone goes.goes;
    fits = goes.fits;
  }

  pub ends_with_nothing : (count : ℕ) (old mid new : Store D g) (done : Compaction) → done ≡ Nothing → SoFar count old mid
      → (g.tells ≡ true → (base : Tables) (m : Machine) → StoreFits g.size g.story base m mid → GoesOn g.size g.story g.failed base m compact_call (reply_of done) mid new)
      → HasStepped g.size g.story g.tells mid done new → OnlyReadsStore g.size g.story g.failed g.tells nothing mid new
      → ((Ok done ≡ Err refusals.Halted) ↔ (is_halted mid ≡ true)) → (is_halted mid ≡ false → (is_halted new ≡ true) ↔ (Ok done ≡ Err refusals.Device))
      → g.size (device_of new) ≡ g.size (device_of mid) → g.failed (device_of new) ≡ counted (step_reply (Ok done)) (g.failed (device_of mid)) → book_of new ≡ book_of mid
      → (g.tells ≡ true → IsOnDisk g.size g.story mid → KeepsEachTable g.size g.story mid new) → each_listed (listed_in new) ≡ each_listed (listed_in mid)
      → (taken : List Compaction) × (length taken ≡ count) × CompactedSo true taken (Ok tt) old new
  ends_with_nothing count old mid new Merged is so goes stepped reads halted_if halts size failures book each listed = absurd (cc is)
  ends_with_nothing count old mid new Moved is so goes stepped reads halted_if halts size failures book each listed = absurd (cc is)
  ends_with_nothing count old mid new Nothing is so goes stepped reads halted_if halts size failures book each listed =
      let on : is_halted mid ≡ false = false_from_ne_true (is_halted mid) (λ h. err_differs Nothing refusals.Halted (halted_if.1 h)) in
      let never : is_halted old ≡ true → ⊥ = λ h. true≢false (sym h ∙ sym so.halted_so ∙ on) in (
        so.taken,
        so.counted_so,
        record {
          mid = mid;
          steps = so.steps;
          ends = (stepped, reads);
          size = size ∙ so.size;
          count = failures ∙ so.failures;
          book = book ∙ so.book;
          still = λ h. absurd (never h);
          halts = λ off. ((λ h. absurd (err_differs Nothing refusals.Device ((halts on).0 h))), (λ h. absurd (err_differs tt refusals.Device h)));
          goes = λ told base m fits.
              let gone = so.goes told base m fits in
              let last = goes told base m gone.fits in
              runs_end base m so.taken nothing old mid new so.size gone last (ap (λ (k : Machine). k.settled) (machine_stays (setting_of (g.size (device_of mid)) base) m Nothing _ last.next last.goes.step));
          stays = λ told base m fits off.
              let gone = so.goes told base m fits in
              let last = goes told base m gone.fits in
              stays_more base m last.next nothing old mid new so.size gone.fits on gone.stays last.goes;
          each_table = λ told stands. let kept = so.keeps told stands in keeps_on old mid new so.size kept.held kept.each (each told kept.stands);
          listed = listed ∙ so.listed;
        },
      )

  pub ends_refused : (count : ℕ) (old mid new : Store D g) (r : tables.Refusal) → SoFar count old mid
      → (g.tells ≡ true → (base : Tables) (m : Machine) → StoreFits g.size g.story base m mid → GoesOn g.size g.story g.failed base m compact_call (refused r) mid new)
      → StopsBy mid r new → ((as_step r ≡ Err refusals.Halted) ↔ (is_halted mid ≡ true)) → (is_halted mid ≡ true → new ≡ mid)
      → (is_halted mid ≡ false → (is_halted new ≡ true) ↔ (as_step r ≡ Err refusals.Device))
      → g.size (device_of new) ≡ g.size (device_of mid) → g.failed (device_of new) ≡ counted (step_reply (as_step r)) (g.failed (device_of mid)) → book_of new ≡ book_of mid → each_listed (listed_in new) ≡ each_listed (listed_in mid)
      → (taken : List Compaction) × (length taken ≡ count) × CompactedSo true taken (Err r) old new
  ends_refused count old mid new r so goes stops halted_if same halts size failures book listed = (
    so.taken,
    so.counted_so,
    record {
      mid = mid;
      steps = so.steps;
      ends = stops;
      size = size ∙ so.size;
      count = failures ∙ ap (counted (refused r)) so.failures;
      book = book ∙ so.book;
      still = λ h. let off = so.halted_so ∙ h in ((λ called. ap to_unit (halted_if.1 off)), same off ∙ so.still h);
      halts = λ on. let parts = halts (so.halted_so ∙ on) in ((λ h. ap to_unit (parts.0 h)), (λ h. parts.1 (ap from_unit h)));
      goes = λ told base m fits.
          let gone = so.goes told base m fits in
          let last = goes told base m gone.fits in
          runs_end base m so.taken (refused r) old mid new so.size gone last (settled_stays (setting_of (g.size (device_of mid)) base) m r _ last.next last.goes.step);
      stays = λ told base m fits on.
          let gone = so.goes told base m fits in
          let last = goes told base m gone.fits in
          stays_more base m last.next (refused r) old mid new so.size gone.fits (so.halted_so ∙ on) gone.stays last.goes;
      each_table = λ told stands. let kept = so.keeps told stands in keeps_on old mid new so.size kept.held kept.each (stops.each_table told kept.stands);
      listed = listed ∙ so.listed;
    },
  )

  -- ---- no call more

  pub ends_at_limit : (count : ℕ) (old new : Store D g) → SoFar count old new → (taken : List Compaction) × (length taken ≡ count) × CompactedSo false taken (Ok tt) old new
  ends_at_limit count old new so = (
    so.taken,
    so.counted_so,
    record {
      mid = new;
      steps = so.steps;
      ends = (refl, refl);
      size = so.size;
      count = so.failures;
      book = so.book;
      still = λ h. ((λ called. absurd (true≢false (sym called))), so.still h);
      halts = λ on. ((λ h. absurd (true≢false (sym h ∙ so.halted_so ∙ on))), (λ h. absurd (err_differs tt refusals.Device h)));
      goes = λ told base m fits. let gone = so.goes told base m fits in record { next = m; settled = refl; run = gone.run; fits = gone.fits };
      stays = λ told base m fits on. (so.goes told base m fits).stays;
      each_table = λ told stands. (so.keeps told stands).each;
      listed = so.listed;
    },
  )

  -- ---- with a limit

  pub limited : (limit : Option ℕ) (taken : List Compaction) (answer : Result (Unit {0}) tables.Refusal) (old new : Store D g) → length taken < unwrap_or limit (2 ^ 64 - 1)
      → CompactedSo true taken answer old new → Compacted limit taken answer old new
  limited None taken answer old new below so = (tt, so)
  limited (Some most) taken answer old new below so =
      (omega (arith, below), subst (λ (called : Bool). CompactedSo called taken answer old new) (sym (lt-ltb (length taken) most below)) so)

  pub stopped : (limit : Option ℕ) (taken : List Compaction) (old new : Store D g) → length taken < 2 ^ 64 - 1 → length taken ≡ unwrap_or limit (2 ^ 64 - 1)
      → CompactedSo false taken (Ok tt) old new → Compacted limit taken (Ok tt) old new
  stopped None taken old new few is so = absurd (omega (arith, few, is))
  stopped (Some most) taken old new few is so =
      (omega (arith, is), subst (λ (called : Bool). CompactedSo called taken (Ok tt) old new) (sym (le-ltb (length taken) most (omega (arith, is)))) so)

-- how many steps are reported
pub written_steps : {W : Type 0} (contents : W → Option (List ℕ)) (old new : W) (count : ℕ) (taken : List Compaction) (r : Result (Unit {0}) Refusal) → length taken ≡ count
    → OnOk r (Appends (contents old) (contents new) (steps_text count)) → OnOk r (Appends (contents old) (contents new) (steps_text (length taken)))
written_steps contents old new count taken r is written = subst (λ (n : ℕ). OnOk r (Appends (contents old) (contents new) (steps_text n))) (sym is) written
