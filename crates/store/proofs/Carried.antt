-- A command in the words of the machine, from what publishing promises.
use Rattle.std.specs.Prelude.{None, ◌≡◌, ◌≢◌, ◌%◌, ℕ, true, List, [], ◌∷◌, ◌++◌, Ok, Err, IsOk, is_ok, refl}
use Rattle.std.proofs.Common.{inl, inr, ⊎_elim, sym, ap, ◌∙◌, subst, arith}
use Rattle.std.proofs.lemmas.Nat.{mod_below}
use Rattle.sector_dev.specs.Disk.{Disk, Story, Image, now, synced_image}
use Rattle.sector_dev.specs.declared.device.SectorDevice.{Ghosts}
use Rattle.sector_dev.specs.Time.{Grows, LeavesOnly}
use Rattle.sector_dev.specs.laws.Time.{weaken, stays}
use Rattle.segments.specs.declared.run.Run.{Run}
use Rattle.segments.specs.Pieces.{plain_pieces}
use Rattle.segments.specs.Runs.{OutOf}
use Rattle.segments.specs.Usages.{Space, IsUsedIn}
use Rattle.segments.specs.Writing.{runs_of, HoldsEach}
use Rattle.catalogue.specs.Entries.{PlainCatalogue, runs_of as runs_in}
use Rattle.catalogue.specs.laws.Kept.{catalogue_is}
use Rattle.catalogue.specs.View.{catalogue_of}
use Rattle.commit.specs.declared.sector.Commit.{Commit}
use Rattle.commit.specs.declared.publishing.Plan.{Plan}
use Rattle.commit.specs.Publishing.{IsOutside, IsPublishing}
use Rattle.commit.specs.Replacing.{CanReplace, StandsAs}
use Rattle.commit.specs.Standing.{is_on_device, runs_fault, rules, standing, Stands}
use Rattle.commit.specs.Placing.{Takes, AreShort}
use Rattle.commit.specs.laws.Frame.{above_used}
use Rattle.commit.specs.laws.Taking.{took_takes}
use Rattle.tables.specs.declared.refusal.Refusal.{Refusal}
use Rattle.tables.specs.declared.refusal.Refusal.TheVariants as refusals
use Rattle.tables.specs.declared.refusal.Limit.TheVariants as limits
use Rattle.tables.specs.Refusals.{origin_of}
use Rattle.tables.specs.Tables.{Tables}
use Rattle.tables.specs.Commands.{PlainCommand}
use Rattle.tables.specs.Verdict.{verdict, after}
use Rattle.tables.specs.laws.Steps.{accepted, after_one_more}
use Rattle.pages.specs.declared.stored.StoredCatalogue.{StoredCatalogue}
use Rattle.store_runs.specs.Calls.{apply_call, refused, counted}
use Rattle.store_runs.specs.Machine.{pinned_by, Machine, running, tables_now, Allows, AllowsEach, has_written, SparesKept}
use Rattle.store_runs.specs.Steps.{Step, RefusesFrom}
use Rattle.store_runs.specs.Runs.{Goes}
use Rattle.store_runs.specs.Rooms.{CommandDecides}
use Rattle.pages.specs.Stored.{stored_reading}
use Rattle.store.specs.declared.store.Store.{Store}
use Rattle.store.specs.Fits.{book_of, setting_of, listed_in}
use Rattle.store_runs.specs.Changes.{PlainChange, CanChange, IsChange}
use Rattle.store_changes.specs.OnDisk.{HasCarried, IsOldOrCarried, IsTaking, IsCarrying}
use Rattle.store_runs.specs.Carrying.{IsCarried, IsCarriedOut, asked_sizes}
use Rattle.store_changes.specs.Prepared.{IsPrepared}
use Rattle.store.proofs.Asked.{not_less}
use Rattle.store_changes.specs.laws.Prepared.{runs_are, placed_is, streams_held, can_replace}
use Rattle.export_book.specs.Book.{runs_kept}
use Rattle.store.proofs.Roomed.{room_by}

uncounted : (r : Refusal) (failed : ℕ) → r ≢ refusals.Device → failed ≡ counted (refused r) failed
uncounted refusals.Device failed other = absurd (other refl)
uncounted _ failed other = refl

module _ (size : ℕ) (base : Tables) (m : Machine) (c : PlainCommand) (new : Tables) (on : m.phase ≡ running) (makes : verdict (tables_now (setting_of size base) m) c ≡ Ok new) where
  pub is_accepted : IsOk (verdict (tables_now (setting_of size base) m) c)
  is_accepted = ap is_ok makes

  -- the command makes these tables
  pub new_after : new ≡ after base (m.settled ++ c ∷ [])
  new_after = sym (after_one_more base m.settled c ∙ accepted (after base m.settled) new c makes)

  -- ---- refused before anything is written

  module _ (k : Commit) (was : PlainCatalogue) (used : Run → Type 0) (change : PlainChange) where
    refused_step : (s0 : Story) (r : Refusal) → IsCarried size used k was change (Err r) k was → r ≢ refusals.Device → RefusesFrom (origin_of r) (setting_of size base) m c r (has_written (now s0) (now s0)) m
    refused_step s0 (refusals.TooMany limits.Epochs) carried other = (on, is_accepted, (not_less (now s0).writes, refl))
    refused_step s0 (refusals.TooMany limits.Segments) carried other = (on, is_accepted, (not_less (now s0).writes, refl))
    refused_step s0 (refusals.NoRoom count) carried other = (on, is_accepted, (not_less (now s0).writes, refl))
    refused_step s0 refusals.OutOfMemory carried other = (on, (not_less (now s0).writes, refl))
    refused_step s0 refusals.Device carried other = absurd (other refl)
    refused_step s0 _ carried other = absurd carried

    pub refused_goes : (s0 : Story) (failed : ℕ) (r : Refusal) → LeavesOnly (Allows (setting_of size base) m) (now s0) → IsCarried size used k was change (Err r) k was → r ≢ refusals.Device
        → IsCarriedOut size (pinned_by m) (now s0) (now s0) (CommandDecides (now s0) c) (Err r) → Goes (setting_of size base) m (apply_call c) (refused r) s0 s0 failed failed m
    unfolding Step
    refused_goes s0 failed r allows carried other ended = record {
      step = refused_step s0 r carried other;
      moments = stays (AllowsEach (setting_of size base) (apply_call c) (refused r) m (now s0)) s0;
      settles = allows;
      quiet = λ no device. refl;
      counts = uncounted r failed other;
      tells = tt;
      room = room_by (origin_of r) size (pinned_by m) (now s0) (now s0) (CommandDecides (now s0) c) r (λ room. ended);
      spares = λ needs. stays (SparesKept m (now s0)) s0;
      keeps = tt;
    }

-- what the disk holds of a change
module _ (old new : Space) (k : Commit) (was : PlainCatalogue) (change : PlainChange) (plan : Plan StoredCatalogue) (back : List Run) (p : IsPrepared old new k was change plan back)
    (size : ℕ) (same : old.size ≡ size) (sound : IsChange was change) (d : Disk) where
  takes : Takes size (IsUsedIn old.entries) (asked_sizes k.version was change) (Ok (runs_of (p.pieces ++ p.pages) ++ p.run ∷ []))
  takes =
      subst (λ (n : ℕ). Takes n (IsUsedIn old.entries) (asked_sizes k.version was change) (Ok (runs_of (p.pieces ++ p.pages) ++ p.run ∷ []))) same
      (took_takes old.size (IsUsedIn old.entries) (asked_sizes k.version was change) (runs_of (p.pieces ++ p.pages) ++ p.run ∷ []) p.took.took)

  pub has_carried : (image : Image) → StandsAs stored_reading size plan.commit (catalogue_of plan.catalogue.list) image → HoldsEach image (plain_pieces plan.pieces.items)
      → HasCarried size (IsUsedIn old.entries) k was change image
  has_carried image stands holds_each = record {
    places = runs_of (p.pieces ++ p.pages);
    text = p.run;
    takes = takes;
    stands = stands ∙ (λ i. rules (p.commit i) ((p.catalogue ∙ placed_is old new k was change plan back p) i));
    holds = streams_held old new k was change plan back p image sound holds_each;
  }

  old_or_carried : CanReplace stored_reading size d (record { old = k; was = was; new = plan.commit; will = catalogue_of plan.catalogue.list; pieces = plain_pieces plan.pieces.items }) → (x : Disk)
      → IsPublishing d plan.commit (plain_pieces plan.pieces.items) (StandsAs stored_reading size k was) (StandsAs stored_reading size plan.commit (catalogue_of plan.catalogue.list)) x
      → LeavesOnly (IsOldOrCarried size (IsUsedIn old.entries) k was d change) x
  old_or_carried can x is image may =
      let either = is.leaves image may in
      record {
        which = ⊎_elim (λ (stood : StandsAs stored_reading size k was image). inl stood)
            (λ (both : StandsAs stored_reading size plan.commit (catalogue_of plan.catalogue.list) image × HoldsEach image (plain_pieces plan.pieces.items)). inr (has_carried image both.0 both.1)) either.which;
        kept = λ n within. either.outside n (can.free n within, λ e. let above = above_used stored_reading size (synced_image d) k was n can.stands.found within in omega (arith, above, e, mod_below plan.commit.epoch 2 (omega arith)));
      }

  -- the runs of the pieces are those that were taken
  pub taking : (x : Disk) → ((n : ℕ) → IsOutside plan.commit (plain_pieces plan.pieces.items) n → x.at n ≡ d.at n) → IsTaking size (IsUsedIn old.entries) k was d change x
  taking x touches = record {
    runs = runs_of (p.pieces ++ p.pages) ++ p.run ∷ [];
    takes = takes;
    outside = λ n out other. touches n (
      subst (λ (rs : List Run). OutOf rs n) (sym (runs_are old new k was change plan back p)) out,
      λ e. other (e ∙ ap (λ (z : Commit). z.epoch % 2) p.commit),
    );
  }

  carrying : CanReplace stored_reading size d (record { old = k; was = was; new = plan.commit; will = catalogue_of plan.catalogue.list; pieces = plain_pieces plan.pieces.items }) → (x : Disk)
      → IsPublishing d plan.commit (plain_pieces plan.pieces.items) (StandsAs stored_reading size k was) (StandsAs stored_reading size plan.commit (catalogue_of plan.catalogue.list)) x
      → IsCarrying size (IsUsedIn old.entries) k was d change x
  carrying can x is = record { touches = inr (taking x is.touches); begun = is.begun; leaves = old_or_carried can x is }

-- what stands on the disk is what the store has then
pub stands_then : (size size' : ℕ) (image : Image) (k k' : Commit) (list list' : StoredCatalogue) → size' ≡ size → k' ≡ k → list' ≡ list → StandsAs stored_reading size k (catalogue_of list.list) image
    → standing stored_reading size' image ≡ rules k' (catalogue_of list'.list)
stands_then size size' image k k' list list' sized same listed stands =
    let number : standing stored_reading size' image ≡ standing stored_reading size image = ap (λ (n : ℕ). standing stored_reading n image) sized in
    let own : rules k (catalogue_of list.list) ≡ rules k' (catalogue_of list'.list) = λ i. rules (sym same i) (catalogue_of (sym listed i).list) in
    number ∙ stands ∙ own

-- ---- of a store

-- it can be changed so, since the streams were made
pub made_change : (c : PlainCatalogue) (change : PlainChange) (streams : List (List ℕ)) → CanChange c change → streams ≡ change.streams → AreShort streams → IsChange c change
made_change c change streams can same short = can (subst (λ (xs : List (List ℕ)). AreShort xs) same short)

-- all of a store that a publishing needs to know
pub can_publish : {D : Type 0} {g : Ghosts D} (s : Store D g) (mid : Space) (change : PlainChange) (plan : Plan StoredCatalogue) (back : List Run)
    → IsPrepared s.opened.map mid s.opened.commit (listed_in s) change plan back → IsChange (listed_in s) change → (d : Disk) → Stands stored_reading (g.size s.device) d s.opened.commit (listed_in s)
    → CanReplace stored_reading (g.size s.device) d (record { old = s.opened.commit; was = listed_in s; new = plan.commit; will = catalogue_of plan.catalogue.list; pieces = plain_pieces plan.pieces.items })
can_publish {g = g} s mid change plan back prep sound d stands =
    let old = s.opened.map in
    let k = s.opened.commit in
    let was = listed_in s in
    let on = subst (λ (n : ℕ). is_on_device n k.catalogue.run ≡ true) (sym s.same) s.placed in
    let fit = subst (λ (n : ℕ). runs_fault n k.catalogue.run (runs_in was) ≡ None) (sym s.same) s.fit in
    subst (λ (n : ℕ). CanReplace stored_reading n d (record { old = k; was = was; new = plan.commit; will = catalogue_of plan.catalogue.list; pieces = plain_pieces plan.pieces.items })) s.same
    (can_replace old mid k was change plan back prep on fit (runs_kept (book_of s).exports) s.uses sound d (catalogue_is was s.opened.catalogue.list.kept) (s.own ∙ sym s.same) (subst (λ (n : ℕ). Stands stored_reading n d k was) (sym s.same) stands))

-- each moment of a publishing
pub carries : {D : Type 0} {g : Ghosts D} (s : Store D g) (mid : Space) (change : PlainChange) (plan : Plan StoredCatalogue) (back : List Run)
    → IsPrepared s.opened.map mid s.opened.commit (listed_in s) change plan back → IsChange (listed_in s) change → (s1 : Story)
    → Stands stored_reading (g.size s.device) (now (g.story s.device)) s.opened.commit (listed_in s)
    → (CanReplace stored_reading (g.size s.device) (now (g.story s.device)) (record { old = s.opened.commit; was = listed_in s; new = plan.commit; will = catalogue_of plan.catalogue.list; pieces = plain_pieces plan.pieces.items })
    → Grows (IsPublishing (now (g.story s.device)) plan.commit (plain_pieces plan.pieces.items) (StandsAs stored_reading (g.size s.device) s.opened.commit (listed_in s)) (StandsAs stored_reading (g.size s.device) plan.commit (catalogue_of plan.catalogue.list)))
    (g.story s.device) s1)
    → Grows (IsCarrying (g.size s.device) (IsUsedIn s.opened.map.entries) s.opened.commit (listed_in s) (now (g.story s.device)) change) (g.story s.device) s1
carries {g = g} s mid change plan back prep sound s1 stands moments =
    let d = now (g.story s.device) in
    let can = can_publish {g = g} s mid change plan back prep sound d stands in
    weaken (carrying s.opened.map mid s.opened.commit (listed_in s) change plan back prep (g.size s.device) s.same sound d can) (moments can)
