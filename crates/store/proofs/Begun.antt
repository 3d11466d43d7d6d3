-- Commands that are accepted one by one: one more, how they are refused, and what they are together.
use Rattle.std.specs.Prelude.{◌≢◌, ◌⊎◌, ◌||◌}
use Rattle.std.specs.List.{AllByRecursion}
use Rattle.std.proofs.Common.{◌≡◌, ◌++◌, ◌∙◌, ℕ, Bool, true, false, List, [], ◌∷◌, length, Some, Ok, Err, inl, refl, sym, ap, subst}
use Rattle.facts.specs.laws.Lists.{all_more}
use Rattle.sector_dev.specs.Disk.{Disk, Story, Image, now, shown_image}
use Rattle.sector_dev.specs.laws.Time.{stays}
use Rattle.sector_dev.specs.declared.device.SectorDevice.{Ghosts}
use Rattle.segments.specs.laws.Usages.{or_false}
use Rattle.catalogue.specs.Entries.{PlainCatalogue, runs_of, IsCatalogue}
use Rattle.catalogue.specs.View.{catalogue_of}
use Rattle.catalogue.specs.laws.Kept.{catalogue_is}
use Rattle.commit.specs.Standing.{all_on_device}
use Rattle.tables.specs.declared.refusal.Refusal.{Refusal}
use Rattle.tables.specs.declared.refusal.Refusal.TheVariants as refusals
use Rattle.tables.specs.Commands.{PlainCommand, all_of, commands_of, BringsTables, EachBringsTables}
use Rattle.tables.specs.Refusals.{origin_of}
use Rattle.tables.specs.Tables.{Tables}
use Rattle.store_runs.specs.Calls.{PlainReply, done, refused, is_device_reply}
use Rattle.store_runs.specs.Changes.{PlainChange}
use Rattle.store_runs.specs.Deciding.{reads_device, IsWhole, IsDecided}
use Rattle.store_runs.specs.Held.{tables_held}
use Rattle.store_runs.specs.Machine.{tables_now}
use Rattle.store_runs.specs.Steps.{IsNoList, RefusesLine}
use Rattle.store_changes.specs.Draft.{laid, streams_of, IsDraft}
use Rattle.store_changes.specs.Verdicts.{EndsAtLine, IsRefusedAt}
use Rattle.store_changes.specs.laws.Leading.{leads_on, leads_to_change, refusal_answered}
use Rattle.store_changes.specs.laws.ReadTables.{reads_more, image_then}
use Rattle.store.specs.declared.applying_all.ListRefusal.TheVariants.{Whole}
use Rattle.store.specs.declared.store.Store.{Store}
use Rattle.store.specs.declared.transacting.Transaction.{Transaction}
use Rattle.store.specs.Answering.{Applies}
use Rattle.store.specs.Fits.{setting_of, listed_in}
use Rattle.store.specs.Lists.{refusal_at, ended_by}
use Rattle.store.specs.Reading.{OnlyReadsStore}
use Rattle.store.specs.Drafted.{KnowsWeight}
use Rattle.store.specs.Transactions.{drafted, Drafts, EndsBehind, RefusesAsOne, RefusesNext}
use Rattle.store.specs.inner.Drafting.{Shows, StepsTo}
use Rattle.store.proofs.AllApplied.{reads_alike, applies_first, applies_halted, names_line, goes_refused}
use Rattle.store.proofs.Applied.{reads_nothing, refuses_halted, refuses_memory}
use Rattle.store.proofs.Asked.{is_running}
use Rattle.store.proofs.Listed.{none_more, ends_there, refusal_of_at, reply_at, refuses_at}
use Rattle.store.proofs.ReadsStore.{shown}

-- one command more that brings its tables
brings_more : (xs : List PlainCommand) (x : PlainCommand) → EachBringsTables (commands_of xs) → BringsTables x → EachBringsTables (commands_of (xs ++ x ∷ []))
brings_more [] x each own = (own, tt)
brings_more (y ∷ ys) x (first, each) own = (first, brings_more ys x each own)

-- reads, and then a call that only reads
pub reads_after : {D : Type 0} {g : Ghosts D} (size : D → ℕ) (story : D → Story) (failed : D → ℕ) (tells : Bool) (reply : PlainReply) (a b c : Store D g) → OnlyReadsStore size story failed tells done a b → OnlyReadsStore size story failed tells reply b c
    → OnlyReadsStore size story failed tells reply a c
reads_after size story failed tells reply a b c first second = record {
  device = reads_more size story failed tells reply a.device b.device c.device first.device second.device;
  kept = second.kept ∙ first.kept;
  book = second.book ∙ first.book;
  halts = second.halts ∙ ap (λ (h : Bool). h || is_device_reply reply) (first.halts ∙ or_false a.halted);
}

-- a store that was only read without a failure is halted as before
pub still_on : {D : Type 0} {g : Ghosts D} (size : D → ℕ) (story : D → Story) (failed : D → ℕ) (tells : Bool) (a b : Store D g) → a.halted ≡ false → OnlyReadsStore size story failed tells done a b → b.halted ≡ false
still_on size story failed tells a b on reads = reads.halts ∙ or_false a.halted ∙ on

-- ---- those that are not begun

module _ {D : Type 0} {g : Ghosts D} (size : D → ℕ) (story : D → Story) (failed : D → ℕ) (tells : Bool) (store : Store D g) (commands : List PlainCommand) where
  pub halted_refuses : store.halted ≡ true → RefusesAsOne size story failed tells store commands (Whole refusals.Halted) store
  halted_refuses off = record {
    goes = λ told base m fits. refuses_halted size story failed base m (all_of (commands_of commands)) store off fits;
    applies = applies_halted size story tells store (all_of (commands_of commands)) off;
    line = tt;
    unwritten = λ told. stays (λ (d : Disk). d ≡ now (story store.device)) (story store.device);
    same = refl;
    count = refl;
  }

  pub memory_refuses : store.halted ≡ false → RefusesAsOne size story failed tells store commands (Whole refusals.OutOfMemory) store
  memory_refuses on =
      let reads : OnlyReadsStore size story failed tells (refused refusals.OutOfMemory) store store = reads_nothing size story failed tells (refused refusals.OutOfMemory) store refl in
      record {
        goes = λ told base m fits. refuses_memory size story failed base m (all_of (commands_of commands)) tells told store store on fits reads;
        applies = applies_first size story failed tells store store (all_of (commands_of commands)) refusals.OutOfMemory on reads (λ is. cc is) (inl refl) (λ device plain. refl);
        line = tt;
        unwritten = reads.device.moments;
        same = refl;
        count = refl;
      }

-- ---- those that are

module _ {D : Type 0} {g : Ghosts D} (size : D → ℕ) (story : D → Story) (failed : D → ℕ) (tells : Bool) (first old : Store D g) (t : Transaction) (commands : List PlainCommand)
    (begun : Drafts size story failed tells first old t commands) where
  abbrev pub shown_first : Image
  shown_first = shown_image (now (story first.device))

  abbrev pub over : Image
  over = laid t.draft.from (streams_of t.draft) shown_first

  pub shows_old : Shows tells (story old.device) shown_first
  shows_old = λ told. sym (image_then (story first.device) (story old.device) (begun.reads.device.moments told))

  -- what is asked of the next command
  pub from_old : t.draft.from ≡ size old.device
  from_old = begun.from ∙ sym begun.reads.device.same

  pub placed_old : all_on_device (size first.device) (runs_of (listed_in first)) ≡ true → all_on_device (size old.device) (runs_of (catalogue_of t.draft.old)) ≡ true
  placed_old placed =
      subst (λ (n : ℕ). all_on_device n (runs_of (catalogue_of t.draft.old)) ≡ true) (sym begun.reads.device.same)
      (subst (λ (c : PlainCatalogue). all_on_device (size first.device) (runs_of c) ≡ true) (sym begun.old) placed)

  pub old_on : old.halted ≡ false
  old_on = still_on size story failed tells first old begun.on begun.reads

  -- one more
  pub drafts_more : (x : PlainCommand) (new : Store D g) (next : Transaction) → IsNoList x → BringsTables x → OnlyReadsStore size story failed tells done old new → (reads_device x ≡ false → story new.device ≡ story old.device)
      → IsDraft next.draft → (next.draft.from ≡ t.draft.from) × (catalogue_of next.draft.old ≡ catalogue_of t.draft.old) → StepsTo tells shown_first t.draft x next.draft
      → KnowsWeight tells shown_first next.draft next.weighed → Drafts size story failed tells first new next (commands ++ x ∷ [])
  drafts_more x new next single brings reads still draft same step weighed = record {
    on = begun.on;
    before = begun.before;
    reads = reads_after size story failed tells done first old new begun.reads reads;
    still = λ none. let both = none_more commands x none in still both.1 ∙ begun.still both.0;
    single = all_more IsNoList commands x begun.single single;
    brings = brings_more commands x begun.brings brings;
    draft = draft;
    from = same.0 ∙ begun.from;
    old = same.1 ∙ begun.old;
    leads = leads_on tells (size first.device) shown_first (listed_in first) commands t.draft.next over (drafted t) x step.0 next.draft.next (laid next.draft.from (streams_of next.draft) shown_first) (drafted next) begun.leads step.1 step.2;
    weighed = weighed;
  }

  -- where they end
  pub ends_behind : (x : PlainCommand) (r : Refusal) → EndsAtLine tells t.draft.next over (drafted t) x r → EndsBehind story tells first commands x r
  ends_behind x r ends = ends_there tells shown_first (listed_in first) (size first.device) commands t.draft.next over (drafted t) x r begun.before begun.leads ends

  -- and how they are refused; `law` is `at_line` of `decisions_are_verdicts`
  module _ (law : (image : Image) (c : PlainCatalogue) (u : Tables) (cs : List PlainCommand) (place : ℕ) (r : Refusal) → IsCatalogue c → tables_held image c ≡ Some u → EachBringsTables (commands_of cs) → AllByRecursion IsNoList cs
      → IsRefusedAt true image c cs place r → (r ≡ refusals.OutOfMemory) ⊎ (r ≡ refusals.Device) ⊎ RefusesLine (origin_of r) u (all_of (commands_of cs)) place r)
      (x : PlainCommand) (r : Refusal) (new : Store D g) (single : IsNoList x) (brings : BringsTables x) (other : r ≢ refusals.Halted) (is : EndsBehind story tells first commands x r)
      (reads : OnlyReadsStore size story failed tells (refused r) old new) (still : reads_device x ≡ false → story new.device ≡ story old.device) where
    abbrev all : List PlainCommand
    all = commands ++ x ∷ []

    reads_first : OnlyReadsStore size story failed tells (refused r) first new
    reads_first = reads_after size story failed tells (refused r) first old new begun.reads reads

    reads_list : OnlyReadsStore size story failed tells (ended_by (refusal_at (length commands) r)) first new
    reads_list = reads_alike size story failed tells first new (refused r) (ended_by (refusal_at (length commands) r)) (sym (reply_at (length commands) r)) reads_first

    pub refuses_next : RefusesNext size story failed tells first commands x r new
    refuses_next = record {
      goes = λ told base m fits.
          let runs = is_running m.phase first.halted fits.phase begun.on in
          let held : tables_held shown_first (listed_in first) ≡ Some (tables_now (setting_of (size first.device) base) m) = ap (λ i. tables_held i (listed_in first)) (shown size story failed base m tells told first new fits runs) ∙ (fits.sound runs).tables in
          goes_refused size story failed base m tells told first new begun.on fits shown_first all (refusal_at (length commands) r) (refuses_at tells shown_first (listed_in first) all (length commands) r is)
          (λ place q at. law shown_first (listed_in first) (tables_now (setting_of (size first.device) base) m) all place q (catalogue_is (listed_in first) first.opened.catalogue.list.kept) held (brings_more commands x begun.brings brings) (all_more IsNoList commands x begun.single single) at) reads_list;
      applies = subst (λ (q : Refusal). Applies size story tells first (all_of (commands_of all)) (Err q) new) (sym (refusal_of_at (length commands) r))
          (applies_first size story failed tells first new (all_of (commands_of all)) r begun.on reads_first other (refusal_answered tells shown_first (listed_in first) all (length commands) r is)
          (λ device none. let both = none_more commands x none in still both.1 ∙ begun.still both.0));
      line = names_line tells shown_first (listed_in first) all (refusal_at (length commands) r) (refuses_at tells shown_first (listed_in first) all (length commands) r is);
      unwritten = reads_first.device.moments;
      same = reads_first.device.same;
      count = reads_list.device.count;
    }

  -- ---- what they are together

  pub decided_all : (change : PlainChange) → IsWhole t.draft.from (catalogue_of t.draft.old) over (drafted t) change → IsDecided tells shown_first (listed_in first) (all_of (commands_of commands)) (Ok change)
  decided_all change whole =
      leads_to_change tells (size first.device) shown_first (listed_in first) commands t.draft.next over (drafted t) change begun.before begun.leads
      (subst (λ (n : ℕ). IsWhole n (listed_in first) over (drafted t) change) begun.from (subst (λ (c : PlainCatalogue). IsWhole t.draft.from c over (drafted t) change) begun.old whole))
