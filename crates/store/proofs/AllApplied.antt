-- Several commands as one are decided, and then the change is carried out, or they are refused.
use Rattle.std.specs.Prelude.{◌≢◌, ◌↔◌, ◌||◌, ◌⊎◌, ◌+◌, ◌-◌, ◌^◌, min, if◌then◌else◌, IfErr, OnOk}
use Rattle.std.specs.List.{AllByRecursion}
use Rattle.std.proofs.Common.{◌≡◌, ℕ, Bool, true, false, List, [], ◌∷◌, map, Result, Ok, Err, inl, inr, refl, sym, ap, ◌∙◌, subst}
use Rattle.std.proofs.lemmas.Bool.{true≢false}
use Rattle.std.proofs.lemmas.Result.{IfErr-weaker, on_ok_weaker}
use Rattle.sector_dev.specs.Disk.{Disk, Story, Image, now, shown_image}
use Rattle.sector_dev.specs.declared.device.SectorDevice.{Ghosts}
use Rattle.sector_dev.specs.laws.Time.{stays}
use Rattle.sector_dev.specs.Time.{OnlyReads}
use Rattle.catalogue.specs.Entries.{PlainCatalogue}
use Rattle.tables.specs.declared.refusal.Refusal.{Refusal}
use Rattle.tables.specs.declared.refusal.Refusal.TheVariants as refusals
use Rattle.tables.specs.declared.command.Command.{Command}
use Rattle.tables.specs.Commands.{PlainCommand, all_of, commands_of}
use Rattle.tables.specs.Refusals.{origin_of}
use Rattle.tables.specs.Tables.{Tables}
use Rattle.tables.specs.View.{command_of}
use Rattle.store.specs.declared.store.Store.{Store}
use Rattle.store_runs.specs.Machine.{Machine, tables_now}
use Rattle.store_runs.specs.Steps.{IsNoList, RefusesLine}
use Rattle.store_runs.specs.Calls.{apply_call, PlainReply, done, refused, refused_at, is_failure, is_device_reply}
use Rattle.store_runs.specs.Changes.{PlainChange}
use Rattle.store_runs.specs.Deciding.{reads_device, IsDecided, IsAnswered}
use Rattle.store_changes.specs.Verdicts.{IsRefusedAt}
use Rattle.store_changes.specs.laws.Leading.{refusal_answered}
use Rattle.store.specs.declared.applying_all.ListRefusal.{ListRefusal}
use Rattle.store.specs.declared.applying_all.ListRefusal.TheVariants.{At, Whole}
use Rattle.store.specs.Answering.{Applies}
use Rattle.store.specs.Applying.{GoesOn, EndsAs, IsKept, IsCarryingAtEachMoment, IsCarriedOnDisk}
use Rattle.store.specs.Fits.{setting_of, StoreFits, book_of, listed_in, IsOnDisk}
use Rattle.store.specs.Lists.{refusal_of, ended_by, RefusesList, NamesLine}
use Rattle.store.specs.Reading.{OnlyReadsStore}
use Rattle.store.proofs.Applied.{single_command, refuses_line, refuses_memory, refuses_device, is_device, ends_after, kept_after, on_disk_after, decided_after, stood, writes_after, written_after, read_kept, read_halts}
use Rattle.store.proofs.Goings.{command_writes, command_written}

-- ---- the reply

-- a refusal that names a place is no failure of the device
abbrev pub NamesNoFailure : ListRefusal → Type 0
NamesNoFailure (At place r) = is_failure r ≡ false
NamesNoFailure (Whole r) = Unit {0}

pub no_failure : (tells : Bool) (image : Image) (c : PlainCatalogue) (commands : List PlainCommand) (e : ListRefusal) → RefusesList tells image c commands e → NamesNoFailure e
no_failure tells image c commands (At place r) why = by_test (is_failure r) refl
  where
    by_test : (b : Bool) → is_failure r ≡ b → b ≡ false
    by_test false is = refl
    by_test true is = absurd (why.0 (is_device r is))
no_failure tells image c commands (Whole r) why = tt

same_reply : (e : ListRefusal) → NamesNoFailure e → is_device_reply (ended_by e) ≡ is_device_reply (refused (refusal_of e))
same_reply (At place r) quiet = sym quiet
same_reply (Whole r) quiet = refl

module _ {D : Type 0} {g : Ghosts D} (size : D → ℕ) (story : D → Story) (failed : D → ℕ) (tells : Bool) (old new : Store D g) where
  -- reads with one reply are reads with another one that also fails, or also does not
  pub reads_alike : (a b : PlainReply) → is_device_reply a ≡ is_device_reply b → OnlyReadsStore size story failed tells a old new → OnlyReadsStore size story failed tells b old new
  reads_alike a b same reads = record {
    device = record { same = reads.device.same; moments = reads.device.moments; count = subst (λ (t : Bool). failed new.device ≡ (if t then min (failed old.device + 1) (2 ^ 64 - 1) else failed old.device)) same reads.device.count };
    kept = reads.kept;
    book = reads.book;
    halts = reads.halts ∙ ap (λ (t : Bool). old.halted || t) same;
  }

  pub reads_one : (e : ListRefusal) → NamesNoFailure e → OnlyReadsStore size story failed tells (ended_by e) old new → OnlyReadsStore size story failed tells (refused (refusal_of e)) old new
  reads_one e quiet reads = reads_alike (ended_by e) (refused (refusal_of e)) (same_reply e quiet) reads

  -- ---- what is refused before anything is written

  pub applies_first : (c : PlainCommand) (r : Refusal) → old.halted ≡ false → OnlyReadsStore size story failed tells (refused r) old new → r ≢ refusals.Halted
      → IsAnswered tells (shown_image (now (story old.device))) (listed_in old) c (Err r) → (r ≢ refusals.Device → reads_device c ≡ false → story new.device ≡ story old.device) → Applies size story tells old c (Err r) new
  applies_first c r on reads other answered quiet = record {
    applied = λ off. record { decision = Err r; decides = answered; ends = refl };
    refused = read_kept size story failed tells old new (refused r) reads;
    quiet = quiet;
    reads = λ device told. reads.device.moments told;
    halted = (λ is. absurd (other (cc is)), λ off. absurd (true≢false (sym off ∙ on)));
    still = λ off. absurd (true≢false (sym off ∙ on));
    halts = λ off. read_halts size story failed tells old new r on reads;
    writes = λ off told lies. stood size story failed tells old new (refused r) reads told c lies;
    written = tt;
    book = reads.book;
  }

-- a store that is halted
pub applies_halted : {D : Type 0} {g : Ghosts D} (size : D → ℕ) (story : D → Story) (tells : Bool) (store : Store D g) (c : PlainCommand) → store.halted ≡ true → Applies size story tells store c (Err refusals.Halted) store
applies_halted size story tells store c off = record {
  applied = λ on. absurd (true≢false (sym off ∙ on));
  refused = (refl, refl, λ run. refl);
  quiet = λ other plain. refl;
  reads = λ other told. stays (λ (d : Disk). d ≡ now (story store.device)) (story store.device);
  halted = (λ is. off, λ again. refl);
  still = λ again. refl;
  halts = λ on. absurd (true≢false (sym off ∙ on));
  writes = λ on. absurd (true≢false (sym off ∙ on));
  written = tt;
  book = refl;
}

-- why a list is refused is an answer to it as a command
pub list_answered : (tells : Bool) (image : Image) (c : PlainCatalogue) (commands : List PlainCommand) (e : ListRefusal) → RefusesList tells image c commands e → IsAnswered tells image c (all_of (commands_of commands)) (Err (refusal_of e))
list_answered tells image c commands (At place r) why = refusal_answered tells image c commands place r why.2
list_answered tells image c commands (Whole r) (inl memory) = inl (ap Err memory)
list_answered tells image c commands (Whole r) (inr (device, (place, at))) = refusal_answered tells image c commands place r at

pub names_line : (tells : Bool) (image : Image) (c : PlainCatalogue) (commands : List PlainCommand) (e : ListRefusal) → RefusesList tells image c commands e → NamesLine tells image c commands e
names_line tells image c commands (At place r) why = why.2
names_line tells image c commands (Whole r) why = tt

-- what all commands together are refused for names no line
pub whole_line : {T : Type 0} (tells : Bool) (image : Image) (c : PlainCatalogue) (commands : List PlainCommand) (r : Result T ListRefusal) → IfErr r (λ e. e ≡ Whole (refusal_of e)) → IfErr r (NamesLine tells image c commands)
whole_line tells image c commands (Ok x) is = tt
whole_line tells image c commands (Err e) is = subst (NamesLine tells image c commands) (sym is) tt

-- the commands of the code are no lists
pub single_commands : (commands : List Command) → AllByRecursion IsNoList (map command_of commands)
single_commands [] = tt
single_commands (c ∷ cs) = (single_command c, single_commands cs)

-- ---- on a store that represents a machine

module _ {D : Type 0} {g : Ghosts D} (size : D → ℕ) (story : D → Story) (failed : D → ℕ) (base : Tables) (m : Machine) (tells : Bool) (told : tells ≡ true) (old new : Store D g) (on : old.halted ≡ false) (fits : StoreFits size story base m old)
    (image : Image) (commands : List PlainCommand) where
  abbrev held_now : Tables
  held_now = tables_now (setting_of (size old.device) base) m

  abbrev AtLine : ℕ → Refusal → Type 0
  AtLine place r = (r ≡ refusals.OutOfMemory) ⊎ (r ≡ refusals.Device) ⊎ RefusesLine (origin_of r) held_now (all_of (commands_of commands)) place r

  pub goes_refused : (e : ListRefusal) → RefusesList tells image (listed_in old) commands e → ((place : ℕ) (r : Refusal) → IsRefusedAt true image (listed_in old) commands place r → AtLine place r)
      → OnlyReadsStore size story failed tells (ended_by e) old new → GoesOn size story failed base m (apply_call (all_of (commands_of commands))) (ended_by e) old new
  goes_refused (At place r) why line reads = by_line (line place r (subst (λ (b : Bool). IsRefusedAt b image (listed_in old) commands place r) told why.2))
    where
      by_line : AtLine place r → GoesOn size story failed base m (apply_call (all_of (commands_of commands))) (refused_at place r) old new
      by_line (inl memory) = absurd (why.1 memory)
      by_line (inr (inl device)) = absurd (why.0 device)
      by_line (inr (inr is)) = refuses_line size story failed base m (all_of (commands_of commands)) tells told place r old new on fits reads is
  goes_refused (Whole r) (inl memory) line reads =
      subst (λ (x : Refusal). GoesOn size story failed base m (apply_call (all_of (commands_of commands))) (refused x) old new) (sym memory)
      (refuses_memory size story failed base m (all_of (commands_of commands)) tells told old new on fits (subst (λ (x : Refusal). OnlyReadsStore size story failed tells (refused x) old new) memory reads))
  goes_refused (Whole r) (inr (device, at)) line reads =
      subst (λ (x : Refusal). GoesOn size story failed base m (apply_call (all_of (commands_of commands))) (refused x) old new) (sym device)
      (refuses_device size story failed base m (all_of (commands_of commands)) tells told old new on fits (subst (λ (x : Refusal). OnlyReadsStore size story failed tells (refused x) old new) device reads))

-- ---- what is carried out

never_halted : (r : Result (Unit {0}) Refusal) → IfErr r (λ e. e ≢ refusals.Halted) → r ≢ Err refusals.Halted
never_halted (Ok x) other is = cc is
never_halted (Err e) other is = other (cc is)

module _ {D : Type 0} {g : Ghosts D} (size : D → ℕ) (story : D → Story) (failed : D → ℕ) (tells : Bool) (old mid new : Store D g) (c : PlainCommand) (change : PlainChange) (result : Result (Unit {0}) Refusal) (on : old.halted ≡ false)
    (reads : OnlyReadsStore size story failed tells done old mid) (decided : IsDecided tells (shown_image (now (story old.device))) (listed_in old) c (Ok change)) (still : reads_device c ≡ false → story mid.device ≡ story old.device)
    (carried : EndsAs size mid (Ok change) result new) (halts : (new.halted ≡ true) ↔ (result ≡ Err refusals.Device)) (not_halted : IfErr result (λ e. e ≢ refusals.Halted)) (kept : IfErr result (λ e. IsKept mid new))
    (book : book_of new ≡ book_of mid) (quiet : IfErr result (λ e. e ≢ refusals.Device → story new.device ≡ story mid.device))
    (carries : tells ≡ true → IsOnDisk size story mid → IsCarryingAtEachMoment size story mid change new) (does : OnOk result (tells ≡ true → IsOnDisk size story mid → IsCarriedOnDisk size story mid change new)) where
  told_decided : tells ≡ true → IsDecided true (shown_image (now (story old.device))) (listed_in old) c (Ok change)
  told_decided told = subst (λ (b : Bool). IsDecided b (shown_image (now (story old.device))) (listed_in old) c (Ok change)) told decided

  pub applies_then : Applies size story tells old c result new
  applies_then = record {
    applied = λ off. record { decision = Ok change; decides = inr (inr decided); ends = ends_after size story failed tells old mid done reads (Ok change) result new carried };
    refused = IfErr-weaker result (λ e. IsKept mid new) (λ e. IsKept old new) (λ e is. kept_after size story failed tells old mid done reads new is) kept;
    quiet = IfErr-weaker result (λ e. e ≢ refusals.Device → story new.device ≡ story mid.device) (λ e. e ≢ refusals.Device → reads_device c ≡ false → story new.device ≡ story old.device)
        (λ e is other plain. is other ∙ still plain) quiet;
    reads = IfErr-weaker result (λ e. e ≢ refusals.Device → story new.device ≡ story mid.device) (λ e. e ≢ refusals.Device → tells ≡ true → OnlyReads (story old.device) (story new.device))
        (λ e is other told. subst (λ (s : Story). OnlyReads (story old.device) s) (sym (is other)) (reads.device.moments told)) quiet;
    halted = (λ is. absurd (never_halted result not_halted is), λ off. absurd (true≢false (sym off ∙ on)));
    still = λ off. absurd (true≢false (sym off ∙ on));
    halts = λ off. halts;
    writes = λ off told lies.
        writes_after size story failed tells old mid done reads told c new lies
        (command_writes size story mid new change c (decided_after size story failed tells old mid done reads told c change (told_decided told)) (carries told (on_disk_after size story failed tells old mid done reads told lies)));
    written = on_ok_weaker result
        (λ is told lies.
        written_after size story failed tells old mid done reads told c new
        (command_written size story mid new change c (decided_after size story failed tells old mid done reads told c change (told_decided told)) (is told (on_disk_after size story failed tells old mid done reads told lies)))) does;
    book = book ∙ reads.book;
  }
