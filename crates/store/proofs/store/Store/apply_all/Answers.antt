use Rattle.std.specs.Vec.Iter.{into_iter_items}
use Rattle.std.proofs.Common.{◌≡◌, ◌++◌, ◌∷◌, [], ℕ, Bool, Some, Err, List, map, length, Result, refl, sym, ap, ◌∙◌, subst, arith, append_assoc, append-nil}
use Rattle.std.proofs.lemmas.Bool.{true≢false}
use Rattle.std.proofs.lemmas.List.{map-append, length-map, length_push}
use Rattle.sector_dev.specs.Disk.{Image, now, shown_image}
use Rattle.catalogue.specs.Entries.{PlainCatalogue}
use Rattle.catalogue.specs.laws.Kept.{catalogue_is}
use Rattle.tables.specs.declared.command.Command.{Command}
use Rattle.tables.specs.declared.refusal.Refusal.{Refusal}
use Rattle.tables.specs.Commands.{PlainCommand, BringsTables, commands_of}
use Rattle.tables.specs.View.{command_of, list_of}
use Rattle.store_runs.specs.Calls.{PlainReply, apply_call, counted, refused}
use Rattle.store_runs.specs.Deciding.{any_reads_device}
use Rattle.store_runs.specs.Held.{tables_held}
use Rattle.store_runs.specs.Machine.{tables_now}
use Rattle.store_runs.specs.Reading.{ended}
use Rattle.store_changes.specs.Verdicts.{IsRefusedAt}
use Rattle.store_changes.specs.laws.Leading.{refusal_answered}
use Rattle.store.specs.declared.applying_all.ListRefusal.{ListRefusal}
use Rattle.store.specs.Answering.{Applies}
use Rattle.store.specs.Applying.{GoesOn}
use Rattle.store.specs.Fits.{setting_of, listed_in}
use Rattle.store.specs.Lists.{refusal_at, ended_by, refusal_of, NamesLine}
use Rattle.store.specs.Transactions.{Drafts}
use Rattle.store.proofs.AllApplied.{reads_alike, applies_first, names_line, whole_line, single_commands, goes_refused}
use Rattle.store.proofs.Asked.{is_running}
use Rattle.store.proofs.Begun.{reads_after}
use Rattle.store.proofs.Listed.{none_in_front, within, ends_in_front, refusal_of_at, reply_at, refuses_at}
use Rattle.store.proofs.ReadsStore.{shown}
use Rattle.store.proofs.store.Store.apply_all.Goals as goal

-- ---- they are not begun

pub returns-in-Err-clause-goes : goal.returns-in-Err-clause-goes
returns-in-Err-clause-goes g c = λ told base m fits. (c.in-Err.ensures.refused (map command_of c.args.commands.items)).goes told base m fits

pub returns-in-Err-clause-applies : goal.returns-in-Err-clause-applies
returns-in-Err-clause-applies g c = (c.in-Err.ensures.refused (map command_of c.args.commands.items)).applies

pub returns-in-Err-clause-count : goal.returns-in-Err-clause-count
returns-in-Err-clause-count g c = (c.in-Err.ensures.refused (map command_of c.args.commands.items)).count

pub loop-command-init : goal.loop-command-init
loop-command-init g c = record {
  next = tt;
  ends = tt;
  drafts = c.in-Ok.ensures.drafts;
  place = omega arith;
  parts = c.into_iter-command-iterator.ensures.into_iter_gives.0;
}

-- ---- one more

pub add-requires : goal.add-requires
add-requires g c = record { first = c.args.self.now; commands = map command_of c.loop-command.yielded; drafts = c.loop-command.invariant.drafts }

pub overflow_add-place : goal.overflow_add-place
overflow_add-place g c =
    let here = c.loop-command.invariant.place in
    let few = within c.loop-command.yielded c.in-Some.command (into_iter_items c.next.new.self) c.args.commands.items (ap (λ (cs : List Command). c.loop-command.yielded ++ cs) (sym c.in-Some.ensures.steps.0) ∙ c.loop-command.invariant.parts) in
    let count = c.args.commands.ok.0 in
    let most = c.args.commands.ok.1 in
    let small = c.args.commands.small in
    omega (arith, here, few, count, most, small)

pub loop-command-preserved : goal.loop-command-preserved
loop-command-preserved g c =
    let D = g.D.SectorDevice in
    let first = c.args.self.now in
    let so_far = c.loop-command.yielded in
    let command = c.in-Some.command in
    let was = c.loop-command.invariant in
    record {
      next = tt;
      ends = tt;
      drafts = subst (λ (cs : List PlainCommand). Drafts D.size D.story D.failed D.tells first c.add.new.self c.in-Ok-add.next cs) (sym (map-append command_of so_far (command ∷ [])))
          (c.in-Ok-add.ensures.drafts first (map command_of so_far) was.drafts);
      place = let here = was.place in let more = length_push so_far command in omega (arith, here, more);
      parts = append_assoc so_far (command ∷ []) (into_iter_items c.next.new.self) ∙ ap (λ (cs : List Command). so_far ++ cs) (sym c.in-Some.ensures.steps.0) ∙ was.parts;
    }

-- ---- one is refused

-- the list is refused for it, also with the commands behind it
module _ (tells : Bool) (image : Image) (c : PlainCatalogue) (front : List Command) (x : Command) (rest all : List Command) (place : ℕ) (r : Refusal) (here : place ≡ length front) (parts : front ++ x ∷ rest ≡ all)
    (is : IsRefusedAt tells image c (map command_of front ++ command_of x ∷ []) (length (map command_of front)) r) where
  refused_there : IsRefusedAt tells image c (map command_of all) place r
  refused_there =
      let whole : map command_of front ++ command_of x ∷ map command_of rest ≡ map command_of all = sym (map-append command_of front (x ∷ rest)) ∙ ap (map command_of) parts in
      let count : length (map command_of front) ≡ place = length-map front command_of ∙ sym here in
      subst (λ (n : ℕ). IsRefusedAt tells image c (map command_of all) n r) count
      (subst (λ (cs : List PlainCommand). IsRefusedAt tells image c cs (length (map command_of front)) r) whole (ends_in_front tells image c (map command_of front) (command_of x) (map command_of rest) r is))

pub returns-in-Err-add-clause-goes : goal.returns-in-Err-add-clause-goes
returns-in-Err-add-clause-goes g c = λ told base m fits.
    let D = g.D.SectorDevice in
    let first = c.args.self.now in
    let new = c.add.new.self in
    let was = c.loop-command.invariant in
    let r = c.in-Err-add.refusal in
    let commands = map command_of c.args.commands.items in
    let parts = ap (λ (cs : List Command). c.loop-command.yielded ++ cs) (sym c.in-Some.ensures.steps.0) ∙ was.parts in
    let image = shown_image (now (D.story first.device)) in
    let is = refused_there D.tells image (listed_in first) c.loop-command.yielded c.in-Some.command (into_iter_items c.next.new.self) c.args.commands.items c.loop-command.place r was.place parts
    (c.in-Err-add.ensures.told first (map command_of c.loop-command.yielded) was.drafts) in
    let runs = is_running m.phase first.halted fits.phase was.drafts.on in
    let t = tables_now (setting_of (D.size first.device) base) m in
    let held : tables_held image (listed_in first) ≡ Some t = ap (λ i. tables_held i (listed_in first)) (shown D.size D.story D.failed base m D.tells told first new fits runs) ∙ (fits.sound runs).tables in
    let brings = subst (λ (cs : List Command). BringsTables (list_of cs)) c.deref.ensures.value c.lists_bring_tables.ensures in
    let reads = reads_after D.size D.story D.failed D.tells (refused r) first c.loop-command.self new was.drafts.reads c.in-Err-add.ensures.reads in
    subst (λ (e : ListRefusal). GoesOn D.size D.story D.failed base m (apply_call (list_of c.args.commands.items)) (ended_by e) first new) (sym c.list_refusal.ensures)
    (goes_refused D.size D.story D.failed base m D.tells told first new was.drafts.on fits image commands (refusal_at c.loop-command.place r) (refuses_at D.tells image (listed_in first) commands c.loop-command.place r is)
    (λ place q at. c.decisions_are_verdicts.ensures.at_line image (listed_in first) t commands place q (catalogue_is (listed_in first) first.opened.catalogue.list.kept) held brings (single_commands c.args.commands.items) at)
    (reads_alike D.size D.story D.failed D.tells first new (refused r) (ended_by (refusal_at c.loop-command.place r)) (sym (reply_at c.loop-command.place r)) reads))

pub returns-in-Err-add-clause-applies : goal.returns-in-Err-add-clause-applies
returns-in-Err-add-clause-applies g c =
    let D = g.D.SectorDevice in
    let first = c.args.self.now in
    let new = c.add.new.self in
    let was = c.loop-command.invariant in
    let r = c.in-Err-add.refusal in
    let front = map command_of c.loop-command.yielded in
    let commands = map command_of c.args.commands.items in
    let parts = ap (λ (cs : List Command). c.loop-command.yielded ++ cs) (sym c.in-Some.ensures.steps.0) ∙ was.parts in
    let whole : front ++ command_of c.in-Some.command ∷ map command_of (into_iter_items c.next.new.self) ≡ commands = sym (map-append command_of c.loop-command.yielded (c.in-Some.command ∷ into_iter_items c.next.new.self)) ∙ ap (map command_of) parts in
    let image = shown_image (now (D.story first.device)) in
    let is = refused_there D.tells image (listed_in first) c.loop-command.yielded c.in-Some.command (into_iter_items c.next.new.self) c.args.commands.items c.loop-command.place r was.place parts
    (c.in-Err-add.ensures.told first front was.drafts) in
    let one = (c.in-Err-add.ensures.refused first front was.drafts).applies in
    let same = refusal_of_at (length front) r in
    let reads = reads_after D.size D.story D.failed D.tells (refused r) first c.loop-command.self new was.drafts.reads c.in-Err-add.ensures.reads in
    subst (λ (e : ListRefusal). Applies D.size D.story D.tells first (list_of c.args.commands.items) (Err (refusal_of e)) new) (sym c.list_refusal.ensures)
    (subst (λ (q : Refusal). Applies D.size D.story D.tells first (list_of c.args.commands.items) (Err q) new) (sym (refusal_of_at c.loop-command.place r))
    (applies_first D.size D.story D.failed D.tells first new (list_of c.args.commands.items) r was.drafts.on reads (λ halted. absurd (true≢false (sym (one.halted.0 (ap Err (same ∙ halted))) ∙ was.drafts.on)))
    (refusal_answered D.tells image (listed_in first) commands c.loop-command.place r is)
    (λ device none. one.quiet (λ d. device (sym same ∙ d))
    (none_in_front front (command_of c.in-Some.command) (map command_of (into_iter_items c.next.new.self)) (ap (λ (cs : List PlainCommand). any_reads_device (commands_of cs)) whole ∙ none)))))

pub returns-in-Err-add-clause-line : goal.returns-in-Err-add-clause-line
returns-in-Err-add-clause-line g c =
    let D = g.D.SectorDevice in
    let first = c.args.self.now in
    let was = c.loop-command.invariant in
    let r = c.in-Err-add.refusal in
    let commands = map command_of c.args.commands.items in
    let parts = ap (λ (cs : List Command). c.loop-command.yielded ++ cs) (sym c.in-Some.ensures.steps.0) ∙ was.parts in
    let image = shown_image (now (D.story first.device)) in
    let is = refused_there D.tells image (listed_in first) c.loop-command.yielded c.in-Some.command (into_iter_items c.next.new.self) c.args.commands.items c.loop-command.place r was.place parts
    (c.in-Err-add.ensures.told first (map command_of c.loop-command.yielded) was.drafts) in
    subst (NamesLine D.tells image (listed_in first) commands) (sym c.list_refusal.ensures)
    (names_line D.tells image (listed_in first) commands (refusal_at c.loop-command.place r) (refuses_at D.tells image (listed_in first) commands c.loop-command.place r is))

pub returns-in-Err-add-clause-size : goal.returns-in-Err-add-clause-size
returns-in-Err-add-clause-size g c = c.in-Err-add.ensures.reads.device.same ∙ c.loop-command.invariant.drafts.reads.device.same

pub returns-in-Err-add-clause-count : goal.returns-in-Err-add-clause-count
returns-in-Err-add-clause-count g c =
    let D = g.D.SectorDevice in
    let first = c.args.self.now in
    let new = c.add.new.self in
    let was = c.loop-command.invariant in
    let r = c.in-Err-add.refusal in
    let reads = reads_after D.size D.story D.failed D.tells (refused r) first c.loop-command.self new was.drafts.reads c.in-Err-add.ensures.reads in
    subst (λ (e : ListRefusal). D.failed new.device ≡ counted (ended_by e) (D.failed first.device)) (sym c.list_refusal.ensures)
    (reads_alike D.size D.story D.failed D.tells first new (refused r) (ended_by (refusal_at c.loop-command.place r)) (sym (reply_at c.loop-command.place r)) reads).device.count

-- ---- all are accepted

none_left : {A : Type 0} (xs : List A) → length xs ≡ 0 → xs ≡ []
none_left [] is = refl
none_left (x ∷ xs) is = absurd (omega (arith, is))

all_yielded : (front rest all : List Command) → front ++ rest ≡ all → rest ≡ [] → front ≡ all
all_yielded front rest all parts none = sym (append-nil front) ∙ ap (λ (cs : List Command). front ++ cs) (sym none) ∙ parts

pub returns-clause-goes : goal.returns-clause-goes
returns-clause-goes g c = λ told base m fits.
    let D = g.D.SectorDevice in
    let first = c.args.self.now in
    let was = c.loop-command.invariant in
    subst (λ (r : PlainReply). GoesOn D.size D.story D.failed base m (apply_call (list_of c.args.commands.items)) r first c.commit.new.self) (sym c.as_whole.ensures.reply)
    (subst (λ (cs : List Command). GoesOn D.size D.story D.failed base m (apply_call (list_of cs)) (ended c.commit.result) first c.commit.new.self) (all_yielded c.loop-command.yielded (into_iter_items c.loop-command.command-iterator) c.args.commands.items was.parts (none_left _ (sym c.loop-command.command-iterator.rest.ok.0 ∙ c.in-None.ensures.steps.0)))
    (c.commit.ensures.goes first (map command_of c.loop-command.yielded) was.drafts told base m fits))

pub returns-clause-applies : goal.returns-clause-applies
returns-clause-applies g c =
    let D = g.D.SectorDevice in
    let first = c.args.self.now in
    let was = c.loop-command.invariant in
    subst (λ (r : Result (Unit {0}) Refusal). Applies D.size D.story D.tells first (list_of c.args.commands.items) r c.commit.new.self) (sym c.as_whole.ensures.one)
    (subst (λ (cs : List Command). Applies D.size D.story D.tells first (list_of cs) c.commit.result c.commit.new.self) (all_yielded c.loop-command.yielded (into_iter_items c.loop-command.command-iterator) c.args.commands.items was.parts (none_left _ (sym c.loop-command.command-iterator.rest.ok.0 ∙ c.in-None.ensures.steps.0)))
    (c.commit.ensures.applies first (map command_of c.loop-command.yielded) was.drafts))

pub returns-clause-line : goal.returns-clause-line
returns-clause-line g c =
    let D = g.D.SectorDevice in
    let old = c.args.self.now in
    whole_line D.tells (shown_image (now (D.story old.device))) (listed_in old) (map command_of c.args.commands.items) c.as_whole.result c.as_whole.ensures.no_line

pub returns-clause-size : goal.returns-clause-size
returns-clause-size g c = c.commit.ensures.size ∙ c.loop-command.invariant.drafts.reads.device.same

pub returns-clause-count : goal.returns-clause-count
returns-clause-count g c =
    let D = g.D.SectorDevice in
    let failed = D.failed c.args.self.now.device in
    c.commit.ensures.count ∙ ap (counted (ended c.commit.result)) c.loop-command.invariant.drafts.reads.device.count ∙ ap (λ (r : PlainReply). counted r failed) (sym c.as_whole.ensures.reply)
