-- What is decided by a catalogue is the verdict on the tables that it lists, and what is done are the tables that the verdict says.
use Rattle.std.specs.Prelude.{◌⊎◌, ◌≤◌}
use Rattle.std.proofs.Common.{arith, ◌≡◌, ℕ, true, List, [], ◌∷◌, Option, Some, None, Result, Ok, Err, inl, inr, refl, sym, ap, ◌∙◌, subst}
use Rattle.facts.specs.Bytes.{AreBytes}
use Rattle.facts.specs.Checks.{first_some, unless}
use Rattle.sector_dev.specs.Disk.{Disk, Image, synced_image, shown_image}
use Rattle.segments.specs.declared.entries.UsageEntry.{UsageEntry}
use Rattle.segments.specs.Usages.{IsUsedIn}
use Rattle.arrow_schema.specs.Column.{PlainSchema}
use Rattle.arrow_schema.specs.Limits.{IsWithinLimits}
use Rattle.cells.specs.Cell.{Cell, PlainTable}
use Rattle.values.specs.Table as values
use Rattle.values.specs.Table.{IsTable, table_from}
use Rattle.ipc_message.specs.declared.fault.Fault.{Fault}
use Rattle.ipc_message.specs.Header.{supported_codes}
use Rattle.ipc_stream.specs.Meaning.{meaning}
use Rattle.catalogue.specs.Entries.{PlainEntry, PlainCatalogue, is_entry, runs_of, IsCatalogue}
use Rattle.catalogue.specs.Edits.{entry_of}
use Rattle.catalogue.specs.laws.Changed.{found_passes}
use Rattle.catalogue.specs.laws.Kept.{entry_is}
use Rattle.commit.specs.declared.sector.Commit.{Commit}
use Rattle.commit.specs.Standing.{rules, standing, used_runs, Stands, InSome}
use Rattle.commit.specs.laws.Frame.{rules_found}
use Rattle.tables.specs.declared.refusal.Refusal.{Refusal}
use Rattle.tables.specs.declared.refusal.Refusal.TheVariants as refusals
use Rattle.tables.specs.Commands.{PlainCommand, create, import_stream, append_stream, append_rows, save_as, rename, drop_table, all_of, PlainCommands, no_command, and_command, BringsTables, EachBringsTables}
use Rattle.tables.specs.Tables.{Tables, table_at, with_table, without_table}
use Rattle.tables.specs.Verdict.{import_tests, of_meaning, empty_table, verdict, verdict_in_turn}
use Rattle.store_runs.specs.Machine.{holds}
use Rattle.store_runs.specs.Held.{table_where, table_of_rows, table_held, tables_held, held_tables, held_by}
use Rattle.pages.specs.Stored.{stored_reading}
use Rattle.store_runs.specs.Changes.{PlainEdit, put, move, remove, PlainChange, placed_segments, stream_rows, Makes, MakesOf}
use Rattle.store_runs.specs.Reading.{Unreads}
use Rattle.store_runs.specs.Deciding.{missing_in, full_in, create_tests, rename_tests, names_changed, pieces_put, decided_create, decided_table, of_entry, Addition, given_rows, streamed_rows, unselected, entry_added, entry_selected, entry_read, reads_device, IsNotRead, AreBefore, Leaves, IsDecided, IsDecidedInTurn, IsAnswered}
use Rattle.store_runs.specs.Carrying.{placed, commit_placed}
use Rattle.store_changes.specs.OnDisk.{HasDone}
use Rattle.store_changes.specs.LawsBelow.{LawsBelow, TableLaws}
use Rattle.store_runs.specs.Steps.{IsNoList}
use Rattle.store_changes.specs.Verdicts.{Lists, AreListed, IsVerdict, IsUndecided, HoldsVerdict}
use Rattle.store_changes.specs.laws.InTurn.{over, over_below, sector_before, filled_held, Rebased, stepped, rebased}
use Rattle.store_changes.specs.laws.Quiet.{single_stops}
use Rattle.store_changes.specs.laws.Decided.{of_decided}
use Rattle.store_changes.specs.laws.Changed.{edited_held, placed_held}
use Rattle.store_changes.specs.laws.Frame.{held_is, same_tables}
use Rattle.store_changes.specs.laws.Listed.{held_lists}
use Rattle.store_changes.specs.laws.Named.{entry_has, held_has}
use Rattle.store_changes.proofs.Appended.{given_is, streamed_is, rows_decided, stream_decided}
use Rattle.store_changes.specs.laws.ReadTables.{unread_not_held, damaged_not_held}
use Rattle.store_changes.specs.laws.Synced.{shown_is_synced}
use Rattle.store_changes.proofs.Saved.{saved_decided}
use Rattle.store_changes.specs.laws.Tested.{create_same, rename_by, rename_passed, rename_made, drop_by, drop_made, full_same, import_by, empty_rows}

-- ---- commands that read nothing

-- the last test, before a change
by_test : (t : Tables) (command : PlainCommand) (change : PlainChange) (new : Tables) (o : Option Refusal) → verdict t command ≡ unless o (Ok new) → MakesOf t change new
    → IsVerdict t command (unless o (Ok change))
by_test t command change new (Some r) is makes = is
by_test t command change new None is makes = (new, is, makes)

module _ (c : PlainCatalogue) (t : Tables) (lists : Lists c t) where
  created : (name : List ℕ) (schema : PlainSchema) → IsVerdict t (create name schema) (decided_create c name schema)
  unfolding stream_rows
  created name schema =
      by_test t (create name schema) (names_changed (put name schema)) (with_table t name (empty_table schema)) (create_tests c name) (create_same c t name schema lists)
      (([], refl, empty_rows schema, refl))

  renamed : (from to : List ℕ) (o : Option Refusal) → rename_tests c from to ≡ o → IsVerdict t (rename from to) (unless o (Ok (names_changed (move from to))))
  renamed from to (Some r) h = rename_by c t from to r lists (table_at t from) refl h
  renamed from to None h =
      let made = rename_made c t from to lists (rename_passed c from to h) in
      (with_table (without_table t from) to made.0, made.2, (made.0, made.1, refl))

  dropped : (name : List ℕ) (o : Option Refusal) → missing_in c name ≡ o → IsVerdict t (drop_table name) (unless o (Ok (names_changed (remove name))))
  dropped name (Some r) h = drop_by c t name r lists (table_at t name) refl h
  dropped name None h = (without_table t name, drop_made c t name lists h, refl)

  imported : LawsBelow → (name bytes : List ℕ) → AreBytes bytes → (o : Option Refusal) (m : Result PlainTable Fault) → import_tests name bytes ≡ o → meaning supported_codes bytes ≡ m
      → IsVerdict t (import_stream name bytes) (unless o (of_meaning m (decided_table c name)))
  imported laws name bytes are (Some r) m tested means = import_by t name bytes (Some r) m tested means
  imported laws name bytes are None (Err fault) tested means = import_by t name bytes None (Err fault) tested means
  imported laws name bytes are None (Ok table) tested means =
      let sound = laws.means bytes table are means in
      by_test t (import_stream name bytes) (pieces_put (put name table.schema) table) (with_table t name table) (full_in c name)
      (import_by t name bytes None (Ok table) tested means ∙ ap (λ (o : Option Refusal). unless o (Ok (with_table t name table))) (full_same c t name lists))
      ((table.rows, laws.held table sound, laws.tables.accepted table sound, refl))

-- ---- what is decided

pub decided : LawsBelow → (image : Image) (c : PlainCatalogue) (t : Tables) (command : PlainCommand) (d : Result PlainChange Refusal) → IsNoList command → AreListed image c t → BringsTables command
    → IsDecided true image c command d → IsVerdict t command d
decided laws image c t (create name schema) d single listed brings is = subst (IsVerdict t (create name schema)) (sym is) (created c t listed.lists name schema)
decided laws image c t (import_stream name bytes) d single listed brings is =
    subst (IsVerdict t (import_stream name bytes)) (sym is) (imported c t listed.lists laws name bytes brings (import_tests name bytes) (meaning supported_codes bytes) refl refl)
decided laws image c t (append_stream name bytes) d single listed brings is = stream_decided laws image c t listed name d bytes is
decided laws image c t (append_rows name rows) d single listed brings is = rows_decided laws image c t listed name d rows is
decided laws image c t (save_as from to query) d single listed brings is = saved_decided laws image c t listed from to query d is
decided laws image c t (rename from to) d single listed brings is = subst (IsVerdict t (rename from to)) (sym is) (renamed c t listed.lists from to (rename_tests c from to) refl)
decided laws image c t (drop_table name) d single listed brings is = subst (IsVerdict t (drop_table name)) (sym is) (dropped c t listed.lists name (missing_in c name) refl)
decided laws image c t (all_of cs) d single listed brings is = absurd single

-- ---- the tables that an image holds

made_as : (s : PlainSchema) (rows : List (List Cell)) (table : PlainTable) (made : Result PlainTable values.Refusal) → table_from s rows ≡ made → table_where made ≡ Some table → table_from s rows ≡ Ok table
made_as s rows table (Ok t) made is = let same : t ≡ table = cc is in made ∙ ap Ok same
made_as s rows table (Err refusal) made is = absurd (cc is)

-- what is held of an entry is a table
held_sound : TableLaws → (image : Image) (e : PlainEntry) (table : PlainTable) → IsWithinLimits e.schema → table_held image e ≡ Some table → IsTable table
held_sound laws image e table within is =
    let has = held_has image e table is in
    let made : table_where (table_from e.schema has.0) ≡ Some table = sym (ap (table_of_rows e.schema) has.1) ∙ is in
    (laws.accepts e.schema has.0 table within (made_as e.schema has.0 table (table_from e.schema has.0) refl made)).1

pub are_listed : LawsBelow → (image : Image) (c : PlainCatalogue) (t : Tables) → IsCatalogue c → tables_held image c ≡ Some t → AreListed image c t
are_listed laws image c t catalogue held = record {
  lists = held_lists image c t catalogue held;
  held = λ name e table there own. let has = entry_has image c t held name e there in has.2 ∙ (sym has.1 ∙ own);
  possible = λ name e table there at.
      let has = entry_has image c t held name e there in
      let own : table_held image e ≡ Some table = has.1 ∙ (sym has.2 ∙ at) in
      (held_sound laws.tables image e table (entry_is e (found_passes is_entry c name e catalogue.entries there)).schema own, (image, own));
}

-- ---- several commands

-- what is decided for the commands that are left of a list is their verdict on the tables so far, with the effect on the old ones
abbrev InTurnVerdict : (before now : Tables) → PlainCommands → Result PlainChange Refusal → Type 0
InTurnVerdict before now cs (Ok change) = (u : Tables) × (verdict_in_turn now cs ≡ Ok u) × MakesOf before change u
InTurnVerdict before now cs (Err r) = verdict_in_turn now cs ≡ Err r

refused_first : (t0 t : Tables) (x : PlainCommand) (xs : PlainCommands) (d : Result PlainChange Refusal) (r : Refusal) → verdict t x ≡ Err r → d ≡ Err r → InTurnVerdict t0 t (and_command x xs) d
unfolding verdict
refused_first t0 t x xs d r first says =
    subst (InTurnVerdict t0 t (and_command x xs)) (sym says) (ap (λ (v : Result Tables Refusal). elim v [ Err e ↦ Err e | Ok u ↦ verdict_in_turn u xs ]) first)

accepted_first : (t0 t u : Tables) (x : PlainCommand) (xs : PlainCommands) (d : Result PlainChange Refusal) → verdict t x ≡ Ok u → InTurnVerdict t0 u xs d → InTurnVerdict t0 t (and_command x xs) d
unfolding verdict
accepted_first t0 t u x xs (Ok change) first later = (later.0, ap (λ (v : Result Tables Refusal). elim v [ Err e ↦ Err e | Ok w ↦ verdict_in_turn w xs ]) first ∙ later.1, later.2)
accepted_first t0 t u x xs (Err r) first later = ap (λ (v : Result Tables Refusal). elim v [ Err e ↦ Err e | Ok w ↦ verdict_in_turn w xs ]) first ∙ later

-- what is decided behind the first command of a list
abbrev Following : (from : ℕ) (old : PlainCatalogue) (next : ℕ) → Image → PlainCatalogue → PlainCommands → Result PlainChange Refusal → Result PlainChange Refusal → Type 0
Following from old next image c xs d (Err r) = d ≡ Err r
Following from old next image c xs d (Ok change) =
    (next' : ℕ) × (image' : Image) × (c' : PlainCatalogue) × Leaves next image c change next' image' c' × IsDecidedInTurn true from old next' image' c' xs d

module _ (from : ℕ) (old : PlainCatalogue) (t0 : Tables) (next : ℕ) (image : Image) (c : PlainCatalogue) (t : Tables) (low : from ≤ next) (k : IsCatalogue c) (held : tables_held image c ≡ Some t)
    (so_far : Rebased from old t0 image c t) (d : Result PlainChange Refusal) where
  -- the last command was decided
  whole_is : IsDecidedInTurn true from old next image c no_command d → InTurnVerdict t0 t no_command d
  unfolding verdict
  whole_is (change, whole, is) =
      let makes : MakesOf t0 change t =
      subst (λ (e : PlainEdit). Makes t0 e change.streams change.counts t) (sym whole.edit)
      (λ base segments stood made. filled_held from base image c segments change.streams change.counts k.entries whole.order whole.before made whole.holds ∙ so_far base stood) in
      subst (InTurnVerdict t0 t no_command) (sym is) (t, refl, makes)

  -- one command was decided
  by_first : (x : PlainCommand) (xs : PlainCommands) (one : Result PlainChange Refusal) → IsVerdict t x one
      → Following from old next image c xs d one
      → ((next' : ℕ) (image' : Image) (c' : PlainCatalogue) (u : Tables) → from ≤ next' → IsCatalogue c' → tables_held image' c' ≡ Some u → Rebased from old t0 image' c' u
      → IsDecidedInTurn true from old next' image' c' xs d → InTurnVerdict t0 u xs d) → InTurnVerdict t0 t (and_command x xs) d
  by_first x xs (Err r) says rest later = refused_first t0 t x xs d r says rest
  by_first x xs (Ok change) says (next', image', c', leaves, more) later =
      let onward = leaves.onward in
      accepted_first t0 t says.0 x xs d says.1
      (later next' image' c' says.0 (omega (arith, low, onward)) leaves.stands (stepped from old t0 next image c t change says.0 next' image' c' low k says.2 leaves held)
      (rebased from old t0 next image c t change says.0 next' image' c' low k says.2 leaves so_far) more)

-- a list, as a command
by_list : (t : Tables) (cs : PlainCommands) (d : Result PlainChange Refusal) → InTurnVerdict t t cs d → IsVerdict t (all_of cs) d
unfolding verdict
by_list t cs (Ok change) is = is
by_list t cs (Err r) is = is

-- where a list begins, other images that hold its tables still do
begins : (from : ℕ) (image : Image) (c : PlainCatalogue) (t : Tables) → IsCatalogue c → AreBefore from (runs_of c) → Rebased from c t image c t
begins from image c t k before = λ base is.
    same_tables base (over from base image) c k.entries (λ n within. over_below from base image n (sector_before from (runs_of c) n before within)) ∙ is

mutual
  pub decided_held : (laws : LawsBelow) (image : Image) (c : PlainCatalogue) (t : Tables) (command : PlainCommand) (d : Result PlainChange Refusal) → IsCatalogue c → tables_held image c ≡ Some t → BringsTables command
      → IsDecided true image c command d → IsVerdict t command d
  decided_held laws image c t (all_of cs) d k held brings is =
      by_list t cs d (decided_in_turn laws is.0 c t is.0 image c t cs d (omega arith) k held (begins is.0 image c t k is.1) brings is.2)
  decided_held laws image c t (create name schema) d k held brings is = decided laws image c t (create name schema) d tt (are_listed laws image c t k held) brings is
  decided_held laws image c t (import_stream name bytes) d k held brings is = decided laws image c t (import_stream name bytes) d tt (are_listed laws image c t k held) brings is
  decided_held laws image c t (append_stream name bytes) d k held brings is = decided laws image c t (append_stream name bytes) d tt (are_listed laws image c t k held) brings is
  decided_held laws image c t (append_rows name rows) d k held brings is = decided laws image c t (append_rows name rows) d tt (are_listed laws image c t k held) brings is
  decided_held laws image c t (save_as from to query) d k held brings is = decided laws image c t (save_as from to query) d tt (are_listed laws image c t k held) brings is
  decided_held laws image c t (rename from to) d k held brings is = decided laws image c t (rename from to) d tt (are_listed laws image c t k held) brings is
  decided_held laws image c t (drop_table name) d k held brings is = decided laws image c t (drop_table name) d tt (are_listed laws image c t k held) brings is

  decided_in_turn : (laws : LawsBelow) (from : ℕ) (old : PlainCatalogue) (t0 : Tables) (next : ℕ) (image : Image) (c : PlainCatalogue) (t : Tables) (cs : PlainCommands) (d : Result PlainChange Refusal) → from ≤ next → IsCatalogue c
      → tables_held image c ≡ Some t → Rebased from old t0 image c t → EachBringsTables cs → IsDecidedInTurn true from old next image c cs d → InTurnVerdict t0 t cs d
  decided_in_turn laws from old t0 next image c t no_command d low k held so_far brings is = whole_is from old t0 next image c t low k held so_far d is
  decided_in_turn laws from old t0 next image c t (and_command x xs) d low k held so_far brings is =
      by_first from old t0 next image c t low k held so_far d x xs is.0 (decided_held laws image c t x is.0 k held brings.0 is.1) is.2
      (λ next' image' c' u low' k' held' so_far' more. decided_in_turn laws from old t0 next' image' c' u xs d low' k' held' so_far' brings.1 more)

-- the entry that is read stands in the catalogue
module _ (x : PlainEntry) where
  added_at : (tested : PlainEntry → Result Addition Refusal) → ((e : PlainEntry) (a : Addition) → tested e ≡ Ok a → a.entry ≡ e) → (o : Option PlainEntry) → entry_added (of_entry o tested) ≡ Some x → o ≡ Some x
  added_at tested own None is = absurd (cc is)
  added_at tested own (Some e) is = by_tests (tested e) refl is
    where
      by_tests : (r : Result Addition Refusal) → tested e ≡ r → entry_added r ≡ Some x → Some e ≡ Some x
      by_tests (Err refusal) test h = absurd (cc h)
      by_tests (Ok a) test h = let same : a.entry ≡ x = cc h in ap Some (sym (own e a test) ∙ same)

  selected_at : (tested : PlainEntry → Option Refusal) (o : Option PlainEntry) → entry_selected (of_entry o (λ e. unless (tested e) (Ok e))) ≡ Some x → o ≡ Some x
  selected_at tested None is = absurd (cc is)
  selected_at tested (Some e) is = by_tests (tested e) is
    where
      by_tests : (r : Option Refusal) → entry_selected (unless r (Ok e)) ≡ Some x → Some e ≡ Some x
      by_tests (Some refusal) h = absurd (cc h)
      by_tests None h = h

-- the entry of a name, of a command that reads its table
pub record ReadsAt (c : PlainCatalogue) (command : PlainCommand) (e : PlainEntry) : Type 0 where
  pub name : List ℕ
  pub there : entry_of c name ≡ Some e
  pub reads : reads_device command ≡ true

pub reads_at : (c : PlainCatalogue) (command : PlainCommand) (e : PlainEntry) → entry_read c command ≡ Some e → ReadsAt c command e
reads_at c (append_stream name bytes) e is =
    record { name = name; there = added_at e (streamed_rows bytes) (λ own a test. (streamed_is own bytes a test).entry) (entry_of c name) is; reads = refl }
reads_at c (append_rows name rows) e is =
    record { name = name; there = added_at e (given_rows rows) (λ own a test. (given_is own rows a test).entry) (entry_of c name) is; reads = refl }
reads_at c (save_as from to query) e is = record { name = from; there = selected_at e (λ own. first_some (unselected own.schema query ∷ create_tests c to ∷ [])) (entry_of c from) is; reads = refl }
reads_at c _ e is = absurd (cc is)

-- a table that is held is not read only where the device fails, or memory is refused
module _ (laws : LawsBelow) (image : Image) (c : PlainCatalogue) (t : Tables) (catalogue : IsCatalogue c) (held : tables_held image c ≡ Some t) (name : List ℕ) (e : PlainEntry) (there : entry_of c name ≡ Some e) where
  why_unread : (r : Refusal) → Unreads true image e r → (r ≡ refusals.OutOfMemory) ⊎ (r ≡ refusals.Device)
  why_unread refusals.Device u = inr refl
  why_unread refusals.OutOfMemory u = inl refl
  why_unread (refusals.SegmentUnread place) u =
      let has = entry_has image c t held name e there in
      absurd (unread_not_held laws.tables image e place has.0 (entry_is e (found_passes is_entry c name e catalogue.entries there)).schema (u.1 refl) has.1)
  why_unread (refusals.SegmentDamaged place) u =
      let has = entry_has image c t held name e there in
      absurd (damaged_not_held laws.tables image e place has.0 (entry_is e (found_passes is_entry c name e catalogue.entries there)).schema (u.1 refl) has.1)
  why_unread _ u = absurd u

not_read : LawsBelow → (image : Image) (c : PlainCatalogue) (t : Tables) (command : PlainCommand) (d : Result PlainChange Refusal) → IsCatalogue c → tables_held image c ≡ Some t
    → IsNotRead true image (entry_read c command) d → IsUndecided command d
not_read laws image c t command d catalogue held unread =
    let at = reads_at c command unread.entry unread.tested in
    by_refusal at.reads (why_unread laws image c t catalogue held at.name unread.entry at.there unread.refusal unread.unread)
  where
    by_refusal : reads_device command ≡ true → (unread.refusal ≡ refusals.OutOfMemory) ⊎ (unread.refusal ≡ refusals.Device) → IsUndecided command d
    by_refusal reads (inl memory) = inl (unread.told ∙ ap Err memory)
    by_refusal reads (inr device) = inr (unread.told ∙ ap Err device, reads)

pub answered : LawsBelow → (image : Image) (c : PlainCatalogue) (t : Tables) (command : PlainCommand) (d : Result PlainChange Refusal) → IsNoList command → IsCatalogue c → tables_held image c ≡ Some t → BringsTables command
    → IsAnswered true image c command d → IsUndecided command d ⊎ IsVerdict t command d
answered laws image c t command d single catalogue held brings (inl memory) = inl (inl memory)
answered laws image c t command d single catalogue held brings (inr (inl stops)) = inl (not_read laws image c t command d catalogue held (single_stops true image c command d single stops))
answered laws image c t command d single catalogue held brings (inr (inr is)) = inr (decided laws image c t command d single (are_listed laws image c t catalogue held) brings is)

-- ---- what is done

-- a catalogue that stands was read
pub standing_catalogue : LawsBelow → (size : ℕ) (image : Image) (k : Commit) (c : PlainCatalogue) → standing stored_reading size image ≡ rules k c → IsCatalogue c
standing_catalogue laws size image k c is =
    let found = rules_found stored_reading size image k c is in
    laws.catalogues size image k found.text c found.size_is found.spelled

module _ (laws : LawsBelow) (size : ℕ) (entries : List UsageEntry) (k : Commit) (c : PlainCatalogue) (before : Disk) (t : Tables) (command : PlainCommand) (image : Image)
    (stands : Stands stored_reading size before k c) (held : tables_held (synced_image before) c ≡ Some t) (brings : BringsTables command)
    (kept : (n : ℕ) → InSome (used_runs stored_reading k c) n → image n ≡ (before.at n).synced) where
  catalogue : IsCatalogue c
  catalogue = standing_catalogue laws size (synced_image before) k c stands.found

  -- the tables that stood are there still
  still_held : tables_held image c ≡ Some t
  still_held = same_tables (synced_image before) image c catalogue.entries (λ n within. kept n (inr within)) ∙ held

  pub done_verdict : HasDone size (IsUsedIn entries) k c before command image → HoldsVerdict size image t command
  done_verdict done =
      let shown : tables_held (shown_image before) c ≡ Some t = ap (λ (i : Image). tables_held i c) (shown_is_synced before stands.quiet.shown) ∙ held in
      let says = decided_held laws (shown_image before) c t command (Ok done.change) catalogue shown brings done.decides in
      let segments = placed_segments k.version done.places done.change.streams done.change.counts in
      let edited_is = edited_held image c done.change t says.0 segments catalogue (of_decided (shown_image before) c command done.change done.decides) still_held says.2 done.holds in
      let made = placed_held image k.version c done.change done.places ∙ edited_is in
      (says.0, says.1, held_is size image (commit_placed k c done.change done.text) (placed k.version c done.change done.places) done.stands ∙ ap held_tables made)

  pub left_verdict : (which : (standing stored_reading size image ≡ rules k c) ⊎ HasDone size (IsUsedIn entries) k c before command image)
      → (held_by size image ≡ holds t) ⊎ HoldsVerdict size image t command
  left_verdict (inl stood) = inl (held_is size image k c stood ∙ ap held_tables still_held)
  left_verdict (inr done) = inr (done_verdict done)
