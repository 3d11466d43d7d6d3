-- The answers to a command of a list, by what the device shows.
use Rattle.std.specs.Prelude.{◌≡◌, ◌⊎◌, ◌<◌, ◌||◌, ℕ, Bool, true, false, not, if◌then◌else◌, List, [], ◌∷◌, map, Option, Some, None, Result, Ok, Err, refl}
use Rattle.std.specs.List.{AllByRecursion}
use Rattle.std.proofs.Common.{inl, inr, sym, ap, ◌∙◌, subst, arith}
use Rattle.std.proofs.lemmas.Bool.{or_right, ltb-true}
use Rattle.facts.specs.Checks.{first_some, unless}
use Rattle.sector_dev.specs.Disk.{Image}
use Rattle.segments.specs.declared.run.Run.{Run}
use Rattle.segments.specs.Usages.{same_run}
use Rattle.segments.specs.laws.Usages.{same_itself, among_both}
use Rattle.cells.specs.Cell.{Cell, PlainTable}
use Rattle.cells.specs.Row.{row_of}
use Rattle.values.specs.TableView.{table_of}
use Rattle.ipc_message.specs.declared.fault.Fault.{Fault}
use Rattle.ipc_message.specs.Header.{supported_codes}
use Rattle.ipc_stream.specs.Meaning.{meaning}
use Rattle.query.specs.Query.{PlainQuery}
use Rattle.catalogue.specs.declared.entry.Segment.{Segment}
use Rattle.catalogue.specs.Entries.{PlainEntry, PlainCatalogue, is_entry, page_runs, runs_in_segments, runs_in, runs_of}
use Rattle.catalogue.specs.Edits.{entry_of}
use Rattle.catalogue.specs.View.{catalogue_of}
use Rattle.catalogue.specs.laws.Order.{by_found}
use Rattle.commit.specs.Placing.{is_among}
use Rattle.commit.specs.laws.Fit.{times_some, some_times, all_on}
use Rattle.commit.specs.Standing.{is_on_device, all_on_device}
use Rattle.tables.specs.declared.refusal.Refusal.{Refusal}
use Rattle.tables.specs.declared.refusal.Refusal.TheVariants as refusals
use Rattle.tables.specs.Commands.{PlainCommand, save_as, changed_names}
use Rattle.tables.specs.Verdict.{of_meaning, other_shape, too_many_bytes, unfit_row}
use Rattle.store_runs.specs.Changes.{PlainEdit, put, extend, move, remove, PlainChange}
use Rattle.store_runs.specs.Filling.{has_place, new_in}
use Rattle.store_runs.specs.Steps.{IsNoList}
use Rattle.store_runs.specs.Deciding.{of_entry, Addition, given_rows, rows_of_table, streamed_rows, selected_entry, entry_added, entry_selected, unselected, create_tests, IsSaved, IsNotRead, IsDecided, IsAnswered}
use Rattle.store_changes.specs.declared.new_rows.NewRows.{NewRows}
use Rattle.store_changes.specs.declared.new_rows.NewRows.TheVariants.{Stream, Given, OfTable}
use Rattle.store_changes.specs.Appending.{append_of, added_to, IsAppended}
use Rattle.store_changes.specs.declared.drafting.Draft.{Draft}
use Rattle.store_changes.specs.Draft.{starts_from, HasStream, IsDraft, streams_of}
use Rattle.store_changes.specs.Source.{AreReadable, AreStream, AreInDraft}
use Rattle.store_changes.specs.laws.Decided.{EditsNames, names_edited, stops_refused}
use Rattle.store_changes.specs.laws.Drafting.{IsLine}
use Rattle.store_changes.specs.laws.LineEdits.{found_has}
use Rattle.store_changes.specs.laws.SameReads.{Agree, not_read_alike, added_alike, saved_alike}

-- ---- new rows are for the entry that they were tested for

given_own : (o : Option Refusal) (e : PlainEntry) (rows : List (List Cell)) (x : Addition) → unless o (Ok (record { entry = e; rows = rows })) ≡ Ok x → x.entry ≡ e
given_own None e rows x is = let same : record { entry = e; rows = rows } ≡ x = cc is in sym (ap (λ (y : Addition). y.entry) same)
given_own (Some r) e rows x is = absurd (cc is)

table_own : (o : Option Refusal) (e : PlainEntry) (table : PlainTable) (x : Addition) → unless o (given_rows table.rows e) ≡ Ok x → x.entry ≡ e
table_own None e table x is = given_own (unfit_row e.schema table.rows) e table.rows x is
table_own (Some r) e table x is = absurd (cc is)

means_own : (m : Result PlainTable Fault) (e : PlainEntry) (x : Addition) → of_meaning m (rows_of_table e) ≡ Ok x → x.entry ≡ e
means_own (Err fault) e x is = absurd (cc is)
means_own (Ok table) e x is = table_own (other_shape e.schema table.schema) e table x is

stream_own : (o : Option Refusal) (m : Result PlainTable Fault) (e : PlainEntry) (x : Addition) → unless o (of_meaning m (rows_of_table e)) ≡ Ok x → x.entry ≡ e
stream_own None m e x is = means_own m e x is
stream_own (Some r) m e x is = absurd (cc is)

added_own : (new : NewRows) (e : PlainEntry) (x : Addition) → added_to new e ≡ Ok x → x.entry ≡ e
added_own (Stream bytes) e x is = stream_own (too_many_bytes bytes.items) (meaning supported_codes bytes.items) e x is
added_own (Given rows) e x is = given_own (unfit_row e.schema (map row_of rows.items)) e (map row_of rows.items) x is
added_own (OfTable new) e x is = given_own (unfit_row e.schema (table_of new.table).rows) e (table_of new.table).rows x is

entry_own : (tested : Result Addition Refusal) (e : PlainEntry) → ((x : Addition) → tested ≡ Ok x → x.entry ≡ e) → (y : PlainEntry) → entry_added tested ≡ Some y → y ≡ e
entry_own (Err r) e own y is = absurd (cc is)
entry_own (Ok x) e own y is = let same : x.entry ≡ y = cc is in sym same ∙ own x refl

selected_own : (o : Option Refusal) (e : PlainEntry) (x : PlainEntry) → unless o (Ok e) ≡ Ok x → x ≡ e
selected_own None e x is = let same : e ≡ x = cc is in sym same
selected_own (Some r) e x is = absurd (cc is)

chosen_own : (tested : Result PlainEntry Refusal) (e : PlainEntry) → ((x : PlainEntry) → tested ≡ Ok x → x ≡ e) → (y : PlainEntry) → entry_selected tested ≡ Some y → y ≡ e
chosen_own (Err r) e own y is = absurd (cc is)
chosen_own (Ok x) e own y is = let same : x ≡ y = cc is in sym same ∙ own x refl

-- ---- the segments of an entry are on the device as before, or in the streams

among_entry : (c : PlainCatalogue) (name : List ℕ) (e : PlainEntry) (run : Run) → entry_of c name ≡ Some e → is_among (runs_in_segments e.segments) run ≡ true → is_among (runs_of c) run ≡ true
among_entry [] name e run there is = absurd (cc there)
among_entry (x ∷ xs) name e run there is =
    by_found x xs name e there
    (λ t same.
    let own : is_among (runs_in_segments x.segments) run ≡ true = ap (λ (y : PlainEntry). is_among (runs_in_segments y.segments) run) same ∙ is in
    among_both (runs_in x) (runs_of xs) run ∙ ap (λ (b : Bool). b || is_among (runs_of xs) run) (among_both (page_runs x.page) (runs_in_segments x.segments) run ∙ or_right (is_among (page_runs x.page) run) (is_among (runs_in_segments x.segments) run) own))
    (λ f found. among_both (runs_in x) (runs_of xs) run ∙ or_right (is_among (runs_in x) run) (is_among (runs_of xs) run) (among_entry xs name e run found is))

module _ (size : ℕ) (d : Draft) (is : IsDraft d) (begins : d.from ≡ size) (placed : all_on_device size (runs_of (catalogue_of d.old)) ≡ true) where
  abbrev made : PlainCatalogue
  made = catalogue_of d.made

  abbrev streams : List (List ℕ)
  streams = streams_of d

  old_on_device : (name : List ℕ) (e : PlainEntry) (run : Run) → entry_of made name ≡ Some e → is_among (runs_in_segments e.segments) run ≡ true → run.start < d.from → is_on_device size run ≡ true
  old_on_device name e run there among low =
      let some = times_some (runs_of made) run (among_entry made name e run there among) in
      let all = is.drafted.runs run low in
      all_on size (runs_of (catalogue_of d.old)) run placed (some_times (runs_of (catalogue_of d.old)) run (omega (arith, some, all)))

  in_streams : (g : Segment) → HasStream (starts_from d.from streams) streams g → AreStream d.from streams g.place
  in_streams g has = record { at = has.place; stream = has.stream; starts = has.starts_at; is = has.is; size = has.size }

  each_readable : (gs : List Segment) → ((run : Run) → is_among (runs_in_segments gs) run ≡ true → run.start < d.from → is_on_device size run ≡ true)
      → AllByRecursion (HasStream (starts_from d.from streams) streams) (new_in d.from gs) → AreReadable (AreInDraft size d) gs
  each_readable [] old have = tt
  each_readable (g ∷ gs) old have =
      by_place (has_place d.from g) refl have
      (λ rest. each_readable gs (λ other among low. old other (or_right (same_run g.place.run other) (is_among (runs_in_segments gs) other) among) low) rest)
    where
      by_place : (b : Bool) → has_place d.from g ≡ b → AllByRecursion (HasStream (starts_from d.from streams) streams) (if not b then g ∷ new_in d.from gs else new_in d.from gs)
          → (AllByRecursion (HasStream (starts_from d.from streams) streams) (new_in d.from gs) → AreReadable (AreInDraft size d) gs) → AreReadable (AreInDraft size d) (g ∷ gs)
      by_place true low have later =
          let on = old g.place.run (ap (λ (b : Bool). b || is_among (runs_in_segments gs) g.place.run) (same_itself g.place.run)) (ltb-true g.place.run.start d.from low) in
          (record { draft = is; begins = begins; lie = inl on }, later have)
      by_place false high have later = (record { draft = is; begins = begins; lie = inr (in_streams g have.0) }, later have.1)

  pub drafted_readable : (name : List ℕ) (e : PlainEntry) → entry_of made name ≡ Some e → AreReadable (AreInDraft size d) e.segments
  drafted_readable name e there =
      each_readable e.segments (λ run among low. old_on_device name e run there among low)
      (found_has (λ (x : PlainEntry). AllByRecursion (HasStream (starts_from d.from streams) streams) (new_in d.from x.segments)) made name e is.drafted.kept there)

-- ---- a command of a list

module _ (tells : Bool) (shown over : Image) (c : PlainCatalogue) (name : List ℕ) (e : PlainEntry) (there : entry_of c name ≡ Some e) where
  -- rows for a table that is read
  appended_alike : (new : NewRows) (d : Result PlainChange Refusal) → is_entry e ≡ true → (tells ≡ true → Agree shown over e.segments) → IsAppended tells shown name (added_to new e) d → IsAppended tells over name (added_to new e) d
  appended_alike new d sound same (inl memory) = inl memory
  appended_alike new d sound same (inr (inl not)) = inr (inl (not_read_alike shown over tells (entry_added (added_to new e)) e d (entry_own (added_to new e) e (added_own new e)) sound same not))
  appended_alike new d sound same (inr (inr is)) = inr (inr (added_alike shown over tells name (added_to new e) e d (added_own new e) sound same is))

  answered_at : (new : NewRows) (d : Result PlainChange Refusal) → IsAppended tells over name (added_to new e) d → IsAnswered tells over c (append_of name new) d
  answered_at (Stream bytes) d is = subst (λ (o : Option PlainEntry). IsAppended tells over name (of_entry o (streamed_rows bytes.items)) d) (sym there) is
  answered_at (Given rows) d is = subst (λ (o : Option PlainEntry). IsAppended tells over name (of_entry o (given_rows (map row_of rows.items))) d) (sym there) is
  answered_at (OfTable new) d is = subst (λ (o : Option PlainEntry). IsAppended tells over name (of_entry o (given_rows (table_of new.table).rows)) d) (sym there) is

  pub append_read : (new : NewRows) (d : Result PlainChange Refusal) → is_entry e ≡ true → (tells ≡ true → Agree shown over e.segments) → IsAppended tells shown name (added_to new e) d → IsAnswered tells over c (append_of name new) d
  append_read new d sound same is = answered_at new d (appended_alike new d sound same is)

  -- a query on a table that is read
  module _ (to : List ℕ) (query : PlainQuery) where
    abbrev tested : Result PlainEntry Refusal
    tested = selected_entry c to query e

    tested_own : (x : PlainEntry) → tested ≡ Ok x → x ≡ e
    tested_own x is = selected_own (first_some (unselected e.schema query ∷ create_tests c to ∷ [])) e x is

    abbrev Saved : Image → Result PlainEntry Refusal → Result PlainChange Refusal → Type 0
    Saved image test d = (d ≡ Err refusals.OutOfMemory) ⊎ IsNotRead tells image (entry_selected test) d ⊎ IsSaved tells image to query test d

    pub save_read : (d : Result PlainChange Refusal) → is_entry e ≡ true → (tells ≡ true → Agree shown over e.segments) → Saved shown tested d → IsAnswered tells over c (save_as name to query) d
    save_read d sound same is = subst (λ (o : Option PlainEntry). Saved over (of_entry o (selected_entry c to query)) d) (sym there) (alike is)
      where
        alike : Saved shown tested d → Saved over tested d
        alike (inl memory) = inl memory
        alike (inr (inl not)) = inr (inl (not_read_alike shown over tells (entry_selected tested) e d (chosen_own tested e tested_own) sound same not))
        alike (inr (inr done)) = inr (inr (saved_alike shown over tells to query tested e d tested_own sound same done))

-- a change that a command of a list makes was decided
pub line_decided : (tells : Bool) (image : Image) (c : PlainCatalogue) (command : PlainCommand) (change : PlainChange) → IsAnswered tells image c command (Ok change) → IsDecided tells image c command (Ok change)
line_decided tells image c command change (inl memory) = absurd (cc memory)
line_decided tells image c command change (inr (inl stops)) = let fails = stops_refused tells image c command (Ok change) stops in let is = fails.1 in absurd (cc is)
line_decided tells image c command change (inr (inr is)) = is

edits_line : (names : List (List ℕ)) (edit : PlainEdit) → EditsNames names edit → IsLine edit
edits_line names (put name schema) edits = tt
edits_line names (extend name) edits = tt
edits_line names (move from to) edits = tt
edits_line names (remove name) edits = tt
edits_line names _ edits = absurd edits

pub line_edits : (tells : Bool) (image : Image) (c : PlainCatalogue) (command : PlainCommand) (change : PlainChange) → IsNoList command → IsAnswered tells image c command (Ok change) → IsLine change.edit
line_edits tells image c command change single is = edits_line (changed_names command) change.edit (names_edited tells image c command change single (line_decided tells image c command change is))
