-- What is decided by the catalogue, as its tests go.
use Rattle.std.specs.List.{Contains}
use Rattle.std.proofs.Common.{◌≡◌, ◌++◌, arith, ℕ, Bool, true, List, [], ◌∷◌, Option, Some, None, Result, Ok, Err, inl, inr, refl, sym, ap, subst}
use Rattle.facts.specs.Checks.{unless}
use Rattle.sector_dev.specs.Disk.{Image}
use Rattle.arrow_schema.specs.Column.{PlainSchema}
use Rattle.cells.specs.Cell.{PlainTable}
use Rattle.ipc_message.specs.declared.fault.Fault.{Fault}
use Rattle.ipc_message.specs.declared.error.ImportError.{ImportError}
use Rattle.ipc_message.specs.declared.error.ImportError.TheVariants as imports
use Rattle.ipc_message.specs.Header.{supported_codes}
use Rattle.ipc_message.specs.Outcome.{Fails}
use Rattle.ipc_stream.specs.Meaning.{meaning}
use Rattle.catalogue.specs.Entries.{PlainCatalogue}
use Rattle.tables.specs.declared.refusal.Refusal.{Refusal}
use Rattle.tables.specs.declared.refusal.Refusal.TheVariants as refusals
use Rattle.tables.specs.declared.refusal.Limit.TheVariants as limits
use Rattle.tables.specs.Commands.{PlainCommand, create, import_stream, rename, append_stream, append_rows, save_as, drop_table, all_of, PlainCommands, no_command, and_command, changed_names}
use Rattle.tables.specs.Refusals.{import_refusal}
use Rattle.tables.specs.Verdict.{of_meaning, of_query, import_tests, too_heavy}
use Rattle.store_runs.specs.Changes.{PlainEdit, put, extend, move, remove, rebuild, PlainChange, rows_under, IsOfCatalogue}
use Rattle.catalogue.specs.Edits.{entry_of}
use Rattle.catalogue.specs.Entries.{PlainEntry}
use Rattle.query.specs.Bound.{SelectionRefusal}
use Rattle.query.specs.Query.{PlainQuery}
use Rattle.query.specs.Selection.{selection}
use Rattle.store_runs.specs.Steps.{IsNoList}
use Rattle.store_runs.specs.Deciding.{missing_in, full_in, create_tests, rename_tests, names_changed, pieces_put, decided_table, of_entry, Addition, given_rows, streamed_rows, selected_entry, IsAdded, IsSaved, Leaves, IsDecided, IsDecidedInTurn, Stops, StopsInTurn, IsAnswered}

-- ---- commands that bring no rows

pub create_answers : (tells : Bool) (image : Image) (c : PlainCatalogue) (name : List ℕ) (schema : PlainSchema) (o : Option Refusal) → create_tests c name ≡ o
    → IsAnswered tells image c (create name schema) (unless o (Ok (names_changed (put name schema))))
create_answers tells image c name schema o h = inr (inr (ap (λ (x : Option Refusal). unless x (Ok (names_changed (put name schema)))) (sym h)))

pub rename_answers : (tells : Bool) (image : Image) (c : PlainCatalogue) (from to : List ℕ) (o : Option Refusal) → rename_tests c from to ≡ o
    → IsAnswered tells image c (rename from to) (unless o (Ok (names_changed (move from to))))
rename_answers tells image c from to o h = inr (inr (ap (λ (x : Option Refusal). unless x (Ok (names_changed (move from to)))) (sym h)))

pub drop_answers : (tells : Bool) (image : Image) (c : PlainCatalogue) (name : List ℕ) (o : Option Refusal) → missing_in c name ≡ o → IsAnswered tells image c (drop_table name) (unless o (Ok (names_changed (remove name))))
drop_answers tells image c name o h = inr (inr (ap (λ (x : Option Refusal). unless x (Ok (names_changed (remove name)))) (sym h)))

-- ---- import

module _ (tells : Bool) (image : Image) (c : PlainCatalogue) (name bytes : List ℕ) where
  pub import_answers : (o : Option Refusal) (m : Result PlainTable Fault) → import_tests name bytes ≡ o → meaning supported_codes bytes ≡ m
      → IsAnswered tells image c (import_stream name bytes) (unless o (of_meaning m (decided_table c name)))
  import_answers o m tested means = inr (inr (λ i. unless (sym tested i) (of_meaning (sym means i) (decided_table c name))))

  pub failed_answers : (e : ImportError) → import_tests name bytes ≡ None → Fails e (meaning supported_codes bytes) → IsAnswered tells image c (import_stream name bytes) (Err (import_refusal e))
  failed_answers imports.OutOfMemory tested fails = inl refl
  failed_answers (imports.Fault fault) tested fails = import_answers None (Err fault) tested fails

  pub table_answers : (table : PlainTable) (o : Option Refusal) → import_tests name bytes ≡ None → meaning supported_codes bytes ≡ Ok table → full_in c name ≡ o
      → IsAnswered tells image c (import_stream name bytes) (unless o (Ok (pieces_put (put name table.schema) table)))
  table_answers table o tested means room =
      inr (inr (λ i. unless (sym tested i) (of_meaning (sym means i) (λ t. unless (sym room i) (Ok (pieces_put (put name t.schema) t))))))

-- ---- what was answered

-- what ends a decision before it is made is a refusal
mutual
  pub stops_refused : (tells : Bool) (image : Image) (c : PlainCatalogue) (command : PlainCommand) (answer : Result PlainChange Refusal) → Stops tells image c command answer → (r : Refusal) × (answer ≡ Err r)
  stops_refused tells image c (all_of cs) answer stops = in_turn_refused tells stops.0 image c cs answer stops.2
  stops_refused tells image c _ answer stops = (stops.refusal, stops.told)

  in_turn_refused : (tells : Bool) (next : ℕ) (image : Image) (c : PlainCatalogue) (cs : PlainCommands) (answer : Result PlainChange Refusal) → StopsInTurn tells next image c cs answer → (r : Refusal) × (answer ≡ Err r)
  in_turn_refused tells next image c no_command answer stops = absurd stops
  in_turn_refused tells next image c (and_command x xs) answer (inl stops) = stops_refused tells image c x answer stops
  in_turn_refused tells next image c (and_command x xs) answer (inr (change, is, inl told)) = (refusals.TooMany limits.Segments, told.0)
  in_turn_refused tells next image c (and_command x xs) answer (inr (change, is, inr (next', image', c', leaves, more))) = in_turn_refused tells next' image' c' xs answer more

-- an answer that is a change is what is decided
pub is_change : (tells : Bool) (image : Image) (c : PlainCatalogue) (command : PlainCommand) (change : PlainChange) → tells ≡ true → IsAnswered tells image c command (Ok change)
    → IsDecided true image c command (Ok change)
is_change tells image c command change told (inl memory) = absurd (cc memory)
is_change tells image c command change told (inr (inl stops)) = let fails = stops_refused tells image c command (Ok change) stops in let both = fails.1 in absurd (cc both)
is_change tells image c command change told (inr (inr decided)) = subst (λ (b : Bool). IsDecided b image c command (Ok change)) told decided

-- ---- the catalogue of an edit

-- the edit of a command that is no list changes tables of these names alone
abbrev pub EditsNames : List (List ℕ) → PlainEdit → Type 0
EditsNames names (put name schema) = Contains names name
EditsNames names (extend name) = Contains names name
EditsNames names (move from to) = Contains names to
EditsNames names (remove name) = Unit {0}
EditsNames names _ = ⊥

of_names : (names : List (List ℕ)) (c : PlainCatalogue) (edit : PlainEdit) → EditsNames names edit → IsOfCatalogue c edit
of_names names c (rebuild old from made gone) edits = absurd edits
of_names names c _ edits = tt

its_own : (name : List ℕ) → Contains (name ∷ []) name
its_own name = (0, omega arith, refl)

module _ (names : List (List ℕ)) where
  -- the change behind a test
  tested_edits : (o : Option Refusal) (r : Result PlainChange Refusal) (change : PlainChange) → (r ≡ Ok change → EditsNames names change.edit) → unless o r ≡ Ok change → EditsNames names change.edit
  tested_edits None r change edits is = edits is
  tested_edits (Some e) r change edits is = absurd (cc is)

  same_edits : (made change : PlainChange) → EditsNames names made.edit → ◌≡◌ {A = Result PlainChange Refusal} (Ok made) (Ok change) → EditsNames names change.edit
  same_edits made change edits is = let same : made ≡ change = cc is in subst (λ (x : PlainChange). EditsNames names x.edit) same edits

  means_edits : (c : PlainCatalogue) (name : List ℕ) (m : Result PlainTable Fault) (change : PlainChange) → Contains names name → of_meaning m (decided_table c name) ≡ Ok change → EditsNames names change.edit
  means_edits c name (Err fault) change own is = absurd (cc is)
  means_edits c name (Ok table) change own is = tested_edits (full_in c name) (Ok (pieces_put (put name table.schema) table)) change (same_edits (pieces_put (put name table.schema) table) change own) is

  added_edits : (tells : Bool) (image : Image) (name : List ℕ) (tested : Result Addition Refusal) (change : PlainChange) → Contains names name → IsAdded tells image name tested (Ok change) → EditsNames names change.edit
  added_edits tells image name (Err r) change own is = absurd (cc is)
  added_edits tells image name (Ok a) change own (inr (light, is)) = same_edits (pieces_put (extend name) (rows_under a.entry.schema a.rows)) change own (sym is)
  added_edits tells image name (Ok a) change own (inl (standing, read, is)) =
      let made = pieces_put (extend name) (rows_under a.entry.schema a.rows) in
      tested_edits (too_heavy a.entry.schema (standing.rows ++ a.rows)) (Ok made) change (same_edits made change own) (sym is)

  selected_edits : (to : List ℕ) (s : Result PlainTable SelectionRefusal) (change : PlainChange) → Contains names to → of_query s (λ (table : PlainTable). Ok (pieces_put (put to table.schema) table)) ≡ Ok change → EditsNames names change.edit
  selected_edits to (Err r) change own is = absurd (cc is)
  selected_edits to (Ok table) change own is = same_edits (pieces_put (put to table.schema) table) change own is

  saved_edits : (tells : Bool) (image : Image) (to : List ℕ) (query : PlainQuery) (tested : Result PlainEntry Refusal) (change : PlainChange) → Contains names to → IsSaved tells image to query tested (Ok change) → EditsNames names change.edit
  saved_edits tells image to query (Err r) change own is = absurd (cc is)
  saved_edits tells image to query (Ok e) change own (standing, read, is) = selected_edits to (selection standing query) change own (sym is)

-- a command that is no list edits its own names
pub names_edited : (tells : Bool) (image : Image) (c : PlainCatalogue) (command : PlainCommand) (change : PlainChange) → IsNoList command → IsDecided tells image c command (Ok change) → EditsNames (changed_names command) change.edit
names_edited tells image c (create name schema) change single is =
    tested_edits (name ∷ []) (create_tests c name) (Ok (names_changed (put name schema))) change (same_edits (name ∷ []) (names_changed (put name schema)) change (its_own name)) (sym is)
names_edited tells image c (import_stream name bytes) change single is =
    tested_edits (name ∷ []) (import_tests name bytes) (of_meaning (meaning supported_codes bytes) (decided_table c name)) change (means_edits (name ∷ []) c name (meaning supported_codes bytes) change (its_own name)) (sym is)
names_edited tells image c (append_stream name bytes) change single is = added_edits (name ∷ []) tells image name (of_entry (entry_of c name) (streamed_rows bytes)) change (its_own name) is
names_edited tells image c (append_rows name rows) change single is = added_edits (name ∷ []) tells image name (of_entry (entry_of c name) (given_rows rows)) change (its_own name) is
names_edited tells image c (save_as from to query) change single is = saved_edits (to ∷ []) tells image to query (of_entry (entry_of c from) (selected_entry c to query)) change (its_own to) is
names_edited tells image c (rename from to) change single is =
    tested_edits (from ∷ to ∷ []) (rename_tests c from to) (Ok (names_changed (move from to))) change (same_edits (from ∷ to ∷ []) (names_changed (move from to)) change (1, omega arith, refl)) (sym is)
names_edited tells image c (drop_table name) change single is =
    tested_edits (name ∷ []) (missing_in c name) (Ok (names_changed (remove name))) change (same_edits (name ∷ []) (names_changed (remove name)) change tt) (sym is)
names_edited tells image c (all_of cs) change single is = absurd single

-- what is decided behind the first command of a list
abbrev Following : (tells : Bool) (from : ℕ) (old : PlainCatalogue) (next : ℕ) → Image → PlainCatalogue → PlainCommands → Result PlainChange Refusal → Result PlainChange Refusal → Type 0
Following tells from old next image c xs d (Err r) = d ≡ Err r
Following tells from old next image c xs d (Ok first) =
    (next' : ℕ) × (image' : Image) × (c' : PlainCatalogue) × Leaves next image c first next' image' c' × IsDecidedInTurn tells from old next' image' c' xs d

-- the rest of a list rebuilds the old catalogue
in_turn_of : (tells : Bool) (from : ℕ) (old : PlainCatalogue) (next : ℕ) (image : Image) (c : PlainCatalogue) (cs : PlainCommands) (change : PlainChange) → IsDecidedInTurn tells from old next image c cs (Ok change)
    → IsOfCatalogue old change.edit
in_turn_of tells from old next image c no_command change (made, whole, is) =
    let same : change ≡ made = cc is in
    subst (λ (x : PlainChange). IsOfCatalogue old x.edit) (sym same) (subst (IsOfCatalogue old) (sym whole.edit) refl)
in_turn_of tells from old next image c (and_command x xs) change (one, decides, rest) = by_first one rest (λ next' image' c' more. in_turn_of tells from old next' image' c' xs change more)
  where
    by_first : (d : Result PlainChange Refusal) → Following tells from old next image c xs (Ok change) d
        → ((next' : ℕ) (image' : Image) (c' : PlainCatalogue) → IsDecidedInTurn tells from old next' image' c' xs (Ok change) → IsOfCatalogue old change.edit) → IsOfCatalogue old change.edit
    by_first (Err r) is later = absurd (cc is)
    by_first (Ok first) (next', image', c', leaves, more) later = later next' image' c' more

-- a change that was decided was decided for this catalogue
pub of_decided : (image : Image) (c : PlainCatalogue) (command : PlainCommand) (change : PlainChange) → IsDecided true image c command (Ok change) → IsOfCatalogue c change.edit
of_decided image c (all_of cs) change is = in_turn_of true is.0 c is.0 image c cs change is.2
of_decided image c (create name schema) change is = of_names (changed_names (create name schema)) c change.edit (names_edited true image c (create name schema) change tt is)
of_decided image c (import_stream name bytes) change is = of_names (changed_names (import_stream name bytes)) c change.edit (names_edited true image c (import_stream name bytes) change tt is)
of_decided image c (append_stream name bytes) change is = of_names (changed_names (append_stream name bytes)) c change.edit (names_edited true image c (append_stream name bytes) change tt is)
of_decided image c (append_rows name rows) change is = of_names (changed_names (append_rows name rows)) c change.edit (names_edited true image c (append_rows name rows) change tt is)
of_decided image c (save_as from to query) change is = of_names (changed_names (save_as from to query)) c change.edit (names_edited true image c (save_as from to query) change tt is)
of_decided image c (rename from to) change is = of_names (changed_names (rename from to)) c change.edit (names_edited true image c (rename from to) change tt is)
of_decided image c (drop_table name) change is = of_names (changed_names (drop_table name)) c change.edit (names_edited true image c (drop_table name) change tt is)
