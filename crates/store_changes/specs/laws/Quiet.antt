-- Refusals that tell neither of the device nor that the store is halted: of new rows, and of commands that do not read the device.
use Rattle.std.specs.Prelude.{◌≢◌, ◌⊎◌, ◌&&◌, nat_le, not, length, IfSome, IfErr}
use Rattle.std.specs.List.{AllByRecursion}
use Rattle.std.proofs.Common.{◌≡◌, ℕ, Bool, true, false, List, [], ◌∷◌, map, Option, Some, None, Result, Ok, Err, inl, inr, refl, sym, ap, subst}
use Rattle.facts.specs.Checks.{when, first_some, unless}
use Rattle.sector_dev.specs.Disk.{Image}
use Rattle.arrow_schema.specs.OneShape.{have_one_shape}
use Rattle.cells.specs.Cell.{Cell, PlainTable}
use Rattle.cells.specs.Row.{row_of}
use Rattle.cells.specs.declared.limits.TheConstants.{MAX_TABLE_WEIGHT}
use Rattle.values.specs.Table.{first_unfit}
use Rattle.values.specs.TableView.{table_of}
use Rattle.values.specs.declared.weighed_table.WeighedTable.{WeighedTable}
use Rattle.catalogue.specs.Entries.{PlainEntry, PlainCatalogue, is_name}
use Rattle.catalogue.specs.declared.limits.TheConstants.{MAX_TABLES}
use Rattle.ipc_message.specs.declared.fault.Fault.{Fault}
use Rattle.ipc_message.specs.Header.{supported_codes}
use Rattle.ipc_stream.specs.Meaning.{meaning}
use Rattle.tables.specs.declared.refusal.Limit.TheVariants as limits
use Rattle.tables.specs.declared.refusal.Refusal.{Refusal}
use Rattle.tables.specs.declared.refusal.Refusal.TheVariants as refusals
use Rattle.tables.specs.Commands.{PlainCommand, create, import_stream, append_stream, append_rows, save_as, rename, drop_table, all_of}
use Rattle.tables.specs.Verdict.{bad_name, import_tests, of_meaning, other_shape, too_many_bytes, unfit_row}
use Rattle.store_runs.specs.Calls.{is_failure}
use Rattle.store_changes.specs.declared.change.Change.{Change}
use Rattle.store_runs.specs.Changes.{PlainChange, put, move, remove}
use Rattle.store_runs.specs.Deciding.{Addition, given_rows, rows_of_table, IsAdded, has_entry, missing_in, taken_in, full_in, create_tests, rename_tests, names_changed, pieces_put, decided_table, reads_device, entry_added, entry_read, IsNotRead, IsDecided, Stops, IsAnswered}
use Rattle.store_runs.specs.Steps.{IsNoList}
use Rattle.store_changes.specs.declared.new_rows.NewRows.{NewRows}
use Rattle.store_changes.specs.declared.new_rows.NewRows.TheVariants.{Stream, Given, OfTable}
use Rattle.store_runs.specs.Reading.{Unreads}
use Rattle.store_changes.specs.Appending.{added_to, ArePassed, IsAppended}
use Rattle.store_changes.specs.Tests.{decision_of}

pub record IsQuiet (r : Refusal) : Type 0 where
  pub device : is_failure r ≡ false
  pub halted : r ≢ refusals.Halted

pub memory_quiet : IsQuiet refusals.OutOfMemory
memory_quiet = record { device = refl; halted = λ is. cc is }

by_test : {A : Type 0} (o : Option Refusal) (x : Result A Refusal) (r : Refusal) → IfSome o IsQuiet → ((q : Refusal) → x ≡ Err q → IsQuiet q) → unless o x ≡ Err r → IsQuiet r
by_test (Some q) x r own later is = let same : q ≡ r = cc is in subst IsQuiet same own
by_test None x r own later is = later r is

by_when : (b : Bool) (r : Refusal) → IsQuiet r → IfSome (when b r) IsQuiet
by_when true r quiet = quiet
by_when false r quiet = tt

by_row : (o : Option ℕ) → IfSome (elim o [ None ↦ None | Some i ↦ Some (refusals.RowUnfit i) ]) IsQuiet
by_row None = tt
by_row (Some i) = record { device = refl; halted = λ is. cc is }

of_given : (rows : List (List Cell)) (e : PlainEntry) (r : Refusal) → given_rows rows e ≡ Err r → IsQuiet r
of_given rows e r is = by_test (unfit_row e.schema rows) (Ok (record { entry = e; rows = rows })) r (by_row (first_unfit e.schema rows)) (λ q never. absurd (cc never)) is

of_table : (e : PlainEntry) (t : PlainTable) (r : Refusal) → rows_of_table e t ≡ Err r → IsQuiet r
of_table e t r is =
    by_test (other_shape e.schema t.schema) (given_rows t.rows e) r (by_when (not (have_one_shape e.schema t.schema)) refusals.SchemaMismatch (record { device = refl; halted = λ is. cc is })) (of_given t.rows e) is

of_stream : (m : Result PlainTable Fault) (e : PlainEntry) (r : Refusal) → of_meaning m (rows_of_table e) ≡ Err r → IsQuiet r
of_stream (Err fault) e r is = let same : refusals.Import fault ≡ r = cc is in subst IsQuiet same (record { device = refl; halted = λ is. cc is })
of_stream (Ok t) e r is = of_table e t r is

of_added : (new : NewRows) (e : PlainEntry) (r : Refusal) → added_to new e ≡ Err r → IsQuiet r
of_added (Stream bytes) e r is =
    by_test (too_many_bytes bytes.items) (of_meaning (meaning supported_codes bytes.items) (rows_of_table e)) r (by_when _ (refusals.TooMany limits.Bytes) (record { device = refl; halted = λ is. cc is }))
    (of_stream (meaning supported_codes bytes.items) e) is
of_added (Given rows) e r is = of_given (map row_of rows.items) e r is
of_added (OfTable new) e r is = of_given (table_of new.table).rows e r is

-- why new rows do not pass their tests
module _ (new : NewRows) (e : PlainEntry) (r : Refusal) (why : (r ≡ refusals.OutOfMemory) ⊎ (added_to new e ≡ Err r)) where
  pub passes_quiet : IsQuiet r
  passes_quiet = elim why [ inl is ↦ subst IsQuiet (sym is) memory_quiet | inr is ↦ of_added new e r is ]

  pub passes_told : (tells : Bool) (image : Image) (name : List ℕ) → IsAppended tells image name (added_to new e) (Err r)
  passes_told tells image name =
      elim why [ inl is ↦ inl (ap Err is) | inr is ↦ inr (inr (subst (λ (x : Result Addition Refusal). IsAdded tells image name x (Err r)) (sym is) refl)) ]

-- ---- the weight of rows that are added, and the table that is read for it

pub weight_quiet : (weight : ℕ) (r : Refusal) → when (not (nat_le weight MAX_TABLE_WEIGHT)) (refusals.TooMany limits.Weight) ≡ Some r → IsQuiet r
weight_quiet weight r tested =
    subst (λ (o : Option Refusal). IfSome o IsQuiet) tested (by_when (not (nat_le weight MAX_TABLE_WEIGHT)) (refusals.TooMany limits.Weight) (record { device = refl; halted = λ is. cc is }))

pub unread_told : (tells : Bool) (image : Image) (name : List ℕ) (e : PlainEntry) (tested : Result Addition Refusal) (passed : Option WeighedTable) (r : Refusal) → ArePassed e tested passed → Unreads tells image e r
    → IsAppended tells image name tested (Err r)
unread_told tells image name e tested (Some w) r passed unread = inr (inl (record { entry = e; tested = ap entry_added passed.0; refusal = r; told = refl; unread = unread }))
unread_told tells image name e tested None r passed unread = inr (inl (record { entry = e; tested = ap entry_added passed.1; refusal = r; told = refl; unread = unread }))

-- ---- commands that do not read the device

quietly : {A : Type 0} (o : Option Refusal) (x : Result A Refusal) → IfSome o IsQuiet → IfErr x IsQuiet → IfErr (unless o x) IsQuiet
quietly (Some q) x own later = own
quietly None x own later = later

first_quiet : (os : List (Option Refusal)) → AllByRecursion (λ (o : Option Refusal). IfSome o IsQuiet) os → IfSome (first_some os) IsQuiet
first_quiet [] each = tt
first_quiet (Some q ∷ os) each = each.0
first_quiet (None ∷ os) each = first_quiet os each.1

of_means : {A : Type 0} (m : Result PlainTable Fault) (f : PlainTable → Result A Refusal) → ((t : PlainTable) → IfErr (f t) IsQuiet) → IfErr (of_meaning m f) IsQuiet
of_means (Err fault) f each = record { device = refl; halted = λ is. cc is }
of_means (Ok t) f each = each t

bad_quiet : (name : List ℕ) → IfSome (bad_name name) IsQuiet
bad_quiet name = by_when (not (is_name name)) refusals.BadName (record { device = refl; halted = λ is. cc is })

missing_quiet : (c : PlainCatalogue) (name : List ℕ) → IfSome (missing_in c name) IsQuiet
missing_quiet c name = by_when (not (has_entry c name)) refusals.NoTable (record { device = refl; halted = λ is. cc is })

taken_quiet : (c : PlainCatalogue) (name : List ℕ) → IfSome (taken_in c name) IsQuiet
taken_quiet c name = by_when (has_entry c name) refusals.NameTaken (record { device = refl; halted = λ is. cc is })

full_quiet : (c : PlainCatalogue) (name : List ℕ) → IfSome (full_in c name) IsQuiet
full_quiet c name = by_when (not (has_entry c name) && nat_le MAX_TABLES (length c)) (refusals.TooMany limits.Tables) (record { device = refl; halted = λ is. cc is })

bytes_quiet : (bytes : List ℕ) → IfSome (too_many_bytes bytes) IsQuiet
bytes_quiet bytes = by_when _ (refusals.TooMany limits.Bytes) (record { device = refl; halted = λ is. cc is })

-- what is answered of such a command
module _ (tells : Bool) (image : Image) (c : PlainCatalogue) where
  pub no_entry : (command : PlainCommand) (e : PlainEntry) → reads_device command ≡ false → entry_read c command ≡ Some e → ⊥
  no_entry (append_stream name bytes) e still read = cc still
  no_entry (append_rows name rows) e still read = cc still
  no_entry (save_as from to query) e still read = cc still
  no_entry _ e still read = cc read

  by_decision : (command : PlainCommand) (d : Result PlainChange Refusal) → IsNoList command → reads_device command ≡ false → IsDecided tells image c command d → IfErr d IsQuiet
  by_decision (create name schema) d single still is =
      subst (λ (x : Result PlainChange Refusal). IfErr x IsQuiet) (sym is)
      (quietly (create_tests c name) (Ok (names_changed (put name schema))) (first_quiet (bad_name name ∷ taken_in c name ∷ full_in c name ∷ []) (bad_quiet name, (taken_quiet c name, (full_quiet c name, tt)))) tt)
  by_decision (import_stream name bytes) d single still is =
      subst (λ (x : Result PlainChange Refusal). IfErr x IsQuiet) (sym is)
      (quietly (import_tests name bytes) (of_meaning (meaning supported_codes bytes) (decided_table c name)) (first_quiet (bad_name name ∷ too_many_bytes bytes ∷ []) (bad_quiet name, (bytes_quiet bytes, tt)))
      (of_means (meaning supported_codes bytes) (decided_table c name) (λ t. quietly (full_in c name) (Ok (pieces_put (put name t.schema) t)) (full_quiet c name) tt)))
  by_decision (rename from to) d single still is =
      subst (λ (x : Result PlainChange Refusal). IfErr x IsQuiet) (sym is)
      (quietly (rename_tests c from to) (Ok (names_changed (move from to))) (first_quiet (missing_in c from ∷ bad_name to ∷ taken_in c to ∷ []) (missing_quiet c from, (bad_quiet to, (taken_quiet c to, tt)))) tt)
  by_decision (drop_table name) d single still is =
      subst (λ (x : Result PlainChange Refusal). IfErr x IsQuiet) (sym is) (quietly (missing_in c name) (Ok (names_changed (remove name))) (missing_quiet c name) tt)
  by_decision (all_of cs) d single still is = absurd single
  by_decision _ d single still is = absurd (cc still)

  pub single_stops : (command : PlainCommand) (d : Result PlainChange Refusal) → IsNoList command → Stops tells image c command d → IsNotRead tells image (entry_read c command) d
  single_stops (all_of cs) d single stops = absurd single
  single_stops _ d single stops = stops

  answered : (command : PlainCommand) (d : Result PlainChange Refusal) → IsNoList command → reads_device command ≡ false → IsAnswered tells image c command d → IfErr d IsQuiet
  answered command d single still (inl memory) = subst (λ (x : Result PlainChange Refusal). IfErr x IsQuiet) (sym memory) memory_quiet
  answered command d single still (inr (inl stops)) = let unread = single_stops command d single stops in absurd (no_entry command unread.entry still unread.tested)
  answered command d single still (inr (inr is)) = by_decision command d single still is

  pub answers_quiet : (command : PlainCommand) (r : Result Change Refusal) → IsNoList command → reads_device command ≡ false → IsAnswered tells image c command (decision_of r) → IfErr r IsQuiet
  answers_quiet command (Ok change) single still is = tt
  answers_quiet command (Err e) single still is = answered command (Err e) single still is
