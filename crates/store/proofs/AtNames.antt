-- What is answered of a call at a name, by the entry of that name.
use Rattle.std.specs.Prelude.{◌≢◌}
use Rattle.std.proofs.Common.{◌≡◌, ℕ, Bool, true, false, List, map, Option, Some, None, Result, Err, inr, refl, sym, subst}
use Rattle.sector_dev.specs.Disk.{Image}
use Rattle.cells.specs.Cell.{PlainTable}
use Rattle.cells.specs.Row.{row_of}
use Rattle.values.specs.TableView.{table_of}
use Rattle.catalogue.specs.Edits.{entry_of}
use Rattle.catalogue.specs.Entries.{PlainEntry, PlainCatalogue}
use Rattle.query.specs.Query.{PlainQuery}
use Rattle.tables.specs.Commands.{save_as}
use Rattle.tables.specs.declared.refusal.Refusal.{Refusal}
use Rattle.tables.specs.declared.refusal.Refusal.TheVariants.{Halted, NoTable, OutOfMemory, Write}
use Rattle.store_runs.specs.Changes.{PlainChange}
use Rattle.store_runs.specs.Deciding.{of_entry, streamed_rows, given_rows, selected_entry, IsAdded, IsSaved, IsAnswered}
use Rattle.store_runs.specs.Reading.{IsRead, Unreads, ReadsTable, RefusesRead}
use Rattle.store_changes.specs.declared.new_rows.NewRows.{NewRows}
use Rattle.store_changes.specs.declared.new_rows.NewRows.TheVariants.{Stream, Given, OfTable}
use Rattle.store_changes.specs.Appending.{append_of, added_to, IsAppended}
use Rattle.store.specs.inner.Saving.{IsSelected}

-- ---- a reading

module _ (halted tells : Bool) (image : Image) (found : Option PlainEntry) where
  pub read_at : (e : PlainEntry) (table : PlainTable) → halted ≡ false → found ≡ Some e → IsRead tells image e table → ReadsTable halted tells image found table
  read_at e table on there read =
      subst (λ (b : Bool). ReadsTable b tells image found table) (sym on) (subst (λ (o : Option PlainEntry). ReadsTable false tells image o table) (sym there) read)

  pub unread_at : (e : PlainEntry) (r : Refusal) → halted ≡ false → found ≡ Some e → Unreads tells image e r → RefusesRead halted tells image found r
  unread_at e r on there unread =
      subst (λ (b : Bool). RefusesRead b tells image found r) (sym on) (subst (λ (o : Option PlainEntry). RefusesRead false tells image o r) (sym there) unread)

  pub read_nowhere : halted ≡ false → found ≡ None → RefusesRead halted tells image found NoTable
  read_nowhere on none = subst (λ (b : Bool). RefusesRead b tells image found NoTable) (sym on) (subst (λ (o : Option PlainEntry). RefusesRead false tells image o NoTable) (sym none) refl)

  -- where it was read, what is made of it may find no memory
  pub read_without_memory : (table : PlainTable) → ReadsTable halted tells image found table → RefusesRead halted tells image found OutOfMemory
  read_without_memory table reads = by_state halted found reads
    where
      by_state : (h : Bool) (o : Option PlainEntry) → ReadsTable h tells image o table → RefusesRead h tells image o OutOfMemory
      by_state true o read = absurd read
      by_state false None read = absurd read
      by_state false (Some e) read = tt

  -- no reading is refused as a writer that fails
  pub never_write : (r : Refusal) → RefusesRead halted tells image found r → r ≢ Write
  never_write r refuses is = by_state halted found (subst (λ (q : Refusal). RefusesRead halted tells image found q) is refuses)
    where
      by_state : (h : Bool) (o : Option PlainEntry) → RefusesRead h tells image o Write → ⊥
      by_state true o told = cc told
      by_state false None told = cc told
      by_state false (Some e) told = told

  pub read_halted : halted ≡ true → RefusesRead halted tells image found Halted
  read_halted off = subst (λ (b : Bool). RefusesRead b tells image found Halted) (sym off) refl

-- ---- new rows, and a query that is saved

module _ (tells : Bool) (image : Image) (c : PlainCatalogue) (name : List ℕ) where
  pub append_at : (new : NewRows) (e : PlainEntry) (d : Result PlainChange Refusal) → entry_of c name ≡ Some e → IsAppended tells image name (added_to new e) d → IsAnswered tells image c (append_of name new) d
  append_at (Stream bytes) e d there is = subst (λ (o : Option PlainEntry). IsAppended tells image name (of_entry o (streamed_rows bytes.items)) d) (sym there) is
  append_at (Given rows) e d there is = subst (λ (o : Option PlainEntry). IsAppended tells image name (of_entry o (given_rows (map row_of rows.items))) d) (sym there) is
  append_at (OfTable new) e d there is = subst (λ (o : Option PlainEntry). IsAppended tells image name (of_entry o (given_rows (table_of new.table).rows)) d) (sym there) is

  pub append_nowhere : (new : NewRows) → entry_of c name ≡ None → IsAnswered tells image c (append_of name new) (Err NoTable)
  append_nowhere (Stream bytes) none = inr (inr (subst (λ (o : Option PlainEntry). IsAdded tells image name (of_entry o (streamed_rows bytes.items)) (Err NoTable)) (sym none) refl))
  append_nowhere (Given rows) none = inr (inr (subst (λ (o : Option PlainEntry). IsAdded tells image name (of_entry o (given_rows (map row_of rows.items))) (Err NoTable)) (sym none) refl))
  append_nowhere (OfTable new) none = inr (inr (subst (λ (o : Option PlainEntry). IsAdded tells image name (of_entry o (given_rows (table_of new.table).rows)) (Err NoTable)) (sym none) refl))

  pub save_at : (to : List ℕ) (query : PlainQuery) (e : PlainEntry) (d : Result PlainChange Refusal) → entry_of c name ≡ Some e → IsSelected tells image to query (selected_entry c to query e) d
      → IsAnswered tells image c (save_as name to query) d
  save_at to query e d there is = subst (λ (o : Option PlainEntry). IsSelected tells image to query (of_entry o (selected_entry c to query)) d) (sym there) is

  pub save_nowhere : (to : List ℕ) (query : PlainQuery) → entry_of c name ≡ None → IsAnswered tells image c (save_as name to query) (Err NoTable)
  save_nowhere to query none = inr (inr (subst (λ (o : Option PlainEntry). IsSaved tells image to query (of_entry o (selected_entry c to query)) (Err NoTable)) (sym none) refl))
