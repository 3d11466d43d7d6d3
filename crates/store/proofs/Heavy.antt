-- Rows that are too heavy for any table are refused as any append is.
use Rattle.std.specs.Prelude.{◌↔◌, not, nat_le}
use Rattle.std.proofs.Common.{◌≡◌, ◌≢◌, ℕ, ◌+◌, ◌<◌, ◌++◌, Bool, true, false, List, [], ◌∷◌, Option, Some, None, Result, Ok, Err, inl, inr, refl, sym, ap, ◌∙◌, subst, arith}
use Rattle.std.specs.List.{list_all, position_from, AllPass}
use Rattle.std.proofs.lemmas.Bool.{and_parts}
use Rattle.std.proofs.lemmas.Bool.Decides.{leb_tells}
use Rattle.std.proofs.lemmas.Iterator.Adapters.{position_from-zero}
use Rattle.std.proofs.lemmas.List.Sums.{list_all-from_AllPass, sum_by-append}
use Rattle.facts.specs.Checks.{when, unless}
use Rattle.sector_dev.specs.Disk.{Image, Story}
use Rattle.sector_dev.specs.declared.device.SectorDevice.{Ghosts}
use Rattle.arrow_schema.specs.Column.{PlainSchema}
use Rattle.cells.specs.Cell.{Cell, PlainTable}
use Rattle.cells.specs.Row.{is_row}
use Rattle.cells.specs.Weight.{row_weight, table_weight}
use Rattle.cells.specs.declared.limits.TheConstants.{MAX_TABLE_WEIGHT}
use Rattle.values.specs.Table.{first_unfit}
use Rattle.catalogue.specs.Edits.{entry_of}
use Rattle.catalogue.specs.Entries.{PlainEntry, PlainCatalogue, is_entry}
use Rattle.tables.specs.declared.refusal.Limit.TheVariants as limits
use Rattle.tables.specs.declared.refusal.Refusal.{Refusal}
use Rattle.tables.specs.declared.refusal.Refusal.TheVariants as refusals
use Rattle.tables.specs.Commands.{append_rows}
use Rattle.store_runs.specs.Changes.{extend, rows_under}
use Rattle.store_runs.specs.Deciding.{Addition, entry_added, of_entry, given_rows, decided_extension, pieces_put, IsAdded, IsAnswered}
use Rattle.store_runs.specs.Reading.{IsRead, Unreads, ReadsTable, RefusesRead}
use Rattle.store_runs.specs.Calls.{refused}
use Rattle.store_changes.specs.laws.SameReads.{Agree, read_alike, not_read_alike}
use Rattle.store.specs.declared.store.Store.{Store}
use Rattle.store.specs.Applying.{AreTooHeavy}
use Rattle.store.specs.Reading.{OnlyReadsStore}
use Rattle.store.proofs.Applied.{refused_by, read_halts}
use Rattle.store.proofs.AtNames.{read_at, unread_at}

none_found : (s : PlainSchema) (i : ℕ) (rows : List (List Cell)) → list_all (is_row s) rows ≡ true → position_from (λ row. not (is_row s row)) i rows ≡ None
none_found s i [] all = refl
none_found s i (r ∷ rs) all =
    let both = and_parts (is_row s r) (list_all (is_row s) rs) all in
    rw both.0 (none_found s (i + 1) rs both.1)

-- rows that fit one by one are given
given : (e : PlainEntry) (rows : List (List Cell)) → AllPass (is_row e.schema) rows → given_rows rows e ≡ Ok (record { entry = e; rows = rows })
unfolding first_unfit
given e rows each =
    let none : first_unfit e.schema rows ≡ None = position_from-zero (λ row. not (is_row e.schema row)) rows ∙ none_found e.schema 0 rows (list_all-from_AllPass (is_row e.schema) rows each) in
    ap (λ (o : Option ℕ). unless (elim o [ None ↦ None | Some i ↦ Some (refusals.RowUnfit i) ]) (Ok (record { entry = e; rows = rows }))) none

over : (a b : ℕ) → b < a → nat_le a b ≡ false
over a b less = elim (leb_tells a b) [ inl is ↦ absurd (omega (arith, less, is.1)) | inr other ↦ other.0 ]

-- after any rows they are too heavy
heavy_behind : (name : List ℕ) (e : PlainEntry) (standing rows : List (List Cell)) → MAX_TABLE_WEIGHT < table_weight e.schema rows
    → decided_extension name (record { entry = e; rows = rows }) standing ≡ Err (refusals.TooMany limits.Weight)
heavy_behind name e standing rows heavy =
    let split = sum_by-append (row_weight e.schema) standing rows in
    let whole : nat_le (table_weight e.schema (standing ++ rows)) MAX_TABLE_WEIGHT ≡ false = over (table_weight e.schema (standing ++ rows)) MAX_TABLE_WEIGHT (omega (arith, heavy, split)) in
    ap (λ (b : Bool). unless (when (not b) (refusals.TooMany limits.Weight)) (Ok (pieces_put (extend name) (rows_under e.schema rows)))) whole

module _ (tells : Bool) (image : Image) (c : PlainCatalogue) (name : List ℕ) (rows : List (List Cell)) where
  -- where the table was read
  pub heavy_told : (halted : Bool) (table : PlainTable) → ReadsTable halted tells image (entry_of c name) table → AreTooHeavy (entry_of c name) rows
      → IsAnswered tells image c (append_rows name rows) (Err (refusals.TooMany limits.Weight))
  heavy_told halted table reads heavy = inr (inr (by_state halted (entry_of c name) reads heavy))
    where
      by_state : (h : Bool) (o : Option PlainEntry) → ReadsTable h tells image o table → AreTooHeavy o rows → IsAdded tells image name (of_entry o (given_rows rows)) (Err (refusals.TooMany limits.Weight))
      by_state true o read heavy = absurd read
      by_state false None read heavy = absurd read
      by_state false (Some e) read heavy =
          subst (λ (x : Result Addition Refusal). IsAdded tells image name x (Err (refusals.TooMany limits.Weight))) (sym (given e rows heavy.0)) (inl (table, read, sym (heavy_behind name e table.rows rows heavy.1)))

  -- and where it was not
  pub unread_told : (halted : Bool) (r : Refusal) → halted ≡ false → RefusesRead halted tells image (entry_of c name) r → AreTooHeavy (entry_of c name) rows
      → IsAnswered tells image c (append_rows name rows) (Err r)
  unread_told halted r on refuses heavy = by_state (entry_of c name) refl (subst (λ (b : Bool). RefusesRead b tells image (entry_of c name) r) on refuses) heavy
    where
      by_state : (o : Option PlainEntry) → entry_of c name ≡ o → RefusesRead false tells image o r → AreTooHeavy o rows → IsAnswered tells image c (append_rows name rows) (Err r)
      by_state None there is heavy =
          inr (inr (subst (λ (o : Option PlainEntry). IsAdded tells image name (of_entry o (given_rows rows)) (Err r)) (sym there) (ap (λ (q : Refusal). Err q) is)))
      by_state (Some e) there unread heavy = inr (inl (record {
        entry = e;
        tested = ap (λ (o : Option PlainEntry). entry_added (of_entry o (given_rows rows))) there ∙ ap entry_added (given e rows heavy.0);
        refusal = r;
        told = refl;
        unread = unread;
      }))

  -- the same in a list, where the table is read in the streams of a draft too: `seen` is what those reads show
  module _ (seen : Image) (e : PlainEntry) (there : entry_of c name ≡ Some e) (sound : is_entry e ≡ true) (same : tells ≡ true → Agree seen image e.segments) where
    pub heavy_drafted : (table : PlainTable) → IsRead tells seen e table → AreTooHeavy (entry_of c name) rows → IsAnswered tells image c (append_rows name rows) (Err (refusals.TooMany limits.Weight))
    heavy_drafted table read heavy = heavy_told false table (read_at false tells image (entry_of c name) e table refl there (read_alike seen image tells e table sound same read)) heavy

    unread_drafted : (r : Refusal) → Unreads tells seen e r → Unreads tells image e r
    unread_drafted r unread =
        let not = not_read_alike seen image tells (Some e) e (Err r) (λ x is. let own : e ≡ x = cc is in sym own) sound same (record { entry = e; tested = refl; refusal = r; told = refl; unread = unread }) in
        let own : not.entry ≡ e = let tested = not.tested in cc tested in
        let told : not.refusal ≡ r = let is = not.told in cc is in
        subst (λ (q : Refusal). Unreads tells image e q) told (subst (λ (x : PlainEntry). Unreads tells image x not.refusal) own not.unread)

    pub unread_in_draft : (r : Refusal) → Unreads tells seen e r → AreTooHeavy (entry_of c name) rows → IsAnswered tells image c (append_rows name rows) (Err r)
    unread_in_draft r unread heavy = unread_told false r refl (unread_at false tells image (entry_of c name) e r refl there (unread_drafted r unread)) heavy

  -- where there is no table
  pub missing_told : entry_of c name ≡ None → IsAnswered tells image c (append_rows name rows) (Err refusals.NoTable)
  missing_told none = inr (inr (subst (λ (o : Option PlainEntry). IsAdded tells image name (of_entry o (given_rows rows)) (Err refusals.NoTable)) (sym none) refl))

-- a store that is not halted does not report that it is
pub unread_on : (halted tells : Bool) (image : Image) (found : Option PlainEntry) (r : Refusal) → halted ≡ false → RefusesRead halted tells image found r → r ≢ refusals.Halted
unread_on halted tells image found r on refuses is =
    by_entry found (subst (λ (b : Bool). RefusesRead b tells image found refusals.Halted) on (subst (RefusesRead halted tells image found) is refuses))
  where
    by_entry : (o : Option PlainEntry) → RefusesRead false tells image o refusals.Halted → ⊥
    by_entry None told = cc told
    by_entry (Some e) told = told

-- a store that was only read is halted just where the device failed
pub device_halts : {D : Type 0} {g : Ghosts D} (size : D → ℕ) (story : D → Story) (failed : D → ℕ) (tells : Bool) (old new : Store D g) (r : Refusal) → old.halted ≡ false
    → OnlyReadsStore size story failed tells (refused r) old new → (new.halted ≡ true) ↔ (r ≡ refusals.Device)
device_halts size story failed tells old new r on reads =
    let both = read_halts size story failed tells old new r on reads in
    (λ (h : new.halted ≡ true). let same : refused_by r ≡ Err refusals.Device = both.0 h in cc same, λ (is : r ≡ refusals.Device). both.1 (ap refused_by is))
