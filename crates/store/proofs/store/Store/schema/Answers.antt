use Rattle.std.proofs.Common.{◌≡◌, ◌∙◌, ℕ, false, List, Option, Some, None, Result, Ok, Err, refl, ap, sym, subst}
use Rattle.std.specs.Prelude.{MatchResult, IfOk, IfErr, option_map}
use Rattle.std.proofs.lemmas.Bool.{true≢false}
use Rattle.std.proofs.lemmas.Result.{err_from_is_err_and}
use Rattle.sector_dev.specs.Disk.{Story, now, synced_image}
use Rattle.sector_dev.specs.declared.device.SectorDevice.{Ghosts}
use Rattle.arrow_schema.specs.Column.{PlainSchema}
use Rattle.arrow_schema.specs.View.{schema_of}
use Rattle.cells.specs.Cell.{PlainTable}
use Rattle.catalogue.specs.Entries.{PlainEntry}
use Rattle.catalogue.specs.Edits.{entry_of}
use Rattle.catalogue.specs.View.{catalogue_of}
use Rattle.catalogue.specs.declared.catalogue.Catalogue.{Catalogue}
use Rattle.tables.specs.declared.refusal.Refusal.{Refusal}
use Rattle.tables.specs.declared.refusal.Refusal.TheVariants as refusals
use Rattle.tables.specs.Tables.{Tables}
use Rattle.tables.specs.Verdict.{after}
use Rattle.store_runs.specs.Calls.{schema_call, schema_is, refused}
use Rattle.store_runs.specs.Machine.{Machine}
use Rattle.store_runs.specs.Steps.{Step}
use Rattle.store.specs.declared.store.Store.{Store}
use Rattle.store.specs.Applying.{GoesOn}
use Rattle.store.specs.Fits.{StoreFits, listed_in}
use Rattle.store.specs.Listing.{RefusesSchema}
use Rattle.store_changes.specs.laws.Named.{entry_has, entry_lacks, held_has}
use Rattle.store.proofs.Asked.{not_running, is_running, told_of, still}
use Rattle.store.proofs.store.Store.schema.Goals as goal

pub returns-in_err-list-clause-refused : goal.returns-in_err-list-clause-refused
unfolding Step
returns-in_err-list-clause-refused g c =
    let D = g.D.SectorDevice in
    let store = c.args.self.now in
    let p = err_from_is_err_and c.from_residual.result c.from_residual.ensures.1 in
    told_of c.from_residual.result refusals.Halted _ (p.1 ∙ ap Err p.2 ∙ ap Err c.in_err-list.ensures.0) (λ told base m fits.
    still D.size D.story D.failed base m (schema_call c.args.name.now) (refused refusals.Halted) store (not_running m.phase store.halted fits.phase c.in_err-list.ensures.1, (refl, refl)) refl fits tt tt)

-- ---- what a store that is not halted answers

module _ {D : Type 0} {g : Ghosts D} (size : D → ℕ) (story : D → Story) (failed : D → ℕ) (store : Store D g) (on : store.halted ≡ false) (name : List ℕ) where
  schema_goes : (s : PlainSchema) → option_map (λ e. e.schema) (entry_of (listed_in store) name) ≡ Some s → (base : Tables) (m : Machine) → StoreFits size story base m store
      → GoesOn size story failed base m (schema_call name) (schema_is s) store store
  unfolding Step
  schema_goes s is base m fits = by_entry (entry_of (listed_in store) name) refl is
    where
      by_entry : (o : Option PlainEntry) → entry_of (listed_in store) name ≡ o → option_map (λ e. e.schema) o ≡ Some s → GoesOn size story failed base m (schema_call name) (schema_is s) store store
      by_entry None there has = absurd cc
      by_entry (Some e) there has =
          let runs = is_running m.phase store.halted fits.phase on in
          let image = synced_image (now (story store.device)) in
          let own = entry_has image (listed_in store) (after base m.settled) (fits.sound runs).tables name e there in
          let held = held_has image e own.0 own.1 in
          let same : e.schema ≡ s = cc has in
          still size story failed base m (schema_call name) (schema_is s) store (runs, (own.0, own.2, sym same ∙ sym (ap (λ (t : PlainTable). t.schema) held.2)), (refl, refl)) refl fits tt tt

  schema_refused : (r : Refusal) → RefusesSchema false (entry_of (listed_in store) name) r → (base : Tables) (m : Machine) → StoreFits size story base m store → GoesOn size story failed base m (schema_call name) (refused r) store store
  unfolding Step
  schema_refused refusals.NoTable is base m fits =
      let runs = is_running m.phase store.halted fits.phase on in
      let none = entry_lacks (synced_image (now (story store.device))) (listed_in store) (after base m.settled) (fits.sound runs).tables name is.1 in
      still size story failed base m (schema_call name) (refused refusals.NoTable) store (runs, none, (refl, refl)) refl fits tt tt
  schema_refused refusals.OutOfMemory is base m fits =
      still size story failed base m (schema_call name) (refused refusals.OutOfMemory) store (is_running m.phase store.halted fits.phase on, (refl, refl)) refl fits tt tt
  schema_refused refusals.Halted is base m fits = absurd (true≢false (sym is))
  schema_refused _ is base m fits = absurd is

match_ok : {A B : Type 0} (r : Result A B) (P R : A → Type 0) (Q : B → Type 0) → ((x : A) → P x → R x) → MatchResult r P Q → IfOk r R
match_ok (Ok x) P R Q f is = f x is
match_ok (Err e) P R Q f is = tt

match_err : {A B : Type 0} (r : Result A B) (P : A → Type 0) (Q R : B → Type 0) → ((e : B) → Q e → R e) → MatchResult r P Q → IfErr r R
match_err (Ok x) P Q R f is = tt
match_err (Err e) P Q R f is = f e is

pub returns-clause-goes : goal.returns-clause-goes
returns-clause-goes g c =
    let D = g.D.SectorDevice in
    let store = c.args.self.now in
    let name = c.args.name.now in
    let same = ap (λ (list : Catalogue). option_map (λ e. e.schema) (entry_of (catalogue_of list) name)) c.in_ok-list.ensures.0 in
    match_ok c.schema_named.result _ _ _ (λ s is told base m fits. schema_goes D.size D.story D.failed store c.in_ok-list.ensures.1 name (schema_of s) (sym same ∙ is) base m fits) c.schema_named.ensures.found

pub returns-clause-refused : goal.returns-clause-refused
returns-clause-refused g c =
    let D = g.D.SectorDevice in
    let store = c.args.self.now in
    let name = c.args.name.now in
    match_err c.schema_named.result _ _ _
    (λ r is told base m fits.
    schema_refused D.size D.story D.failed store c.in_ok-list.ensures.1 name r (subst (λ (list : Catalogue). RefusesSchema false (entry_of (catalogue_of list) name) r) c.in_ok-list.ensures.0 is) base m fits) c.schema_named.ensures.found
