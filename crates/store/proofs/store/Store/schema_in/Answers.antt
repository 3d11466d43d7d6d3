use Rattle.std.specs.Prelude.{ℕ, Bool, false, List, Some, Ok, Err, IfErr, MatchResult, Result, option_map}
use Rattle.std.proofs.Common.{◌≡◌, ◌≢◌, inl, refl, sym, ◌∙◌, subst}
use Rattle.std.proofs.lemmas.Bool.{true≢false}
use Rattle.arrow_schema.specs.View.{schema_of}
use Rattle.sector_dev.specs.Disk.{Image}
use Rattle.cells.specs.Cell.{Cell}
use Rattle.catalogue.specs.Edits.{entry_of}
use Rattle.catalogue.specs.Entries.{PlainCatalogue}
use Rattle.tables.specs.declared.refusal.Refusal.{Refusal}
use Rattle.tables.specs.declared.refusal.Refusal.TheVariants as refusals
use Rattle.tables.specs.Commands.{append_rows}
use Rattle.store_runs.specs.Calls.{done, refused, is_failure}
use Rattle.store_runs.specs.Deciding.{IsAnswered}
use Rattle.store.specs.Listing.{RefusesSchema}
use Rattle.store.specs.Transactions.{drafted}
use Rattle.store.proofs.Applied.{reads_nothing}
use Rattle.store.proofs.Begun.{shown_first, over, old_on, ends_behind, refuses_next}
use Rattle.store.proofs.Heavy.{missing_told}
use Rattle.store.proofs.ReadsStore.{fits_reading}
use Rattle.store.proofs.store.Store.schema_in.Goals as goal

-- why there is no schema is an answer to any append
record IsUnnamed (tells : Bool) (image : Image) (c : PlainCatalogue) (name : List ℕ) (r : Refusal) : Type 0 where
  answers : (rows : List (List Cell)) → IsAnswered tells image c (append_rows name rows) (Err r)
  quiet : is_failure r ≡ false
  other : r ≢ refusals.Halted

unnamed : (tells : Bool) (image : Image) (c : PlainCatalogue) (name : List ℕ) (r : Refusal) → RefusesSchema false (entry_of c name) r → IsUnnamed tells image c name r
unnamed tells image c name refusals.NoTable is = record { answers = λ rows. missing_told tells image c name rows is.1; quiet = refl; other = λ e. cc e }
unnamed tells image c name refusals.OutOfMemory is = record { answers = λ rows. inl refl; quiet = refl; other = λ e. cc e }
unnamed tells image c name refusals.Halted is = absurd (true≢false (sym is))
unnamed tells image c name _ is = absurd is

match_err : {A B : Type 0} (r : Result A B) (P : A → Type 0) (Q R : B → Type 0) → ((e : B) → Q e → R e) → MatchResult r P Q → IfErr r R
match_err (Ok x) P Q R f is = tt
match_err (Err e) P Q R f is = f e is

pub returns-then-self-clause-fits : goal.returns-then-self-clause-fits
returns-then-self-clause-fits g c = λ first commands begun told base m fits.
    let D = g.D.SectorDevice in fits_reading D.size D.story D.failed base m D.tells told first c.args.self.now fits done refl begun.reads

pub returns-then-self-clause-refused : goal.returns-then-self-clause-refused
returns-then-self-clause-refused g c = λ first commands begun rows.
    let D = g.D.SectorDevice in
    absurd (true≢false (sym c.if-self.true ∙ old_on D.size D.story D.failed D.tells first c.args.self.now c.args.transaction.now commands begun))

pub returns-clause-fits : goal.returns-clause-fits
returns-clause-fits g c = λ first commands begun told base m fits.
    let D = g.D.SectorDevice in fits_reading D.size D.story D.failed base m D.tells told first c.args.self.now fits done refl begun.reads

pub returns-clause-found : goal.returns-clause-found
returns-clause-found g c =
    let found = entry_of (drafted c.args.transaction.now) c.args.name.now in
    subst (λ (h : Bool). MatchResult c.schema_named.result (λ s. option_map (λ e. e.schema) found ≡ Some (schema_of s)) (λ e. RefusesSchema h found e)) (sym c.if-self.false) c.schema_named.ensures.found

pub returns-clause-refused : goal.returns-clause-refused
returns-clause-refused g c =
    let D = g.D.SectorDevice in
    let store = c.args.self.now in
    let t = c.args.transaction.now in
    let name = c.args.name.now in
    match_err c.schema_named.result _ (RefusesSchema false (entry_of (drafted t) name)) _
    (λ e why first commands begun rows.
    let shows = shown_first D.size D.story D.failed D.tells first store t commands begun in
    let own = unnamed D.tells (over D.size D.story D.failed D.tells first store t commands begun) (drafted t) name e why in
    refuses_next D.size D.story D.failed D.tells first store t commands begun c.decisions_are_verdicts.ensures.at_line (append_rows name rows) e store tt tt own.other
    (ends_behind D.size D.story D.failed D.tells first store t commands begun (append_rows name rows) e (inl (own.answers rows)))
    (reads_nothing D.size D.story D.failed D.tells (refused e) store own.quiet) (λ plain. refl)) c.schema_named.ensures.found
