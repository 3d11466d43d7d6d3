-- Why nothing of an input is handed to a store.
use Rattle.std.proofs.Common.{◌≡◌, ◌∙◌, ◌+◌, ℕ, Bool, true, false, List, ap, inl, inr, refl, sym, true≢false}
use Rattle.std.specs.Prelude.{◌⊎◌, ◌&&◌, not, Option, IsSome, IsErrOf, Err}
use Rattle.catalogue.specs.Entries.{PlainCatalogue, PlainEntry, is_name}
use Rattle.tables.specs.declared.refusal.Refusal as tables
use Rattle.tables.specs.declared.refusal.Refusal.TheVariants as refusals
use Rattle.store_runs.specs.Deciding.{has_entry}
use Rattle.text_import.specs.declared.form.TextForm.{TextForm}
use Rattle.cli_reports.specs.declared.refusal.Refusal.{Refusal}
use Rattle.cli_reports.specs.declared.refusal.Refusal.TheVariants.{TooManyBytes, Io, OutOfMemory, Store}
use Rattle.cli_reports.specs.declared.refusal.Side.TheVariants.{Input}
use Rattle.cli_commands.specs.declared.input.TheConstants.{LARGEST_INPUT}
use Rattle.store.specs.Input.{HasGiven, HasGivenAtMost}
use Rattle.cli_commands.specs.Changing.{RefusesTaken}
use Rattle.cli_commands.specs.Complete.{RefusesStream, RefusesWhole}
use Rattle.cli_commands.specs.Given.{UnlessTooManyBytes, IsOfInput}
use Rattle.cli_commands.specs.Recode.{IsTrueFault}
use Rattle.cli_commands.specs.TextRows.{RefusesText}
use Rattle.cli_commands.specs.Unread.{RefusesImport, RefusesLooking, RefusesUnread, is_taken}

-- an input is not read for one of three reasons, and then no rows of a text are appended
pub refuses_rows : {R : Type 0} (A : Type 0) (remaining : R → Option (List ℕ)) (form : TextForm) (halted : Bool) (found : Option PlainEntry) (old new : R) (e : Refusal) → halted ≡ false → IsSome found → IsOfInput e
    → (IsErrOf {T = A} (Err e) TooManyBytes → HasGiven (remaining old) (remaining new) (LARGEST_INPUT + 1)) → UnlessTooManyBytes {A = A} (Err e) (HasGivenAtMost (remaining old) (remaining new) LARGEST_INPUT)
    → RefusesText remaining form halted found old new e
refuses_rows A remaining form halted found old new TooManyBytes on there of many few = (on, there, many refl)
refuses_rows A remaining form halted found old new (Io Input) on there of many few = (on, there, few)
refuses_rows A remaining form halted found old new OutOfMemory on there of many few = (on, there, few)
refuses_rows A remaining form halted found old new _ on there of many few = absurd of

-- nor is it the fault of an input that it is not read
pub true_of_input : (e : Refusal) (input : Option (List ℕ)) → IsOfInput e → IsTrueFault e input
true_of_input TooManyBytes input of = tt
true_of_input (Io Input) input of = tt
true_of_input OutOfMemory input of = tt
true_of_input _ input of = absurd of

-- nor is a stream that must have its end
pub refuses_stream : (A : Type 0) (old new : Option (List ℕ)) (e : Refusal) → IsOfInput e
    → (IsErrOf {T = A} (Err e) TooManyBytes → HasGiven old new (LARGEST_INPUT + 1)) → UnlessTooManyBytes {A = A} (Err e) (HasGivenAtMost old new LARGEST_INPUT)
    → RefusesStream old new e
refuses_stream A old new TooManyBytes of many few = many refl
refuses_stream A old new (Io Input) of many few = few
refuses_stream A old new OutOfMemory of many few = few
refuses_stream A old new _ of many few = absurd of

-- the list of tables is not looked at, for an append or an import
pub looking_unread : (halted passes : Bool) (why : tables.Refusal) (e : Refusal) → RefusesLooking halted e → RefusesUnread halted passes why e
looking_unread halted passes why (Store refusals.Halted) off = inl (off, refl)
looking_unread halted passes why (Store refusals.OutOfMemory) on = inr (on, inr refl)
looking_unread halted passes why (Store _) of = absurd of
looking_unread halted passes why _ of = absurd of

-- no name is taken of a store that is halted
none_taken : (is_new halted : Bool) (c : PlainCatalogue) (name : List ℕ) → halted ≡ true → is_taken is_new halted c name ≡ false
none_taken true halted c name off = ap (λ (h : Bool). not h && has_entry c name) off
none_taken false halted c name off = refl

pub looking_import : (is_new halted : Bool) (c : PlainCatalogue) (name : List ℕ) (e : Refusal) → RefusesLooking halted e → RefusesImport is_new halted c name e
looking_import is_new halted c name (Store refusals.Halted) off = inr (none_taken is_new halted c name off, inl (off, refl))
looking_import is_new halted c name (Store refusals.OutOfMemory) on = by_test (is_taken is_new halted c name) refl
  where
    by_test : (b : Bool) → is_taken is_new halted c name ≡ b → RefusesImport is_new halted c name (Store refusals.OutOfMemory)
    by_test true is = inl (is, inr refl)
    by_test false is = inr (is, inr (on, inr refl))
looking_import is_new halted c name (Store _) of = absurd of
looking_import is_new halted c name _ of = absurd of

-- an import is refused for a table that has the name, if there is one that may not, and else for another reason
pub of_taken : (is_new halted : Bool) (c : PlainCatalogue) (name : List ℕ) (e : Refusal) → RefusesImport is_new halted c name e → is_taken is_new halted c name ≡ true → RefusesTaken e
of_taken is_new halted c name e (inl taken) is = taken.1
of_taken is_new halted c name e (inr free) is = absurd (true≢false (sym is ∙ free.0))

pub of_free : (is_new halted : Bool) (c : PlainCatalogue) (name : List ℕ) (e : Refusal) → RefusesImport is_new halted c name e → is_taken is_new halted c name ≡ false
    → RefusesUnread halted (is_name name) refusals.BadName e
of_free is_new halted c name e (inl taken) is = absurd (true≢false (sym taken.0 ∙ is))
of_free is_new halted c name e (inr free) is = free.1

-- a stream that is refused unread, or once it is read
pub whole_unread : {R : Type 0} (remaining : R → Option (List ℕ)) (halted passes : Bool) (why : tables.Refusal) (input : R) (e : Refusal) → RefusesUnread halted passes why e
    → RefusesWhole remaining halted passes why input input e
whole_unread remaining halted passes why input (Store refusal) unread = (unread, refl)
whole_unread remaining halted passes why input _ unread = absurd unread

pub whole_read : {R : Type 0} (remaining : R → Option (List ℕ)) (halted passes : Bool) (why : tables.Refusal) (old new : R) (e : Refusal) → halted ≡ false → passes ≡ true
    → RefusesStream (remaining old) (remaining new) e → RefusesWhole remaining halted passes why old new e
whole_read remaining halted passes why old new (Store refusal) on first read = absurd read
whole_read remaining halted passes why old new _ on first read = (on, first, read)

-- a store that passed the first test did not fail it
pub passed_both : {A : Type 0} (halted passes : Bool) → halted ≡ false → passes ≡ true → (halted ≡ true) ⊎ (passes ≡ false) → A
passed_both halted passes on first (inl off) = absurd (true≢false (sym off ∙ on))
passed_both halted passes on first (inr fails) = absurd (true≢false (sym first ∙ fails))
