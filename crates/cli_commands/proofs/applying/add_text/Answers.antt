use Rattle.std.proofs.Common.{◌≡◌, [], refl, subst}
use Rattle.std.proofs.lemmas.Result.{err_from_is_err_and}
use Rattle.arrow_schema.specs.View.{schema_of}
use Rattle.catalogue.specs.Edits.{entry_of}
use Rattle.tables.specs.declared.refusal.Refusal.{Refusal}
use Rattle.tables.specs.Commands.{append_rows}
use Rattle.tables.specs.View.{command_of}
use Rattle.text_import.specs.Form.{rows_of_text}
use Rattle.store.specs.Fits.{is_halted}
use Rattle.store.specs.Listing.{RefusesSchema}
use Rattle.store.specs.Transactions.{drafted, RefusesNext}
use Rattle.cli_commands.specs.declared.applying.ListedCommand.TheVariants.{Text}
use Rattle.cli_commands.specs.inner.TextRows.{AppendsRows}
use Rattle.cli_commands.proofs.ListLemmas.{text_has_rows, text_unread, text_is_refused, text_ends}
use Rattle.cli_commands.proofs.TextLemmas.{heavy_for}
use Rattle.cli_commands.proofs.applying.add_text.Goals as goal

-- ---- the text was read

pub returns-in_err-command-in-Ok-clause-ends : goal.returns-in_err-command-in-Ok-clause-ends
returns-in_err-command-in-Ok-clause-ends g c =
    let D = g.D.SectorDevice in
    let made = drafted c.args.transaction in
    let form = c.args.form.now in
    let s = schema_of c.in-Ok.schema in
    let p = err_from_is_err_and c.from_residual.result c.from_residual.ensures.1 in
    rw (p.1, p.2)
    (λ first given begun.
    text_ends D.size D.story D.failed D.tells made (Text c.args.name form c.args.text) first given c.args.store.now (rows_of_text form s c.args.text.items) c.in_err-command-in-Ok.field-0.0 c.in_err-command-in-Ok.ensures.refused
    (λ refused is. text_is_refused form (entry_of made c.args.name.now) s c.args.text.items refused c.in-Ok.ensures.found is) (record { reads = begun.reads; fits = c.in-Ok.ensures.fits first given begun }))

pub returns-in_err-add-in-Some-clause-ends : goal.returns-in_err-add-in-Some-clause-ends
returns-in_err-add-in-Some-clause-ends g c =
    let made = drafted c.args.transaction in
    let name = c.args.name.now in
    let s = schema_of c.in-Ok.schema in
    let read = c.in_ok-command-in-Ok.ensures.read in
    let is : command_of c.in-Some.command ≡ append_rows name read.0 = subst (AppendsRows name s read.0) c.in-Some.is read.2 in
    let p = err_from_is_err_and c.from_residual-in_err-add-in-Some.result c.from_residual-in_err-add-in-Some.ensures.1 in
    rw (p.1, p.2)
    (λ first given begun. record {
      command = command_of c.in-Some.command;
      is = (read.0, text_has_rows c.args.form.now (entry_of made name) s c.args.text.items read.0 c.in-Ok.ensures.found read.1, is);
      refuses = c.in_err-add-in-Some.ensures.refused first given begun;
    })

pub returns-in-Some-clause-adds : goal.returns-in-Some-clause-adds
returns-in-Some-clause-adds g c = λ first given begun.
    let made = drafted c.args.transaction in
    let name = c.args.name.now in
    let s = schema_of c.in-Ok.schema in
    let read = c.in_ok-command-in-Ok.ensures.read in
    let is : command_of c.in-Some.command ≡ append_rows name read.0 = subst (AppendsRows name s read.0) c.in-Some.is read.2 in
    record {
      command = command_of c.in-Some.command;
      is = (read.0, text_has_rows c.args.form.now (entry_of made name) s c.args.text.items read.0 c.in-Ok.ensures.found read.1, is);
      drafts = c.in_ok-add-in-Some.ensures.drafts first given begun;
    }

-- its rows are too heavy
pub returns-in-Ok-clause-ends : goal.returns-in-Ok-clause-ends
returns-in-Ok-clause-ends g c = λ first given begun.
    let made = drafted c.args.transaction in
    let name = c.args.name.now in
    let s = schema_of c.in-Ok.schema in
    let read = c.in_ok-command-in-Ok.ensures.read in
    let heavy = heavy_for (entry_of made name) s read.0 c.in-Ok.ensures.found (subst (AppendsRows name s read.0) c.in-None.is read.2) in
    record {
      command = append_rows name read.0;
      is = (read.0, text_has_rows c.args.form.now (entry_of made name) s c.args.text.items read.0 c.in-Ok.ensures.found read.1, refl);
      refuses = c.refuse_heavy_rows_in-refusal.ensures.refused first given begun read.0 heavy;
    }

-- ---- there is no table

pub returns-in-Err-NoTable-clause-ends : goal.returns-in-Err-NoTable-clause-ends
returns-in-Err-NoTable-clause-ends g c = λ first given begun.
    let D = g.D.SectorDevice in
    let made = drafted c.args.transaction in
    let name = c.args.name.now in
    let store = c.args.store.now in
    let none = subst (λ (r : Refusal). RefusesSchema (is_halted store) (entry_of made name) r) c.in-Err-NoTable.field-0-is c.in-Err-NoTable.ensures.found in
    record {
      command = append_rows name [];
      is = ([], text_unread c.args.form.now (entry_of made name) c.args.text.items [] none.1, refl);
      refuses = subst (λ (r : Refusal). RefusesNext D.size D.story D.failed D.tells first given (append_rows name []) r store) c.in-Err-NoTable.field-0-is (c.in-Err-NoTable.ensures.refused first given begun []);
    }
