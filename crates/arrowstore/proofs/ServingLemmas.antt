-- What commands of an open store do.
use Rattle.std.proofs.Common.{◌≡◌, ℕ, Bool, List, inr, sym, subst}
use Rattle.std.specs.Prelude.{◌⊎◌, Option, Result, Ok, Err, IfErr, OnOk}
use Rattle.std.specs.Borrow.{Bor}
use Rattle.sector_dev.specs.declared.device.SectorDevice.{Ghosts}
use Rattle.text_import.specs.declared.form.TextForm.{TextForm}
use Rattle.catalogue.specs.Entries.{PlainCatalogue, is_name}
use Rattle.catalogue.specs.Edits.{entry_of}
use Rattle.tables.specs.declared.refusal.Refusal.TheVariants.{BadName, NoTable}
use Rattle.tables.specs.Commands.{import_stream, append_stream}
use Rattle.store.specs.declared.store.Store.{Store}
use Rattle.store_runs.specs.Deciding.{has_entry}
use Rattle.store.specs.Fits.{is_halted, listed_in}
use Rattle.cli_reports.specs.declared.refusal.Refusal.{Refusal}
use Rattle.cli_commands.specs.TextRows.{RefusesText}
use Rattle.arrowstore.specs.declared.open_command.OpenCommand.{OpenCommand}
use Rattle.arrowstore.specs.declared.open_command.OpenCommand.TheVariants as opened
use Rattle.arrowstore.specs.OnFiles.{FailsToOpen, IsFirst, OpensStore}
use Rattle.arrowstore.specs.Serving.{Channels, CarriesInput, CarriesNew, CarriesText, Serves}

module _ {D : Type 0} {g : Ghosts D} {R W : Type 0} (remaining : R → Option (List ℕ)) (contents : W → Option (List ℕ)) (command : OpenCommand) (name : Bor (List ℕ))
    (old new : Store D g) (before after : Channels R W) (result : Result (Unit {0}) Refusal) where
  pub serves_import : command ≡ opened.Import name
      → CarriesInput remaining contents (import_stream name.now) (is_name name.now) BadName old new before after result
      → Serves remaining contents command old new before after result
  unfolding Serves
  serves_import is carries = subst (λ (c : OpenCommand). Serves remaining contents c old new before after result) (sym is) carries

  pub serves_new : command ≡ opened.ImportNew name → CarriesNew remaining contents name.now old new before after result
      → Serves remaining contents command old new before after result
  unfolding Serves
  serves_new is carries = subst (λ (c : OpenCommand). Serves remaining contents c old new before after result) (sym is) carries

  pub serves_append : command ≡ opened.Append name
      → CarriesInput remaining contents (append_stream name.now) (has_entry (listed_in old) name.now) NoTable old new before after result
      → Serves remaining contents command old new before after result
  unfolding Serves
  serves_append is carries = subst (λ (c : OpenCommand). Serves remaining contents c old new before after result) (sym is) carries

  pub serves_text : (form : TextForm) → command ≡ opened.AppendText name form
      → CarriesText contents (remaining before.input) form name.now (RefusesText remaining form (is_halted old) (entry_of (listed_in old) name.now) before.input after.input) old new before after result
      → Serves remaining contents command old new before after result
  unfolding Serves
  serves_text form is carries = subst (λ (c : OpenCommand). Serves remaining contents c old new before after result) (sym is) carries

-- what is served of one command is served of the same one
pub serves_as : {D : Type 0} {g : Ghosts D} {R W : Type 0} (remaining : R → Option (List ℕ)) (contents : W → Option (List ℕ)) (command same : OpenCommand) (old new : Store D g)
    (before after : Channels R W) (result : Result (Unit {0}) Refusal) → command ≡ same → Serves remaining contents same old new before after result → Serves remaining contents command old new before after result
serves_as remaining contents command same old new before after result is serves = subst (λ (c : OpenCommand). Serves remaining contents c old new before after result) (sym is) serves

-- what is tested on a store that was opened for it
module _ {D : Type 0} (g : Ghosts D) (is_opened : D → Type 0) (store : Store D g) (opens : OpensStore g is_opened store) where
  pub first_passes : (passes : Bool → PlainCatalogue → Type 0) (result : Result (Unit {0}) Refusal) → OnOk result (passes (is_halted store) (listed_in store))
      → OnOk result (IsFirst g is_opened passes)
  first_passes passes (Ok unit) passed = (store, opens, passed)
  first_passes passes (Err e) passed = tt

  pub first_refuses : (refuses : Bool → PlainCatalogue → Refusal → Type 0) (result : Result (Unit {0}) Refusal)
      → IfErr result (refuses (is_halted store) (listed_in store))
      → IfErr result (λ refusal. FailsToOpen g is_opened refusal ⊎ IsFirst g is_opened (λ halted c. refuses halted c refusal))
  first_refuses refuses (Ok unit) refused = tt
  first_refuses refuses (Err e) refused = inr (store, opens, refused)
