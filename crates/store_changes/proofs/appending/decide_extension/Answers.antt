use Rattle.std.proofs.Common.{◌≡◌, Some, None, Ok, inl, inr, refl, ap, sym, ◌∙◌, string_bytes}
use Rattle.values.specs.TableView.{table_of}
use Rattle.catalogue.specs.Entries.{plain_entry}
use Rattle.store_runs.specs.Deciding.{Addition}
use Rattle.store_changes.proofs.Appended.{behind_by, light_passed}
use Rattle.store_changes.specs.laws.Quiet.{memory_quiet, weight_quiet}
use Rattle.store_changes.proofs.appending.decide_extension.Goals as goal

pub returns-in-Err-clause-answers : goal.returns-in-Err-clause-answers
returns-in-Err-clause-answers c =
    let a : Addition = record { entry = plain_entry c.args.entry.now; rows = (table_of c.args.new).rows } in
    inr (λ standing is. sym (behind_by (string_bytes c.args.name) a standing c.args.weight (Some c.in-Err.refusal) is c.in-Err.ensures))

pub returns-in-Err-clause-no_device : goal.returns-in-Err-clause-no_device
returns-in-Err-clause-no_device c = (weight_quiet c.args.weight c.in-Err.refusal c.in-Err.ensures).device

pub returns-in-Err-clause-not_halted : goal.returns-in-Err-clause-not_halted
returns-in-Err-clause-not_halted c = (weight_quiet c.args.weight c.in-Err.refusal c.in-Err.ensures).halted

pub returns-in-Ok-extension-clause-ok : goal.returns-in-Ok-extension-clause-ok
returns-in-Ok-extension-clause-ok c = c.in-Ok-extension.ensures.ok

pub returns-in-Ok-extension-clause-answers : goal.returns-in-Ok-extension-clause-answers
returns-in-Ok-extension-clause-answers c =
    let a : Addition = record { entry = plain_entry c.args.entry.now; rows = (table_of c.args.new).rows } in
    inr (λ standing is. ap Ok c.in-Ok-extension.ensures.change ∙ sym (behind_by (string_bytes c.args.name) a standing c.args.weight None is c.in-Ok.ensures))

pub returns-in-Ok-extension-clause-light : goal.returns-in-Ok-extension-clause-light
returns-in-Ok-extension-clause-light c = (light_passed c.args.weight c.in-Ok.ensures, c.in-Ok-extension.ensures.change)

pub returns-in-Err-extension-clause-answers : goal.returns-in-Err-extension-clause-answers
returns-in-Err-extension-clause-answers c = inl refl

pub returns-in-Err-extension-clause-no_device : goal.returns-in-Err-extension-clause-no_device
returns-in-Err-extension-clause-no_device c = memory_quiet.device

pub returns-in-Err-extension-clause-not_halted : goal.returns-in-Err-extension-clause-not_halted
returns-in-Err-extension-clause-not_halted c = memory_quiet.halted
