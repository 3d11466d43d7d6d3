use Rattle.cli_requests.proofs.AppLemmas.{own_of}
use Rattle.cli_requests.proofs.command_parameters.command.Goals as goal

pub returns-in-Nothing : goal.returns-in-Nothing
returns-in-Nothing c = own_of _ _ _ _ c.parameters_of.ensures c.in-Nothing.is c.with_file.ensures

pub returns-in-FileAndForm : goal.returns-in-FileAndForm
returns-in-FileAndForm c = own_of _ _ _ _ c.parameters_of.ensures c.in-FileAndForm.is c.with_form.ensures

pub returns-in-FileAndSteps : goal.returns-in-FileAndSteps
returns-in-FileAndSteps c = own_of _ _ _ _ c.parameters_of.ensures c.in-FileAndSteps.is c.with_steps.ensures

pub returns-in-FileAndDigests : goal.returns-in-FileAndDigests
returns-in-FileAndDigests c = own_of _ _ _ _ c.parameters_of.ensures c.in-FileAndDigests.is c.with_digests.ensures

pub returns-in-FileAndDeletion : goal.returns-in-FileAndDeletion
returns-in-FileAndDeletion c = own_of _ _ _ _ c.parameters_of.ensures c.in-FileAndDeletion.is c.with_deletion.ensures

pub returns-in-Table : goal.returns-in-Table
returns-in-Table c = own_of _ _ _ _ c.parameters_of.ensures c.in-Table.is c.with_table.ensures

pub returns-in-TableToDescribe : goal.returns-in-TableToDescribe
returns-in-TableToDescribe c = own_of _ _ _ _ c.parameters_of.ensures c.in-TableToDescribe.is c.with_description.ensures

pub returns-in-TableToImport : goal.returns-in-TableToImport
returns-in-TableToImport c = own_of _ _ _ _ c.parameters_of.ensures c.in-TableToImport.is c.with_import.ensures

pub returns-in-TableAndNewName : goal.returns-in-TableAndNewName
returns-in-TableAndNewName c = own_of _ _ _ _ c.parameters_of.ensures c.in-TableAndNewName.is c.with_new_name.ensures

pub returns-in-Sectors : goal.returns-in-Sectors
returns-in-Sectors c = own_of _ _ _ _ c.parameters_of.ensures c.in-Sectors.is c.with_sectors.ensures

pub returns-in-NewStore : goal.returns-in-NewStore
returns-in-NewStore c = own_of _ _ _ _ c.parameters_of.ensures c.in-NewStore.is c.with_new_store.ensures

pub returns-in-Script : goal.returns-in-Script
returns-in-Script c = own_of _ _ _ _ c.parameters_of.ensures c.in-Script.is c.with_script.ensures

pub returns-in-TableAndFields : goal.returns-in-TableAndFields
returns-in-TableAndFields c = own_of _ _ _ _ c.parameters_of.ensures c.in-TableAndFields.is c.with_new_table.ensures

pub returns-in-TableAndRows : goal.returns-in-TableAndRows
returns-in-TableAndRows c = own_of _ _ _ _ c.parameters_of.ensures c.in-TableAndRows.is c.with_rows.ensures

pub returns-in-TableAndQuery : goal.returns-in-TableAndQuery
returns-in-TableAndQuery c = own_of _ _ _ _ c.parameters_of.ensures c.in-TableAndQuery.is c.with_query.ensures

pub returns-in-ScriptAndFaults : goal.returns-in-ScriptAndFaults
returns-in-ScriptAndFaults c = own_of _ _ _ _ c.parameters_of.ensures c.in-ScriptAndFaults.is c.with_faults.ensures
