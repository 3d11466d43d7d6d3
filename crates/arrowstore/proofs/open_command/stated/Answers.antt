use Rattle.std.proofs.Common.{refl}
use Rattle.arrowstore.specs.OpenCommands.{States}
use Rattle.cli_requests.specs.StoreWords.{changes_by_input_word, takes_input_word}
use Rattle.arrowstore.proofs.open_command.stated.Goals as goal

-- which of them read the input

pub returns-in_ok-create-in-Create-clause-reads : goal.returns-in_ok-create-in-Create-clause-reads
unfolding changes_by_input_word takes_input_word
returns-in_ok-create-in-Create-clause-reads c = rw c.in-Create.is refl

pub returns-in-CreateLike-clause-reads : goal.returns-in-CreateLike-clause-reads
unfolding changes_by_input_word takes_input_word
returns-in-CreateLike-clause-reads c = rw c.in-CreateLike.is refl

pub returns-in-Import-clause-reads : goal.returns-in-Import-clause-reads
unfolding changes_by_input_word takes_input_word
returns-in-Import-clause-reads c = rw c.in-Import.is refl

pub returns-in-ImportNew-clause-reads : goal.returns-in-ImportNew-clause-reads
unfolding changes_by_input_word takes_input_word
returns-in-ImportNew-clause-reads c = rw c.in-ImportNew.is refl

pub returns-in-ImportComplete-clause-reads : goal.returns-in-ImportComplete-clause-reads
unfolding changes_by_input_word takes_input_word
returns-in-ImportComplete-clause-reads c = rw c.in-ImportComplete.is refl

pub returns-in-AppendComplete-clause-reads : goal.returns-in-AppendComplete-clause-reads
unfolding changes_by_input_word takes_input_word
returns-in-AppendComplete-clause-reads c = rw c.in-AppendComplete.is refl

pub returns-in-Append-clause-reads : goal.returns-in-Append-clause-reads
unfolding changes_by_input_word takes_input_word
returns-in-Append-clause-reads c = rw c.in-Append.is refl

pub returns-in-AppendText-clause-reads : goal.returns-in-AppendText-clause-reads
unfolding changes_by_input_word takes_input_word
returns-in-AppendText-clause-reads c = rw c.in-AppendText.is refl

pub returns-in_ok-query-in-Query-clause-reads : goal.returns-in_ok-query-in-Query-clause-reads
unfolding changes_by_input_word takes_input_word
returns-in_ok-query-in-Query-clause-reads c = rw c.in-Query.is refl

pub returns-in_ok-save_as-in-SaveAs-clause-reads : goal.returns-in_ok-save_as-in-SaveAs-clause-reads
unfolding changes_by_input_word takes_input_word
returns-in_ok-save_as-in-SaveAs-clause-reads c = rw c.in-SaveAs.is refl

pub returns-in_ok-rename_table-in-Rename-clause-reads : goal.returns-in_ok-rename_table-in-Rename-clause-reads
unfolding changes_by_input_word takes_input_word
returns-in_ok-rename_table-in-Rename-clause-reads c = rw c.in-Rename.is refl

pub returns-in_ok-drop_table-in-Drop-clause-reads : goal.returns-in_ok-drop_table-in-Drop-clause-reads
unfolding changes_by_input_word takes_input_word
returns-in_ok-drop_table-in-Drop-clause-reads c = rw c.in-Drop.is refl

pub returns-in-Tables-clause-reads : goal.returns-in-Tables-clause-reads
unfolding changes_by_input_word takes_input_word
returns-in-Tables-clause-reads c = rw c.in-Tables.is refl

pub returns-in-Schema-clause-reads : goal.returns-in-Schema-clause-reads
unfolding changes_by_input_word takes_input_word
returns-in-Schema-clause-reads c = rw c.in-Schema.is refl

pub returns-in-SchemaFields-clause-reads : goal.returns-in-SchemaFields-clause-reads
unfolding changes_by_input_word takes_input_word
returns-in-SchemaFields-clause-reads c = rw c.in-SchemaFields.is refl

pub returns-in-Export-clause-reads : goal.returns-in-Export-clause-reads
unfolding changes_by_input_word takes_input_word
returns-in-Export-clause-reads c = rw c.in-Export.is refl

pub returns-in-Check-clause-reads : goal.returns-in-Check-clause-reads
unfolding changes_by_input_word takes_input_word
returns-in-Check-clause-reads c = rw c.in-Check.is refl

pub returns-in-Info-clause-reads : goal.returns-in-Info-clause-reads
unfolding changes_by_input_word takes_input_word
returns-in-Info-clause-reads c = rw c.in-Info.is refl

pub returns-in-Upgrade-clause-reads : goal.returns-in-Upgrade-clause-reads
unfolding changes_by_input_word takes_input_word
returns-in-Upgrade-clause-reads c = rw c.in-Upgrade.is refl

pub returns-in-Compact-clause-reads : goal.returns-in-Compact-clause-reads
unfolding changes_by_input_word takes_input_word
returns-in-Compact-clause-reads c = rw c.in-Compact.is refl

pub returns-in-Have-clause-reads : goal.returns-in-Have-clause-reads
unfolding changes_by_input_word takes_input_word
returns-in-Have-clause-reads c = rw c.in-Have.is refl

-- what those state that own nothing

pub returns-in-CreateLike-clause-stated : goal.returns-in-CreateLike-clause-stated
unfolding States
returns-in-CreateLike-clause-stated c = rw c.in-CreateLike.is (refl, refl)

pub returns-in-Import-clause-stated : goal.returns-in-Import-clause-stated
unfolding States
returns-in-Import-clause-stated c = rw c.in-Import.is refl

pub returns-in-ImportNew-clause-stated : goal.returns-in-ImportNew-clause-stated
unfolding States
returns-in-ImportNew-clause-stated c = rw c.in-ImportNew.is refl

pub returns-in-ImportComplete-clause-stated : goal.returns-in-ImportComplete-clause-stated
unfolding States
returns-in-ImportComplete-clause-stated c = rw c.in-ImportComplete.is (refl, refl)

pub returns-in-AppendComplete-clause-stated : goal.returns-in-AppendComplete-clause-stated
unfolding States
returns-in-AppendComplete-clause-stated c = rw c.in-AppendComplete.is refl

pub returns-in-Append-clause-stated : goal.returns-in-Append-clause-stated
unfolding States
returns-in-Append-clause-stated c = rw c.in-Append.is refl

pub returns-in-AppendText-clause-stated : goal.returns-in-AppendText-clause-stated
unfolding States
returns-in-AppendText-clause-stated c = rw c.in-AppendText.is (refl, refl)

pub returns-in-Tables-clause-stated : goal.returns-in-Tables-clause-stated
unfolding States
returns-in-Tables-clause-stated c = rw c.in-Tables.is tt

pub returns-in-Schema-clause-stated : goal.returns-in-Schema-clause-stated
unfolding States
returns-in-Schema-clause-stated c = rw c.in-Schema.is refl

pub returns-in-SchemaFields-clause-stated : goal.returns-in-SchemaFields-clause-stated
unfolding States
returns-in-SchemaFields-clause-stated c = rw c.in-SchemaFields.is refl

pub returns-in-Export-clause-stated : goal.returns-in-Export-clause-stated
unfolding States
returns-in-Export-clause-stated c = rw c.in-Export.is refl

pub returns-in-Check-clause-stated : goal.returns-in-Check-clause-stated
unfolding States
returns-in-Check-clause-stated c = rw c.in-Check.is tt

pub returns-in-Info-clause-stated : goal.returns-in-Info-clause-stated
unfolding States
returns-in-Info-clause-stated c = rw c.in-Info.is refl

pub returns-in-Upgrade-clause-stated : goal.returns-in-Upgrade-clause-stated
unfolding States
returns-in-Upgrade-clause-stated c = rw c.in-Upgrade.is tt

pub returns-in-Compact-clause-stated : goal.returns-in-Compact-clause-stated
unfolding States
returns-in-Compact-clause-stated c = rw c.in-Compact.is refl
