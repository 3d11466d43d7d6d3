use Rattle.cli_commands.proofs.ReadingLemmas.{read_unwritten}
use Rattle.cli_commands.proofs.SalvagingLemmas.{table_of_write, unwritten}
use Rattle.cli_commands.proofs.salvaging.salvage_table.Goals as goal

pub returns-in-Err-Write-clause-told : goal.returns-in-Err-Write-clause-told
returns-in-Err-Write-clause-told g c = table_of_write _ _ c.in-Err-Write.field-0 c.in-Err-Write.field-0-is c.in-Err-Write.ensures.told

pub returns-in-Err-Write-clause-reads : goal.returns-in-Err-Write-clause-reads
returns-in-Err-Write-clause-reads g c = let D = g.D.SectorDevice in read_unwritten D.story D.size D.failed D.tells _ _ _ c.in-Err-Write.field-0-is c.in-Err-Write.ensures.reads

pub returns-in-Err-clause-silent : goal.returns-in-Err-clause-silent
returns-in-Err-clause-silent g c = unwritten _ _ c.in-Err.refusal _ _ c.in-Err.ensures.halted c.in-Err.ensures.no_table c.in-Err.ensures.told
