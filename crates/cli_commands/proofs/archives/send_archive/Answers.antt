use Rattle.cli_commands.proofs.ArchiveLemmas.{open_by_write}
use Rattle.cli_commands.proofs.ReadingLemmas.{read_unwritten}
use Rattle.cli_commands.proofs.archives.send_archive.Goals as goal

pub returns-in-Err-Write-clause-told : goal.returns-in-Err-Write-clause-told
returns-in-Err-Write-clause-told g c = open_by_write _ c.in-Err-Write.field-0 c.in-Err-Write.field-0-is c.in-Err-Write.ensures.told

pub returns-in-Err-Write-clause-reads : goal.returns-in-Err-Write-clause-reads
returns-in-Err-Write-clause-reads g c = let D = g.D.SectorDevice in read_unwritten D.story D.size D.failed D.tells _ _ _ c.in-Err-Write.field-0-is c.in-Err-Write.ensures.reads
