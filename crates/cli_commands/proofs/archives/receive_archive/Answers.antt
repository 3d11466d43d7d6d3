use Rattle.std.specs.Prelude.{Ok, Err}
use Rattle.std.proofs.Common.{refl, ap}
use Rattle.cli_commands.proofs.ArchiveLemmas.{reports_done}
use Rattle.cli_commands.proofs.archives.receive_archive.Goals as goal

pub returns-in-Ok-clause-received : goal.returns-in-Ok-clause-received
returns-in-Ok-clause-received g c = (Ok tt, c.in-Ok.ensures.received, reports_done c.write_whole.result c.write_whole.ensures.io)

pub returns-in-Err-clause-received : goal.returns-in-Err-clause-received
returns-in-Err-clause-received g c = (Err c.in-Err.refusal, c.in-Err.ensures.refused, ap Err c.receive_refusal.ensures)
