use Rattle.std.proofs.Common.{refl}
use Rattle.cli_reports.proofs.status.Status.code.Goals as goal

pub returns-in-WrongArguments : goal.returns-in-WrongArguments
returns-in-WrongArguments c = rw c.in-WrongArguments.is refl
