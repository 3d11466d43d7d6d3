use Rattle.ipc_write.proofs.FieldRead.{field_read, field_fine}
use Rattle.ipc_write.proofs.laws.field_is_read_again.Goals as goal

pub returns : goal.returns
returns c = record { read = field_read; walked = field_fine }
