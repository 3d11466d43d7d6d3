use Rattle.std.proofs.Common.{refl}
use Rattle.cli_commands.proofs.creating.rename_table.Goals as goal

pub returns : goal.returns
returns c = rw (c.in_ok-from_str.ensures.ok, c.in_ok-from_str-2.ensures.ok) refl
