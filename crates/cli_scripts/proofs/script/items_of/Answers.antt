use Rattle.std.proofs.Common.{ap, option_map, refl}
use Rattle.cli_scripts.specs.Plain.{plain_list}
use Rattle.cli_scripts.proofs.script.items_of.Goals as goal

pub returns-in-Some-clause-open : goal.returns-in-Some-clause-open
returns-in-Some-clause-open c = (plain_list c.in-Some.list, ap (option_map plain_list) c.in-Some.is, refl)
