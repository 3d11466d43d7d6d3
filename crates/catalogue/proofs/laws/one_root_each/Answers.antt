use Rattle.catalogue.proofs.Again.{root_again, roots_apart}
use Rattle.catalogue.proofs.Spelled.{root_spelled}
use Rattle.catalogue.proofs.Sizes.{root_has_size}
use Rattle.catalogue.proofs.laws.one_root_each.Goals as goal

pub returns-clause-kept : goal.returns-clause-kept
returns-clause-kept c = λ bytes rs h. let r = root_spelled bytes rs h in (r.named, r.order, r.tables)

pub returns-clause-found : goal.returns-clause-found
returns-clause-found c = λ bytes rs small h. (root_spelled bytes rs h).spelled small

pub returns-clause-again : goal.returns-clause-again
returns-clause-again c = root_again

pub returns-clause-apart : goal.returns-clause-apart
returns-clause-apart c = roots_apart

pub returns-clause-size : goal.returns-clause-size
returns-clause-size c = root_has_size
