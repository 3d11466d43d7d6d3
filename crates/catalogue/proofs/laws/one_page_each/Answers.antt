use Rattle.catalogue.proofs.Again.{page_again, pages_apart}
use Rattle.catalogue.proofs.Spelled.{page_spelled}
use Rattle.catalogue.proofs.Sizes.{table_has_size}
use Rattle.catalogue.proofs.laws.one_page_each.Goals as goal

pub returns-clause-kept : goal.returns-clause-kept
returns-clause-kept c = λ form most bytes e h. let p = page_spelled form most bytes e h in (p.kept, p.segments, p.few)

pub returns-clause-formed : goal.returns-clause-formed
returns-clause-formed c = λ form most bytes e h. (page_spelled form most bytes e h).formed

pub returns-clause-found : goal.returns-clause-found
returns-clause-found c = λ form most bytes e small h. (page_spelled form most bytes e h).spelled small

pub returns-clause-again : goal.returns-clause-again
returns-clause-again c = page_again c.schemas_are_read_again.ensures

pub returns-clause-apart : goal.returns-clause-apart
returns-clause-apart c = pages_apart c.schemas_are_read_again.ensures

pub returns-clause-size : goal.returns-clause-size
returns-clause-size c = table_has_size
