use Rattle.catalogue.proofs.Again.{catalogue_again, texts_apart}
use Rattle.catalogue.proofs.Spelled.{catalogue_spelled, catalogue_pageless}
use Rattle.catalogue.proofs.laws.one_text_each.Goals as goal

pub returns-clause-kept : goal.returns-clause-kept
returns-clause-kept c = λ form bytes k h. (catalogue_spelled form bytes k h).kept

pub returns-clause-formed : goal.returns-clause-formed
returns-clause-formed c = λ form bytes k h. (catalogue_spelled form bytes k h).formed

pub returns-clause-found : goal.returns-clause-found
returns-clause-found c = λ form bytes k small h. (catalogue_spelled form bytes k h).spelled small

pub returns-clause-again : goal.returns-clause-again
returns-clause-again c = catalogue_again c.schemas_are_read_again.ensures

pub returns-clause-pageless : goal.returns-clause-pageless
returns-clause-pageless c = catalogue_pageless

pub returns-clause-apart : goal.returns-clause-apart
returns-clause-apart c = texts_apart c.schemas_are_read_again.ensures
