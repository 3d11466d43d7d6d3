use Rattle.pages.specs.Stored.{form_of}
use Rattle.pages.proofs.Holding.{read_pages_hold, read_stands, read_formed}
use Rattle.pages.proofs.laws.pages_hold_what_was_read.Goals as goal

pub returns-clause-kept : goal.returns-clause-kept
returns-clause-kept c = λ size image k text found limits is.
    read_stands c.one_text_each.ensures.kept (λ bytes rs h. let p = c.one_root_each.ensures.kept bytes rs h in record { named = p.0; order = p.1; tables = p.2 }) (form_of k.version) size image k.kind text found limits is

pub returns-clause-held : goal.returns-clause-held
returns-clause-held c = λ size image k text found is. read_pages_hold c.one_text_each.ensures.pageless (form_of k.version) size image k.kind text found is

pub returns-clause-formed : goal.returns-clause-formed
returns-clause-formed c = λ size image k text found is. read_formed c.one_text_each.ensures.formed c.one_page_each.ensures.formed (form_of k.version) size image k.kind text found is
