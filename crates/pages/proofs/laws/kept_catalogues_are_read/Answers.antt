use Rattle.pages.proofs.Keeping.{texts_sized, text_sized, kept_is_read}
use Rattle.pages.proofs.laws.kept_catalogues_are_read.Goals as goal

pub returns-clause-pages : goal.returns-clause-pages
returns-clause-pages c = texts_sized c.one_page_each.ensures.size

pub returns-clause-text : goal.returns-clause-text
returns-clause-text c = text_sized c.texts_have_these_sizes.ensures c.one_root_each.ensures.size

pub returns-clause-read : goal.returns-clause-read
returns-clause-read c = kept_is_read c.one_text_each.ensures.again c.one_root_each.ensures.again c.one_page_each.ensures.again c.one_page_each.ensures.size
