use Rattle.std.proofs.Common.{◌∙◌, sym}
use Rattle.text_import.proofs.PartLemmas.{headless}
use Rattle.text_import.proofs.part.part_of_header.Goals as goal

pub returns : goal.returns
returns c = c.header_count.ensures ∙ sym (headless c.args.fields.now c.args.text.now (c.in_ok-record_at.ensures.none c.if-branch.false))
