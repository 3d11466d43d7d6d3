use Rattle.std.proofs.Common.{◌∙◌, ap, refl, sym}
use Rattle.json.specs.Json.{read_key}
use Rattle.text_columns.proofs.plain_reader.PlainReader.next_key.Goals as goal

pub returns-then-close : goal.returns-then-close
returns-then-close c = record { value = ap read_key ((c.close.ensures.closes c.if-close.true).1 refl) }

pub returns-in-Some : goal.returns-in-Some
returns-in-Some c = record { value = ap read_key (sym (c.close.ensures.stays c.if-close.false) ∙ c.in-Some.ensures) }
