use Rattle.std.proofs.Common.{sym, ◌∙◌}
use Rattle.query.proofs.column_slots.TextBuffers.plain_text.Goals as goal

pub returns-then-are_plain-clause-text : goal.returns-then-are_plain-clause-text
returns-then-are_plain-clause-text c = record {
  valid = sym c.is_valid.ensures ∙ c.if-not-is_valid.false;
  contents = c.first_bytes-text.ensures.bytes;
  plain = rw c.if-are_plain.true at c.are_plain.ensures;
}
