use Rattle.std.proofs.Common.{false, map, refl}
use Rattle.std.proofs.lemmas.Bool.{both_ways}
use Rattle.arrow_schema.specs.View.{column_of}
use Rattle.field_texts.proofs.Parsing.{reported_ok, reported_past, reported_deep, plain_schema}
use Rattle.field_texts.proofs.parse.parse_fields.Goals as goal

pub returns-in-Err-Unread : goal.returns-in-Err-Unread
returns-in-Err-Unread c = record { reported = reported_deep _ c.in_ok-test_texts.ensures (rw c.in-Err-Unread.field-0-is at c.in-Err-Unread.ensures) }

pub returns-in-Ok-check : goal.returns-in-Ok-check
returns-in-Ok-check c = record {
  reported = reported_ok _ _ _ c.in_ok-test_texts.ensures c.in-Ok.ensures (plain_schema (map column_of c.in-Ok.fields.items) c.new.result.items c.new.ensures.items) (c.in-Ok-check.ensures.within.0 refl);
}

pub returns-in-Err : goal.returns-in-Err
returns-in-Err c = record {
  reported = reported_past _ _ _ c.in_ok-test_texts.ensures c.in-Ok.ensures (plain_schema (map column_of c.in-Ok.fields.items) c.new.result.items c.new.ensures.items) (λ w. both_ways false refl (c.in-Err.ensures.within.1 w));
}
