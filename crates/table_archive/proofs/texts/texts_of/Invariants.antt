-- The texts so far are those of the first fields.
use Rattle.std.proofs.Common.{map, take, string_bytes}
use Rattle.arrow_schema.specs.View.{column_of}
use Rattle.field_texts.specs.Reported.{AreTextsOf}
use Rattle.table_archive.proofs.texts.texts_of.Given as goal

abbrev pub invariant-loop-place : goal.invariant-loop-place
invariant-loop-place l = AreTextsOf (map string_bytes l.texts.items) (take l.place (map column_of l.fields))
