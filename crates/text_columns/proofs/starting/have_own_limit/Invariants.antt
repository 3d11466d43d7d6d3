use Rattle.std.proofs.Common.{map, take}
use Rattle.arrow_schema.specs.View.{column_of}
use Rattle.text_columns.specs.inner.Kept.{AreUnlimited}
use Rattle.text_columns.proofs.starting.have_own_limit.Given as goal

abbrev pub invariant-loop-field : goal.invariant-loop-field
invariant-loop-field l = AreUnlimited (map column_of (take l.field-index l.fields))
