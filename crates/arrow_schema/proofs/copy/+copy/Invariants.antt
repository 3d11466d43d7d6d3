use Rattle.std.proofs.Common.{◌≡◌, map, take}
use Rattle.arrow_schema.specs.View.{column_of}
use Rattle.arrow_schema.proofs.copy.+copy.Given as goal

abbrev pub invariant-copy_fields-loop-field : goal.invariant-copy_fields-loop-field
invariant-copy_fields-loop-field l = map column_of l.copies.items ≡ map column_of (take l.field-index l.fields)
