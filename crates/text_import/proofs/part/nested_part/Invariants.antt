use Rattle.std.proofs.Common.{◌≡◌, map, drop}
use Rattle.arrow_schema.specs.View.{column_of}
use Rattle.text_import.specs.Part.{nested_part}
use Rattle.text_import.proofs.part.nested_part.Given as goal

abbrev pub invariant-loop-field : goal.invariant-loop-field
invariant-loop-field l = nested_part (map column_of (drop l.field-index l.fields)) ≡ nested_part (map column_of l.fields)
