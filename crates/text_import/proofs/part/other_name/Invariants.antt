use Rattle.std.proofs.Common.{◌≡◌, map, drop}
use Rattle.csv.specs.Records.{fields_of}
use Rattle.arrow_schema.specs.View.{column_of}
use Rattle.text_import.specs.Part.{other_name}
use Rattle.text_import.proofs.part.other_name.Given as goal

abbrev pub invariant-loop-i : goal.invariant-loop-i
invariant-loop-i l = other_name (drop l.i (fields_of l.header)) (map column_of (drop l.i l.fields)) ≡ other_name (fields_of l.header) (map column_of l.fields)
