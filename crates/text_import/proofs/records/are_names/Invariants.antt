use Rattle.std.proofs.Common.{◌≡◌, map, drop}
use Rattle.csv.specs.Records.{fields_of}
use Rattle.arrow_schema.specs.View.{column_of}
use Rattle.text_import.specs.Records.{are_names}
use Rattle.text_import.proofs.records.are_names.Given as goal

abbrev pub invariant-loop-i : goal.invariant-loop-i
invariant-loop-i l = are_names (drop l.i (fields_of l.row)) (map column_of (drop l.i l.fields)) ≡ are_names (fields_of l.row) (map column_of l.fields)
