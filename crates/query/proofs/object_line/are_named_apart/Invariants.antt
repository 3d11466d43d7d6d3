-- The names that are left are each of one field where all are.
use Rattle.std.proofs.Common.{◌≡◌, map, drop}
use Rattle.std.specs.List.{list_all}
use Rattle.arrow_schema.specs.Parts.{name_of_column}
use Rattle.arrow_schema.specs.View.{column_of}
use Rattle.query.specs.ObjectLine.{is_of_one, are_named_apart}
use Rattle.query.proofs.object_line.are_named_apart.Given as goal

abbrev pub invariant-loop-field : goal.invariant-loop-field
invariant-loop-field l =
    list_all (is_of_one (map column_of l.fields)) (map name_of_column (map column_of (drop l.field-index l.fields))) ≡ are_named_apart (map column_of l.fields)
