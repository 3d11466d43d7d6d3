use Rattle.std.proofs.Common.{◌≡◌, map, drop}
use Rattle.std.specs.List.{list_any}
use Rattle.arrow_schema.specs.View.{column_of}
use Rattle.text_import.specs.Records.{is_nested_column}
use Rattle.text_import.proofs.records.has_nested.Given as goal

abbrev pub invariant-loop-field : goal.invariant-loop-field
invariant-loop-field l = list_any is_nested_column (map column_of (drop l.field-index l.fields)) ≡ list_any is_nested_column (map column_of l.fields)
