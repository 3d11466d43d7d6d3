use Rattle.std.proofs.Common.{◌≡◌, map, drop}
use Rattle.arrow_schema.specs.Column.{columns_of}
use Rattle.arrow_schema.specs.View.{column_of}
use Rattle.text_import.specs.Objects.{has_name, names_of}
use Rattle.text_import.proofs.objects.has_name.Given as goal

abbrev pub invariant-loop-field : goal.invariant-loop-field
invariant-loop-field l = has_name (names_of (columns_of (map column_of (drop l.field-index l.fields)))) l.name ≡ has_name (names_of (columns_of (map column_of l.fields))) l.name
