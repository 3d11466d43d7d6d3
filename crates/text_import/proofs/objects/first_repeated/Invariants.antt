use Rattle.std.proofs.Common.{◌≡◌, map, drop}
use Rattle.arrow_schema.specs.Column.{columns_of}
use Rattle.arrow_schema.specs.View.{column_of}
use Rattle.text_import.specs.Objects.{names_of}
use Rattle.text_import.specs.ValuePart.{first_repeated}
use Rattle.text_import.proofs.objects.first_repeated.Given as goal

abbrev pub invariant-loop-i : goal.invariant-loop-i
invariant-loop-i l = first_repeated (names_of (columns_of (map column_of (drop l.i l.fields)))) ≡ first_repeated (names_of (columns_of (map column_of l.fields)))
