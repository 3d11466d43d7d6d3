-- The members so far, and those of the fields and values that are left, are all of them.
use Rattle.std.proofs.Common.{◌≡◌, ◌++◌, map, drop}
use Rattle.arrow_schema.specs.Parts.{name_of_column}
use Rattle.arrow_schema.specs.View.{column_of}
use Rattle.columns.specs.Borrowed.{values_left}
use Rattle.query.specs.ObjectLine.{other_members}
use Rattle.query.proofs.object_line.push_other_members.Given as goal

abbrev pub invariant-loop-field : goal.invariant-loop-field
invariant-loop-field l = record {
  text : l.out.items ++ other_members (map name_of_column (map column_of (drop l.field-index l.fields))) (values_left l.values)
      ≡ l.initial.out.items ++ other_members (map name_of_column (map column_of l.fields)) (values_left l.initial.values);
  can : (goal.iterator-loop-field).can_next l.values;
  finite : (goal.iterator-loop-field).is_finite l.values;
}
