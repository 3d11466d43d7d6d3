use Rattle.std.specs.List.{slice_split}
use Rattle.std.proofs.Common.{◌≡◌, ◌≤◌, ◌==◌, []}
use Rattle.arrow_schema.specs.Column.{columns_of}
use Rattle.arrow_schema.specs.View.{schema_of}
use Rattle.text_import.specs.Objects.{names_of}
use Rattle.text_columns.specs.inner.Batches.{HoldRows}
use Rattle.text_columns.specs.inner.Kept.{key_list}
use Rattle.text_import.specs.inner.Lines.{lines_left, size_left}
use Rattle.text_columns.proofs.LineRows.{LinesRead}
use Rattle.text_columns.proofs.lines.push_lines.Given as goal

abbrev pub invariant-loop-left : goal.invariant-loop-left
invariant-loop-left l = record {
  few : l.weight ≤ 268435456;
  read : names_of (columns_of (schema_of l.schema).columns) ≡ key_list l.names.keys → HoldRows (schema_of l.schema) [] l.initial.batches
      → LinesRead l.date_form (schema_of l.schema) (slice_split (λ b. b == 10) l.text) (lines_left l.left) l.weight l.batches;
}

abbrev pub decreases-loop-left : goal.decreases-loop-left
decreases-loop-left l = size_left l.left
