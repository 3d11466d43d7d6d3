use Rattle.std.proofs.Common.{◌+◌, ◌≤◌, length}
use Rattle.arrow_schema.specs.View.{schema_of}
use Rattle.text_import.specs.Objects.{jsonl_rows_of, line_row}
use Rattle.text_import.specs.inner.Lines.{lines_left, size_left}
use Rattle.text_import.proofs.WeightLemmas.{RowsWeighed}
use Rattle.text_import.specs.laws.Lines.{filled_lines}
use Rattle.text_import.proofs.weight.jsonl_weight.Given as goal

-- the rows so far are weighed, and there are no more of them than bytes
abbrev pub invariant-loop-left : goal.invariant-loop-left
invariant-loop-left l = record {
  few : l.count + size_left l.left ≤ 1 + length l.text;
  weighed : RowsWeighed (schema_of l.schema) (line_row l.date_form (schema_of l.schema)) (jsonl_rows_of l.date_form (schema_of l.schema) l.text) (l.count + 1) (filled_lines (lines_left l.left)) l.weight;
}

abbrev pub decreases-loop-left : goal.decreases-loop-left
decreases-loop-left l = size_left l.left
