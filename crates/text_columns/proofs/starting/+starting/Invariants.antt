use Rattle.std.proofs.Common.{◌≡◌, ◌≤◌, [], length, map, take, vec_len, vec_capacity}
use Rattle.arrow_schema.specs.View.{column_of}
use Rattle.text_columns.specs.inner.Kept.{KeepAll}
use Rattle.text_columns.proofs.starting.+starting.Given as goal

abbrev pub invariant-empty_columns-loop-field : goal.invariant-empty_columns-loop-field
invariant-empty_columns-loop-field l = record {
  keep : KeepAll (map column_of (take l.field-index l.fields)) [] l.builders.items;
  len : vec_len l.builders ≡ l.field-index;
  room : length l.fields ≤ vec_capacity l.builders;
}
