use Rattle.std.proofs.Common.{◌≡◌, false, map, take}
use Rattle.arrow_schema.specs.Column.{columns_of}
use Rattle.arrow_schema.specs.View.{column_of}
use Rattle.text_import.specs.Objects.{names_of, repeats}
use Rattle.text_columns.specs.inner.Kept.{key_list}
use Rattle.text_columns.proofs.members.names_of.Given as goal

abbrev pub invariant-loop-field : goal.invariant-loop-field
invariant-loop-field l = record {
  named : key_list l.names.keys ≡ names_of (columns_of (map column_of (take l.field-index l.fields)));
  distinct : repeats (key_list l.names.keys) ≡ false;
}
