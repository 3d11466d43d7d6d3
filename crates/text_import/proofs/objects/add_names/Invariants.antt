use Rattle.std.proofs.Common.{◌≡◌, ◌++◌, map, drop, false}
use Rattle.facts.specs.Texts.{text_list}
use Rattle.arrow_schema.specs.Column.{columns_of}
use Rattle.arrow_schema.specs.View.{column_of}
use Rattle.text_import.specs.Objects.{names_of, repeats}
use Rattle.text_import.proofs.objects.add_names.Given as goal

abbrev pub invariant-loop-field : goal.invariant-loop-field
invariant-loop-field l = record {
  gathered : text_list l.names.keys ++ names_of (columns_of (map column_of (drop l.field-index l.fields)))
      ≡ text_list l.fn.names.keys ++ names_of (columns_of (map column_of l.fields));
  distinct : repeats (text_list l.fn.names.keys) ≡ false → repeats (text_list l.names.keys) ≡ false;
}
