use Rattle.std.proofs.Common.{◌≡◌, ◌++◌, map, drop, string_bytes}
use Rattle.arrow_schema.specs.Column.{columns_of}
use Rattle.arrow_schema.specs.View.{column_of}
use Rattle.field_texts.specs.FieldText.{more_text}
use Rattle.field_texts.specs.inner.Printed.{style_of}
use Rattle.field_texts.proofs.print.+print.Given as goal

abbrev pub invariant-push_fields-loop-field : goal.invariant-push_fields-loop-field
invariant-push_fields-loop-field l =
    string_bytes l.text ++ more_text (style_of l.initial.form) (columns_of (map column_of (drop l.field-index l.others)))
    ≡ string_bytes l.initial.text ++ more_text (style_of l.initial.form) (columns_of (map column_of l.others))
