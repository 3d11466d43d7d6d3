use Rattle.std.proofs.Common.{◌≡◌, rules}
use Rattle.arrow_schema.specs.Column.{texts, large_texts}
use Rattle.arrow_schema.specs.View.{kind_of}
use Rattle.arrow_schema.specs.declared.types.Field.{the_lemmas as field_lemmas}
use Rattle.query.proofs.SlotTexts.{text_kind, large_text_kind}
use Rattle.query.proofs.column_slots.text_width.Goals as goal

pub returns-in-Utf8 : goal.returns-in-Utf8
returns-in-Utf8 c =
    let kind : kind_of c.args.data_type.now ≡ texts = rw c.in-Utf8.is (search (rules, field_lemmas)) in
    text_kind _ kind

pub returns-in-LargeUtf8 : goal.returns-in-LargeUtf8
returns-in-LargeUtf8 c =
    let kind : kind_of c.args.data_type.now ≡ large_texts = rw c.in-LargeUtf8.is (search (rules, field_lemmas)) in
    large_text_kind _ kind
