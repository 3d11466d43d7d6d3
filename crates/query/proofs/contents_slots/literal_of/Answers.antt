use Rattle.std.specs.Prelude.{string_bytes}
use Rattle.std.proofs.Common.{◌≡◌, rules}
use Rattle.arrow_schema.specs.Column.{texts, large_texts, binaries, large_binaries}
use Rattle.arrow_schema.specs.View.{kind_of}
use Rattle.arrow_schema.specs.declared.types.Field.{the_lemmas as field_lemmas}
use Rattle.cells.specs.Cell.{text, bytes}
use Rattle.cells.specs.View.{cell}
use Rattle.cells.specs.declared.value.Value.{the_lemmas as value_lemmas}
use Rattle.query.proofs.ContentsTests.{text_kind, large_text_kind, binary_kind, large_binary_kind}
use Rattle.query.proofs.contents_slots.literal_of.Goals as goal

pub returns-in-Utf8-Text : goal.returns-in-Utf8-Text
returns-in-Utf8-Text c =
    let kind : kind_of c.args.data_type.now ≡ texts = rw c.in-Utf8-Text.is-0 (search (rules, field_lemmas)) in
    let value : cell c.args.literal.now ≡ text (string_bytes c.in-Utf8-Text.text) = rw c.in-Utf8-Text.is-1 (search (rules, value_lemmas)) in
    text_kind _ _ _ _ kind value c.as_bytes.ensures.value

pub returns-in-LargeUtf8-Text : goal.returns-in-LargeUtf8-Text
returns-in-LargeUtf8-Text c =
    let kind : kind_of c.args.data_type.now ≡ large_texts = rw c.in-LargeUtf8-Text.is-0 (search (rules, field_lemmas)) in
    let value : cell c.args.literal.now ≡ text (string_bytes c.in-LargeUtf8-Text.text) = rw c.in-LargeUtf8-Text.is-1 (search (rules, value_lemmas)) in
    large_text_kind _ _ _ _ kind value c.as_bytes-in-LargeUtf8-Text.ensures.value

pub returns-in-Binary-Bytes : goal.returns-in-Binary-Bytes
returns-in-Binary-Bytes c =
    let kind : kind_of c.args.data_type.now ≡ binaries = rw c.in-Binary-Bytes.is-0 (search (rules, field_lemmas)) in
    let value : cell c.args.literal.now ≡ bytes (c.in-Binary-Bytes.bytes.items) = rw c.in-Binary-Bytes.is-1 (search (rules, value_lemmas)) in
    binary_kind _ _ _ _ kind value c.as_slice.ensures.value

pub returns-in-LargeBinary-Bytes : goal.returns-in-LargeBinary-Bytes
returns-in-LargeBinary-Bytes c =
    let kind : kind_of c.args.data_type.now ≡ large_binaries = rw c.in-LargeBinary-Bytes.is-0 (search (rules, field_lemmas)) in
    let value : cell c.args.literal.now ≡ bytes (c.in-LargeBinary-Bytes.bytes.items) = rw c.in-LargeBinary-Bytes.is-1 (search (rules, value_lemmas)) in
    large_binary_kind _ _ _ _ kind value c.as_slice-in-LargeBinary-Bytes.ensures.value
