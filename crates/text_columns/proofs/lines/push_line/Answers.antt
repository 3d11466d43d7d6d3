use Rattle.std.proofs.Common.{◌≡◌, refl}
use Rattle.std.specs.Prelude.{Some}
use Rattle.std.proofs.lemmas.Str.{is_utf8-from_IsUtf8}
use Rattle.text_import.specs.inner.Names.{text_where_utf8}
use Rattle.text_columns.specs.inner.Kept.{key_list}
use Rattle.text_columns.proofs.LineRows.{line_step}
use Rattle.text_columns.proofs.lines.push_line.Goals as goal

pub returns-clause-kept : goal.returns-clause-kept
returns-clause-kept c =
    let line = c.args.line.now in
    let text : Some line ≡ text_where_utf8 line = rw (is_utf8-from_IsUtf8 line c.utf8.line) refl in
    line_step c.args.date_form (key_list c.args.names.now.keys) line line c.args.builders.now c.push_value.new.builders c.push_value.result text (rw c.in_ok-reader.ensures at c.push_value.ensures.kept)
