use Rattle.text_columns.specs.inner.Kept.{key_list}
use Rattle.text_columns.proofs.LineRows.{object_kept}
use Rattle.text_columns.proofs.lines.push_object.Goals as goal

pub returns-clause-kept : goal.returns-clause-kept
returns-clause-kept c =
    let ends = c.is_at_end.ensures c.if-not-is_at_end.false in
    object_kept c.args.date_form (key_list c.args.names.now.keys) c.args.reader.now c.push_fields.new.reader c.in-Some.weight c.args.builders.now c.push_fields.new.builders ends (rw c.in-Some.is at c.in_ok-weight.ensures.kept)
