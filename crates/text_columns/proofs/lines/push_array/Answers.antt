use Rattle.text_columns.proofs.ItemRows.{array_kept}
use Rattle.text_columns.proofs.lines.push_array.Goals as goal

pub returns-clause-kept : goal.returns-clause-kept
returns-clause-kept c = λ names.
    let ends = c.is_at_end.ensures c.if-not-is_at_end.false in
    array_kept c.args.date_form names c.args.reader.now c.push_items.new.reader c.in-Some.weight c.args.builders.now c.push_items.new.builders ends (rw c.in-Some.is at c.in_ok-weight.ensures.kept)
