use Rattle.std.proofs.Common.{◌∷◌}
use Rattle.json.specs.Token as tokens
use Rattle.text_columns.specs.inner.Kept.{key_list}
use Rattle.text_columns.proofs.ItemRows.{array_step, opened_step}
use Rattle.text_columns.proofs.lines.push_value.Goals as goal

pub returns-in-Some-BeginObject-clause-kept : goal.returns-in-Some-BeginObject-clause-kept
returns-in-Some-BeginObject-clause-kept c =
    opened_step c.args.date_form (key_list c.args.names.now.keys) c.args.reader.now (tokens.begin_object ∷ c.next.new.self) c.args.builders.now c.push_object.new.builders c.push_object.result
    (rw c.in-Some-BeginObject.field-0-is at c.in-Some-BeginObject.ensures.value) c.push_object.ensures.kept

pub returns-in-Some-BeginArray-clause-kept : goal.returns-in-Some-BeginArray-clause-kept
returns-in-Some-BeginArray-clause-kept c =
    array_step c.args.date_form (key_list c.args.names.now.keys) c.args.reader.now c.next.new.self c.args.builders.now c.push_array.new.builders c.push_array.result
    (rw c.in-Some-BeginArray.field-0-is at c.in-Some-BeginArray.ensures.value) c.push_array.ensures.kept
