use Rattle.json.proofs.Printed.Plain.{escape_on_plain}
use Rattle.query.proofs.plain_text.are_plain.Goals as goal

pub returns : goal.returns
returns c = escape_on_plain c.are_all_plain.result c.args.text.now c.are_all_plain.ensures
