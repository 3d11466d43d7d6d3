use Rattle.query.proofs.SlotTexts.{some_texts}
use Rattle.query.proofs.column_slots.field_text_width.Goals as goal

pub returns-in-None : goal.returns-in-None
returns-in-None c = some_texts c.args.field.now c.text_width.result c.in-None.is c.text_width.ensures
