use Rattle.arrow_schema.specs.View.{kind_of}
use Rattle.columns.proofs.read.entry_value.Goals as goal

pub located_value-requires-clause-sound : goal.located_value-requires-clause-sound
located_value-requires-clause-sound c = c.indexed_entry.ensures.sound (kind_of c.args.data_type.now) c.requires.sound
