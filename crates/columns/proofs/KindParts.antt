-- What is known of an array by the kind of its type.
use Rattle.arrow_schema.specs.declared.types.Field.{the_lemmas as field_lemmas}
use Rattle.columns.specs.laws.SoundParts.{sound_buffer, sound_offsets, sound_children}

pub ruleset kind_rules = (field_lemmas, sound_buffer, sound_offsets, sound_children)
