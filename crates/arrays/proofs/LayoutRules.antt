-- What a layout that was placed is, by its variant, for a type of that kind.
use Rattle.arrow_schema.specs.declared.types.Field.{the_lemmas as field_lemmas}
use Rattle.columns.specs.declared.array.PlacedLayout.{the_lemmas as layout_lemmas}

pub ruleset layout_rules = (field_lemmas, layout_lemmas)
