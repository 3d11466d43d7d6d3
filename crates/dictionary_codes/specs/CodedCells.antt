-- The cells of a column with a dictionary.
use Rattle.std.specs.Prelude.{Bool, ◌&&◌}
use Rattle.cells.specs.Cell.{Cell}
use Rattle.columns.specs.Buildable.{is_null_or_entry}
use Rattle.columns.specs.Texts.{has_utf8_texts}

-- a null, or a value that a dictionary can have and a slot can be read as
abbrev pub is_coded : Cell → Bool
is_coded c = is_null_or_entry c && has_utf8_texts c
