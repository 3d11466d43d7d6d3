-- The size of an offset in bytes.
use Rattle.std.specs.Prelude.{ℕ, Option, Some, None}
use Rattle.arrow_schema.specs.Column.{Kind, texts, large_texts, binaries, large_binaries}
use Rattle.columns.specs.declared.numbers.OffsetWidth.{OffsetWidth}
use Rattle.columns.specs.declared.numbers.OffsetWidth.TheVariants.{Four, Eight}

abbrev pub width_of : OffsetWidth → ℕ
width_of Four = 4
width_of Eight = 8

-- that of a string or binary type
abbrev pub contents_width : Kind → Option ℕ
contents_width texts = Some 4
contents_width large_texts = Some 8
contents_width binaries = Some 4
contents_width large_binaries = Some 8
contents_width _ = None
