-- The bytes of a buffer, by its place.
use Rattle.std.specs.Prelude.{ℕ, List, take, drop}
use Rattle.columns.specs.declared.span.Span.{Span}

-- cut off where the bytes end
abbrev pub within : List ℕ → Span → List ℕ
within bytes span = take span.len (drop span.start bytes)
