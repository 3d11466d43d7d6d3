-- How many nodes, buffers and dictionaries some arrays take.
use Rattle.std.specs.Prelude.{ℕ, min, List, length}
use Rattle.std.specs.List.{flat_map}
use Rattle.columns.specs.Tests.{Typed}
use Rattle.columns.specs.Buffers.{column_buffers}
use Rattle.columns.specs.FromBuffers.{own_index}

-- as far as a number of 64 bits counts: no slice has more
abbrev pub capped : ℕ → ℕ
capped n = min n 18446744073709551615

abbrev pub buffers_among : List Typed → ℕ
buffers_among every = length (flat_map (λ t. column_buffers t.column t.array) every)

abbrev pub dictionaries_among : List Typed → ℕ
dictionaries_among every = length (flat_map (λ t. own_index t.column) every)
