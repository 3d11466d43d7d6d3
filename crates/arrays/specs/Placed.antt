-- Where the arrays of a batch end.
use Rattle.std.specs.Prelude.{◌≡◌, ℕ, ◌+◌, ◌≤◌, true, List}
use Rattle.std.specs.List.{list_all}
use Rattle.columns.specs.declared.array.Dictionary.{Dictionary}
use Rattle.columns.specs.declared.array.DictionaryPart.{DictionaryPart}
use Rattle.columns.specs.declared.array.PlacedArray.{PlacedArray}
use Rattle.columns.specs.declared.span.Span.{Span}
use Rattle.columns.specs.Within.{is_within_by, stands_within, is_placed_within}

-- within n bytes, as their body does and what they know of dictionaries
abbrev pub ArraysEndWithin : Span → List Dictionary → List DictionaryPart → List PlacedArray → Type 0
ArraysEndWithin body dictionaries parts arrays =
    (size : ℕ) → body.start + body.len ≤ size → list_all (stands_within size dictionaries) parts ≡ true → list_all (is_placed_within size dictionaries) arrays ≡ true

-- the same of an array without dictionaries
abbrev pub ArrayEndsWithin : Span → PlacedArray → Type 0
ArrayEndsWithin body a = (size : ℕ) → body.start + body.len ≤ size → is_within_by size (λ p. true) a ≡ true
