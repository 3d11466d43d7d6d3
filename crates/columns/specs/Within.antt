-- Placed arrays that stay the same when bytes are appended: their buffers end within a given size, and so do the dictionary arrays that they know.
use Rattle.std.specs.Prelude.{ℕ, ◌+◌, Bool, true, ◌&&◌, nat_le, List, length, take}
use Rattle.std.specs.List.{list_all}
use Rattle.columns.specs.declared.array.PlacedArray.{PlacedArray}
use Rattle.columns.specs.declared.array.PlacedLayout.TheOpen.{PlacedArray-F, PlacedLayout-F}
use Rattle.columns.specs.declared.array.PlacedLayout.TheOpen as placed
use Rattle.columns.specs.declared.array.PlacedLayout.TheFolds.{fold-PlacedArray}
use Rattle.columns.specs.declared.array.Dictionary.{Dictionary}
use Rattle.columns.specs.declared.array.DictionaryPart.{DictionaryPart}
use Rattle.columns.specs.declared.span.Span.{Span}
use Rattle.columns.specs.View.{arrays_numbered}

abbrev pub ends_within : (size : ℕ) → Span → Bool
ends_within size span = nat_le (span.start + span.len) size

-- given a test of the part of a dictionary
abbrev pub layout_within : (size : ℕ) → (DictionaryPart → Bool) → PlacedLayout-F Bool Bool → Bool
layout_within size stands placed.Null = true
layout_within size stands (placed.Bits bits) = ends_within size bits
layout_within size stands (placed.Fixed values) = ends_within size values
layout_within size stands (placed.Binary offsets contents) = ends_within size offsets && ends_within size contents
layout_within size stands (placed.List offsets items) = ends_within size offsets && items.value
layout_within size stands (placed.FixedList items) = items.value
layout_within size stands (placed.Struct children) = list_all (λ b. b) children.items
layout_within size stands (placed.Dictionary indices part) = ends_within size indices && stands part

abbrev pub array_within : (size : ℕ) → PlacedArray-F Bool Bool → Bool
array_within size a = ends_within size a.validity && a.layout

abbrev pub is_within_by : (size : ℕ) → (DictionaryPart → Bool) → PlacedArray → Bool
is_within_by size stands = fold-PlacedArray Bool Bool (layout_within size stands) (array_within size)

-- the arrays that a part of a dictionary knows exist and end within this size; they have no dictionaries themselves
abbrev pub stands_within : (size : ℕ) → List Dictionary → DictionaryPart → Bool
stands_within size dictionaries part =
    nat_le part.count (length (arrays_numbered dictionaries part.number)) && list_all (is_within_by size (λ p. true)) (take part.count (arrays_numbered dictionaries part.number))

abbrev pub is_placed_within : (size : ℕ) → List Dictionary → PlacedArray → Bool
is_placed_within size dictionaries = is_within_by size (stands_within size dictionaries)
