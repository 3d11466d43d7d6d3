-- Lists under a mask: a slot whose bit is not set has no items, whatever the array has there.
use Rattle.std.specs.Prelude.{◌≡◌, ◌≤◌, ◌<◌, ℕ, ◌+◌, ◌-◌, true, List}
use Rattle.std.specs.List.{flat_map}
use Rattle.dictionary_codes.specs.Masks.{mask_bits, masked}
use Rattle.bitmap.specs.Bits.{bit}
use Rattle.cells.specs.Cell.{Cell}
use Rattle.cells.specs.Dictionary.{item_list}
use Rattle.columns.specs.Array.{Array}
use Rattle.columns.specs.CellAt.{cells_from, is_valid}

-- the items of n lists from one on, by the bits of a mask from a place on
abbrev pub lists_under : (list : ℕ → Cell) → (mask : List ℕ) → (from at n : ℕ) → List Cell
lists_under list mask from at n = flat_map item_list (masked (mask_bits mask at n) (cells_from list from n))

-- the bits from one on up to another are set at no slot that is null
abbrev pub AreValidUnder : Array → (mask : List ℕ) → (from at to : ℕ) → Type 0
AreValidUnder a mask from at to = (j : ℕ) → at ≤ j → j < to → bit mask j ≡ true → is_valid a (from + (j - at)) ≡ true
