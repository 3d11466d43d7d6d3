-- Numbers of any size as the code keeps them: all numbers that no integer type holds are kept as one.
use Rattle.std.specs.Prelude.{ℕ, ◌^◌, ◌==◌, ℤ, pos, neg_ℤ, min, Bool, true, false, nat_le, List, [], ◌∷◌, Option, Some, None, option_map, if◌then◌else◌}
use Rattle.std.specs.Str.{all_ascii_digits}
use Rattle.std.specs.Str.Parse.{digits_value_after}
use Rattle.arrow_schema.specs.Column.{Kind, integers, dates, timestamps}
use Rattle.cells.specs.Typed.{typed_number}

-- the number of decimal digits that follow others with the value n
unfoldable pub number_behind : ℕ → List ℕ → Option ℕ
number_behind n ds = if all_ascii_digits ds then Some (digits_value_after 10 n ds) else None

abbrev pub too_large : ℕ
too_large = 2 ^ 64

abbrev pub capped : ℕ → ℕ
capped n = min n too_large

abbrev pub capped_integer : List ℕ → Option ℤ
capped_integer [] = None
capped_integer (b ∷ bs) = if b == 45 then option_map (λ n. neg_ℤ (pos n)) (option_map capped (typed_number bs)) else option_map pos (option_map capped (typed_number (b ∷ bs)))

-- types of integers of at most 64 bits
abbrev pub holds_numbers : Kind → Bool
holds_numbers (integers bits signed) = nat_le bits 64
holds_numbers (dates unit) = true
holds_numbers (timestamps unit timezone) = true
holds_numbers _ = false
