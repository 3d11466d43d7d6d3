-- Integers and booleans as a user types them.
use Rattle.std.specs.Prelude.{ℕ, ◌==◌, ℤ, pos, neg_ℤ, Bool, true, false, not, ◌&&◌, bytes_eq, List, length, drop, slice_index, codes, Option, Some, None, option_map, if◌then◌else◌}
use Rattle.std.specs.Str.{all_ascii_digits}
use Rattle.std.specs.Str.Parse.{digits_value}

-- one or more decimal digits; leading zeros are allowed
abbrev pub is_numeral : List ℕ → Bool
is_numeral ds = not (length ds == 0) && all_ascii_digits ds

-- the number that these digits spell
abbrev pub typed_number : List ℕ → Option ℕ
typed_number ds = if is_numeral ds then Some (digits_value 10 ds) else None

-- an integer: digits, optionally after one `-`
abbrev pub typed_integer : List ℕ → Option ℤ
typed_integer t = if slice_index t 0 == 45 then option_map (λ n. neg_ℤ (pos n)) (typed_number (drop 1 t)) else option_map pos (typed_number t)

-- `true` or `false`
abbrev pub typed_boolean : List ℕ → Option Bool
typed_boolean t = if bytes_eq t (codes "true") then Some true else if bytes_eq t (codes "false") then Some false else None
