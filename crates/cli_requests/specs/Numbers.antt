-- Numbers as words of a command line.
use Rattle.std.specs.Prelude.{◌≡◌, ◌&&◌, ◌^◌, ℕ, Bool, true, length, nat_lt, Option, unwrap_or, option_map}
use Rattle.std.specs.Char.{digit_value}
use Rattle.std.specs.List.{list_all}
use Rattle.std.specs.Option.{option_map_or}
use Rattle.std.specs.Str.Parse.{digits_value}
use Rattle.clap.specs.Words.{Text}

-- a number of 64 bits, in decimal digits alone
unfoldable pub is_number : Text → Bool
is_number word = nat_lt 0 (length word) && (list_all (λ c. nat_lt (digit_value c) 10) word && nat_lt (digits_value 10 word) (2 ^ 64))

-- the word is this number
abbrev pub IsNumber : Text → ℕ → Type 0
IsNumber word number = (is_number word ≡ true) × (digits_value 10 word ≡ number)

-- the word of an option, if it is given, is a number
abbrev pub is_number_if_any : Option Text → Bool
is_number_if_any word = option_map_or is_number word true

-- the word of an argument, if it is given, is this number, and without the word there is none
abbrev pub IsNumberIfAny : Option Text → Option ℕ → Type 0
IsNumberIfAny word number = (is_number_if_any word ≡ true) × (number ≡ option_map (digits_value 10) word)

-- the word of an option is this number; without the word the number is 0
abbrev pub IsNumberOrZero : Option Text → ℕ → Type 0
IsNumberOrZero word number = (is_number_if_any word ≡ true) × (unwrap_or (option_map (digits_value 10) word) 0 ≡ number)
