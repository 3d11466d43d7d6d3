-- What a terminal is given in place of control characters. JSON has them only within strings, where an escape means the same (RFC 8259, section 7).
use Rattle.std.specs.Prelude.{ℕ, ◌+◌, ◌/◌, ◌%◌, ◌==◌, ◌&&◌, Bool, true, not, nat_le, nat_lt, List, [], ◌∷◌, ◌++◌, codes, if◌then◌else◌}

-- a digit of a hexadecimal number
abbrev pub hex_digit : ℕ → ℕ
hex_digit n = if nat_lt n 10 then 48 + n else 87 + n

-- the escape of the character with this number, below 256
abbrev pub escape : ℕ → List ℕ
escape n = codes "\\u00" ++ hex_digit (n / 16) ∷ hex_digit (n % 16) ∷ []

-- U+007F is the byte 127, and U+0080 to U+009F are the byte 194 and their own number (RFC 3629, section 3)
abbrev pub is_delete : ℕ → Bool
is_delete b = b == 127

abbrev pub are_control : (b c : ℕ) → Bool
are_control b c = b == 194 && (nat_le 128 c && nat_lt c 160)

-- each of these characters is an escape
unfoldable pub escaped : List ℕ → List ℕ
escaped [] = []
escaped (b ∷ []) = if is_delete b then escape b else b ∷ []
escaped (b ∷ c ∷ rest) =
    if is_delete b then escape b ++ escaped (c ∷ rest) else (if are_control b c then escape c ++ escaped rest else b ∷ escaped (c ∷ rest))

-- no such character is in the bytes
unfoldable pub are_clean : List ℕ → Bool
are_clean [] = true
are_clean (b ∷ []) = not (is_delete b)
are_clean (b ∷ c ∷ rest) = not (is_delete b) && (not (are_control b c) && are_clean (c ∷ rest))

-- what a terminal is given of some bytes, and any other output
abbrev pub shown_bytes : (is_terminal : Bool) → List ℕ → List ℕ
shown_bytes is_terminal bytes = if is_terminal then escaped bytes else bytes

-- the number of bytes of the character at the start if it is one of these, and else 0
unfoldable pub control_length : List ℕ → ℕ
control_length [] = 0
control_length (b ∷ []) = if is_delete b then 1 else 0
control_length (b ∷ c ∷ rest) = if is_delete b then 1 else (if are_control b c then 2 else 0)
