-- Hexadecimal digits are a text.
use Rattle.std.proofs.Common.{◌≡◌, ◌&&◌, ℕ, Bool, true, List, [], ◌∷◌, refl, ltb-true}
use Rattle.std.specs.Prelude.{nat_lt}
use Rattle.std.specs.Str.{IsAscii, IsUtf8}
use Rattle.std.proofs.lemmas.Bool.{and_parts}
use Rattle.std.proofs.lemmas.Str.{IsUtf8-from_ascii}
use Rattle.std.proofs.lemmas.Str.Ascii.{IsAscii-nil, IsAscii-cons}
use Rattle.hex.specs.Hex.{encode_lower, lower_digits}
use Rattle.hex.proofs.HexLemmas.{IsAscii-encode_with}

-- the test of each byte, which computes
abbrev are_ascii : List ℕ → Bool
are_ascii [] = true
are_ascii (b ∷ bs) = nat_lt b 128 && are_ascii bs

ascii_from_test : (bs : List ℕ) → are_ascii bs ≡ true → IsAscii bs
ascii_from_test [] h = IsAscii-nil
ascii_from_test (b ∷ bs) h =
    let parts = and_parts (nat_lt b 128) (are_ascii bs) h in
    IsAscii-cons b bs (ltb-true b 128 parts.0) (ascii_from_test bs parts.1)

pub digits_are_text : (bytes : List ℕ) → IsUtf8 (encode_lower bytes)
digits_are_text bytes = IsUtf8-from_ascii (encode_lower bytes) (IsAscii-encode_with lower_digits bytes (ascii_from_test lower_digits refl))
