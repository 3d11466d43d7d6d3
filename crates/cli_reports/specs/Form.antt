-- What the bytes of a refused line or name say about how the text was written: its encoding, its separators and its line ends.
use Rattle.std.specs.Prelude.{ℕ, Bool, ◌||◌, codes, nat_eq, List, [], ◌∷◌, if◌then◌else◌}
use Rattle.std.specs.List.{list_any, starts_with, ends_with}

-- the first bytes of a file that gzip has compressed (RFC 1952, 2.3.1, "ID1" and "ID2")
abbrev pub has_gzip_mark : List ℕ → Bool
has_gzip_mark bytes = starts_with nat_eq bytes (31 ∷ 139 ∷ [])

-- the byte order mark in UTF-8 (The Unicode Standard, 23.8, "Byte Order Mark")
abbrev pub has_utf_8_mark : List ℕ → Bool
has_utf_8_mark bytes = starts_with nat_eq bytes (239 ∷ 187 ∷ 191 ∷ [])

-- the byte order mark in UTF-16, in both byte orders
abbrev pub has_utf_16_mark : List ℕ → Bool
has_utf_16_mark bytes = starts_with nat_eq bytes (255 ∷ 254 ∷ []) || starts_with nat_eq bytes (254 ∷ 255 ∷ [])

abbrev pub has_byte : (byte : ℕ) → List ℕ → Bool
has_byte byte bytes = list_any (λ other. nat_eq other byte) bytes

-- a line, by its first bytes
abbrev pub line_form : List ℕ → List ℕ
line_form line =
    if has_gzip_mark line then codes "The line begins as a file that gzip has compressed: `gzip -dc` gives its text. "
    else (if has_utf_8_mark line then codes "The line begins with a byte order mark. "
    else (if has_utf_16_mark line then codes "The line begins with the byte order mark of UTF-16, but must be UTF-8. " else []))

-- a line of a script, by its last byte too
abbrev pub script_line_form : List ℕ → List ℕ
script_line_form line =
    if ends_with nat_eq line (13 ∷ []) then codes "The line ends with a carriage return: `tr -d '\\r'` removes those of the script. "
    else line_form line

-- a name in a header, where another one is expected
abbrev pub name_form : List ℕ → List ℕ
name_form name =
    if has_gzip_mark name then codes "A name begins as a file that gzip has compressed: `gzip -dc` gives its text. "
    else (if has_utf_16_mark name then codes "A name begins with the byte order mark of UTF-16, but must be UTF-8. "
    else (if has_byte 9 name then codes "The header has a tab, but only commas separate names. "
    else (if has_byte 59 name then codes "The header has a semicolon, but only commas separate names. " else [])))
