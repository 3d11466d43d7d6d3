-- A row as a line of JSON (RFC 8259): an array of its values without spaces.
use Rattle.std.specs.Prelude.{ℕ, List, [], ◌++◌, codes, if◌then◌else◌}
use Rattle.std.specs.Fmt.{signed_decimal}
use Rattle.json.specs.Print.{quoted}
use Rattle.hex.specs.Hex.{encode_lower}
use Rattle.cells.specs.Cell.{Cell, Cells, null, boolean, number, text, bytes, items, parts, no_cell, and_cell, cells_of}

-- `quoted` is a JSON string with the shortest escapes; bytes are a string of hexadecimal digits in lower case; lists and structs are arrays
unfoldable mutual
  pub json_of : Cell → List ℕ
  json_of null = codes "null"
  json_of (boolean b) = if b then codes "true" else codes "false"
  json_of (number n) = signed_decimal n
  json_of (text t) = quoted t
  json_of (bytes t) = codes "\"" ++ encode_lower t ++ codes "\""
  json_of (items cs) = codes "[" ++ json_of_all cs ++ codes "]"
  json_of (parts cs) = codes "[" ++ json_of_all cs ++ codes "]"

  -- with a comma between two
  pub json_of_all : Cells → List ℕ
  json_of_all no_cell = []
  json_of_all (and_cell c cs) = json_of c ++ json_of_others cs

  pub json_of_others : Cells → List ℕ
  json_of_others no_cell = []
  json_of_others (and_cell c cs) = codes "," ++ json_of c ++ json_of_others cs

-- the line of a row, without its line feed
abbrev pub line : List Cell → List ℕ
line row = codes "[" ++ json_of_all (cells_of row) ++ codes "]"
