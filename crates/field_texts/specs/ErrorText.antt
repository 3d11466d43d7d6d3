-- The text of an error of parsing: its code, its name, and the number of the refused text.
use Rattle.std.specs.Prelude.{ℕ, List, ◌++◌, codes, decimal}
use Rattle.field_texts.specs.declared.parse.ParseError.{ParseError}
use Rattle.field_texts.specs.declared.parse.ParseError.TheVariants.{BadText, Limit, OutOfMemory}

abbrev pub error_text : ParseError → List ℕ
error_text (BadText number) = codes "P1 BadText " ++ decimal number
error_text Limit = codes "P2 Limit"
error_text OutOfMemory = codes "OutOfMemory"
