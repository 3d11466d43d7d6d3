-- The tokens that are left to a reader of a line of JSON.
use Rattle.std.specs.Prelude.{List}
use Rattle.json.specs.Token.{Token}
use Rattle.text_columns.specs.declared.line_reader.Source.{Source}
use Rattle.text_columns.specs.declared.line_reader.Source.TheVariants.{Escaped, Plain}

abbrev pub source_tokens : Source → List Token
source_tokens (Plain reader) = reader
source_tokens (Escaped reader) = reader
