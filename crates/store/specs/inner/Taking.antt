-- What takes the rows of a table, which are read segment by segment.
use Rattle.std.specs.Prelude.{◌≡◌, ℕ, List}
use Rattle.arrow_schema.specs.Column.{PlainSchema}
use Rattle.arrow_schema.specs.Limits.{IsWithinLimits}
use Rattle.ipc_write.specs.Written.{schema_message}

-- rows of tables of the schema with this message are taken
abbrev pub TakesUnder : (PlainSchema → Type 0) → (front : List ℕ) → Type 0
TakesUnder takes front = (s : PlainSchema) × IsWithinLimits s × (front ≡ schema_message s) × takes s
