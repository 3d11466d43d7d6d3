-- Facts about the messages of schemas.
use Rattle.std.specs.Prelude.{◌≡◌, ◌<◌, ◌^◌, length, Some}
use Rattle.arrow_schema.specs.Column.{PlainSchema}
use Rattle.arrow_schema.specs.Limits.{IsWithinLimits}
use Rattle.ipc_write.specs.Written.{schema_message}
use Rattle.catalogue.specs.Reading.{schema_in}

-- a message is read back, and its length fits in 32 bits
pub record IsMessageAgain (s : PlainSchema) : Type 0 where
  pub read : schema_in (schema_message s) ≡ Some s
  pub short : length (schema_message s) < 2 ^ 32

abbrev pub AllAgain : Type 0
AllAgain = (s : PlainSchema) → IsWithinLimits s → IsMessageAgain s
