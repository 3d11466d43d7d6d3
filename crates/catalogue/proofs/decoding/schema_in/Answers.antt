use Rattle.std.proofs.Common.{◌≡◌, ◌∙◌, ℕ, false, List, Ok, Some, None, sym, refl}
use Rattle.std.specs.Str.{bytes_eq}
use Rattle.arrow_schema.specs.Column.{PlainSchema}
use Rattle.arrow_schema.specs.View.{schema_of}
use Rattle.ipc_message.specs.Checks.{checked_schema}
use Rattle.ipc_message.specs.Header.{supported_codes}
use Rattle.ipc_message.specs.Raw.{RawSchema}
use Rattle.ipc_message.specs.View.{raw_schema_of}
use Rattle.ipc_write.specs.Written.{schema_message}
use Rattle.catalogue.specs.Reading.{raw_schema_in, schema_in}
use Rattle.catalogue.proofs.decoding.schema_in.Goals as goal

-- a schema that is written as other bytes
other_spelling : (bytes message : List ℕ) (raw : RawSchema) (s : PlainSchema) → raw_schema_in bytes ≡ Some raw → checked_schema supported_codes raw ≡ Ok s → message ≡ schema_message s → bytes_eq message bytes ≡ false → schema_in bytes ≡ None
unfolding schema_in
other_spelling bytes message raw s found checked is other = rw (found, checked, sym is, other) refl

pub returns : goal.returns
returns c =
    other_spelling c.args.bytes.now c.as_slice.result.now (raw_schema_of c.in_ok-raw.raw) (schema_of c.in_ok-schema.schema) c.in_ok-raw.ensures c.in_ok-schema.ensures.exact
    (c.as_slice.ensures.value ∙ c.in_ok-message.ensures.message) (sym c.eq.ensures ∙ c.if-eq.false)
