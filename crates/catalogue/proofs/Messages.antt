-- The message of a schema is the one that is read as that schema.
use Rattle.std.proofs.Common.{◌≡◌, ◌≤◌, ◌+◌, ◌++◌, ℕ, true, List, [], length, Ok, refl, sym, ap, ◌∙◌, arith, append-nil}
use Rattle.std.specs.Str.{bytes_eq}
use Rattle.std.proofs.lemmas.List.{length-append}
use Rattle.std.proofs.lemmas.Slice.Eq.{bytes_eq-Decides}
use Rattle.byteorder.specs.Endian.{little_bytes}
use Rattle.byteorder.specs.Numbers.{length-bytes_low_first}
use Rattle.flatbuf.specs.declared.limits.TheConstants.{MAX_BUFFER_BYTES}
use Rattle.arrow_schema.specs.Column.{PlainSchema}
use Rattle.ipc_message.specs.Raw.{schema_header}
use Rattle.ipc_message.specs.Framing.{continuation_marker, next_message, message}
use Rattle.ipc_message.specs.Header.{supported_codes, header}
use Rattle.ipc_message.specs.Checks.{checked_schema}
use Rattle.ipc_write.specs.Decoded.{raw_schema}
use Rattle.ipc_write.specs.Written.{schema_message, schema_envelope}
use Rattle.catalogue.specs.Reading.{raw_schema_in, schema_in}
use Rattle.catalogue.specs.inner.Messages.{IsMessageAgain}

message_size : (s : PlainSchema) → length (schema_message s) ≡ 8 + length (schema_envelope s).metadata
unfolding schema_message
message_size s =
    let metadata = (schema_envelope s).metadata in
    let size = little_bytes 4 (length metadata) in
    omega (arith, length-append continuation_marker (size ++ (metadata ++ [])), length-append size (metadata ++ []), length-append metadata [], length-bytes_low_first 0 4 (length metadata))

pub message_again : (s : PlainSchema) → ((rest : List ℕ) → next_message (schema_message s ++ rest) ≡ Ok (message (schema_envelope s))) → header supported_codes (schema_envelope s).metadata ≡ Ok (schema_header (raw_schema s))
    → checked_schema supported_codes (raw_schema s) ≡ Ok s → length (schema_envelope s).metadata ≤ MAX_BUFFER_BYTES → IsMessageAgain s
unfolding schema_in raw_schema_in
message_again s next head checked small =
    let alone : next_message (schema_message s) ≡ Ok (message (schema_envelope s)) = ap next_message (sym (append-nil (schema_message s))) ∙ next [] in
    let same : bytes_eq (schema_message s) (schema_message s) ≡ true = (bytes_eq-Decides (schema_message s) (schema_message s)).1 refl in
    record {
      read = rw (alone, head, checked, same) refl;
      short = omega (arith, small, message_size s);
    }
