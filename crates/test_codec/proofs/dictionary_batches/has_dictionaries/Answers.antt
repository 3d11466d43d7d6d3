use Rattle.std.specs.Prelude.{Option, Some, None}
use Rattle.std.proofs.Common.{◌≡◌, Ok, refl}
use Rattle.arrow_schema.specs.Column.{PlainSchema}
use Rattle.ipc_message.specs.Checks.{checked_schema, schema_checks}
use Rattle.ipc_message.specs.Convert.{plain_schema_of}
use Rattle.ipc_message.specs.Framing.{first_some, unless}
use Rattle.ipc_message.specs.Header.{supported_codes}
use Rattle.ipc_message.specs.Raw.{RawSchema}
use Rattle.ipc_message.specs.View.{raw_schema_of}
use Rattle.ipc_message.specs.declared.fault.Fault.{Fault}
use Rattle.ipc_message.specs.laws.Accepted.{IsAccepted, accepted}
use Rattle.test_codec.proofs.dictionary_batches.has_dictionaries.Goals as goal

nothing_found : {A : Type 0} (o : Option Fault) (p q : A) → unless o (Ok p) ≡ Ok q → o ≡ None
nothing_found None p q h = refl
nothing_found (Some fault) p q h = absurd cc

is_accepted : (s : RawSchema) (p : PlainSchema) → checked_schema supported_codes s ≡ Ok p → IsAccepted s
unfolding checked_schema
is_accepted s p h = accepted supported_codes s (nothing_found (first_some (schema_checks supported_codes s)) (plain_schema_of s) p h)

pub read_dictionary_columns-requires-clause-decoded :
    goal.read_dictionary_columns-requires-clause-decoded
read_dictionary_columns-requires-clause-decoded c = (is_accepted (raw_schema_of c.args.raw.now) _ c.in-Ok.ensures.exact).decoded

pub read_dictionary_columns-requires-clause-utf8 :
    goal.read_dictionary_columns-requires-clause-utf8
read_dictionary_columns-requires-clause-utf8 c = (is_accepted (raw_schema_of c.args.raw.now) _ c.in-Ok.ensures.exact).utf8
