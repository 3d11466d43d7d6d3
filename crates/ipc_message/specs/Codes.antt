-- The type codes that a schema message names, and the codes that were supported before the five later ones. Support for a code affects only the
-- messages that name it (`only_named_codes_matter`).
use Rattle.std.specs.Prelude.{◌≡◌, ℕ, Bool, false, not, ◌||◌, ◌==◌, List, [], ◌∷◌, map, Result, Ok, Err}
use Rattle.std.specs.List.{list_any, AllByRecursion}
use Rattle.ipc_message.specs.declared.fault.Fault.{Fault}
use Rattle.ipc_message.specs.declared.type_codes.TheConstants.{NONE, NULL, INT, BINARY, UTF8, BOOL, DATE, TIMESTAMP, LIST, STRUCT, FIXED_SIZE_BINARY, FIXED_SIZE_LIST, LARGE_BINARY, LARGE_UTF8, LARGE_LIST}
use Rattle.ipc_message.specs.Raw.{RawHeader, schema_header, dictionary_header, batch_header}
use Rattle.ipc_message.specs.Fields.{every_field, code_of}
use Rattle.ipc_message.specs.Framing.{NextMessage, end_of_stream, message, next_message}
use Rattle.ipc_message.specs.Header.{header_of}

-- the codes of all fields of a schema, at every depth; other headers have none
abbrev pub codes_of : RawHeader → List ℕ
codes_of (schema_header s) = map code_of (every_field s)
codes_of (dictionary_header d) = []
codes_of (batch_header b) = []

-- the codes that the metadata of a message names. They do not depend on what is supported, so nothing is supported here
unfoldable pub codes_in : List ℕ → List ℕ
codes_in metadata = codes_of (header_of (λ code. false) metadata)

abbrev pub codes_of_next : Result NextMessage Fault → List ℕ
codes_of_next (Ok (message m)) = codes_in m.metadata
codes_of_next (Ok end_of_stream) = []
codes_of_next (Err fault) = []

-- the codes that the first message of a stream names: none if it is no schema, or if there is no message
abbrev pub codes_named : List ℕ → List ℕ
codes_named bytes = codes_of_next (next_message bytes)

-- a field may have a supported type, or no type, which is refused later (F13)
abbrev pub may_stand : (ℕ → Bool) → ℕ → Bool
may_stand supported code = code == NONE || supported code

-- both sets agree on these codes
abbrev pub SupportAlike : (supported other : ℕ → Bool) → List ℕ → Type 0
SupportAlike supported other codes = AllByRecursion (λ code. may_stand supported code ≡ may_stand other code) codes

-- ---- older streams

-- the five codes that were supported last
abbrev pub is_later_code : ℕ → Bool
is_later_code code = list_any (λ n. n == code) (DATE ∷ TIMESTAMP ∷ LARGE_BINARY ∷ LARGE_UTF8 ∷ LARGE_LIST ∷ [])

-- the codes that were supported before these five
abbrev pub earlier_codes : ℕ → Bool
earlier_codes code = list_any (λ n. n == code) (NULL ∷ INT ∷ BINARY ∷ UTF8 ∷ BOOL ∷ LIST ∷ STRUCT ∷ FIXED_SIZE_BINARY ∷ FIXED_SIZE_LIST ∷ [])

-- no field of the schema message at the start of a stream has a later code, at any depth
unfoldable pub names_no_later_code : List ℕ → Bool
names_no_later_code bytes = not (list_any is_later_code (codes_named bytes))
