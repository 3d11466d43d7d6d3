-- The tests of a schema, in order: the first that fails is reported (docs/definitions/streams.md).
use Rattle.std.specs.Prelude.{ℕ, ◌+◌, Bool, true, false, not, ◌&&◌, ◌||◌, ◌==◌, nat_lt, List, [], ◌∷◌, ◌++◌, flat_map, length, sum_by, Option, Some, None, option_map, is_some, find, Result, Ok}
use Rattle.std.specs.List.{list_any, list_all}
use Rattle.std.specs.Str.{is_utf8}
use Rattle.ipc_message.specs.declared.fault.TypeName.{TypeName}
use Rattle.ipc_message.specs.declared.fault.TypeName.TheVariants as types
use Rattle.ipc_message.specs.declared.type_codes.TheConstants.{NONE}
use Rattle.ipc_message.specs.declared.fault.Fault.{Fault}
use Rattle.ipc_message.specs.declared.fault.Fault.TheVariants.{BigEndian, TypeNotHeld, BadParameter, SchemaLimit, NotUtf8, DictionaryId, DictionaryOfNested}
use Rattle.arrow_schema.specs.declared.limits.TheConstants.{MAX_FIELDS, MAX_DEPTH, MAX_PAIRS, MAX_TEXT_BYTES}
use Rattle.arrow_schema.specs.Column.{PlainSchema, is_bit_width}
pub use Rattle.arrow_schema.specs.Limits.{texts_of_pairs}
use Rattle.ipc_message.specs.Raw.{RawParameters, RawEncoding, RawField, raw_fields_of, timestamp_parameters, RawSchema}
use Rattle.ipc_message.specs.Framing.{first_some, unless, when}
use Rattle.ipc_message.specs.Fields.{every_field, depth_all, name_of, code_of, parameters_of, dictionary_of, children_of, pairs_of}
use Rattle.ipc_message.specs.Types.{type_name, decoded_type}
use Rattle.ipc_message.specs.Convert.{columns_of_fields, plain_schema_of}
use Rattle.ipc_message.specs.Same.{one_id, same_value_type}

-- F12: a type that is not supported
abbrev pub is_unsupported : (ℕ → Bool) → RawField → Bool
is_unsupported supported f = not (code_of f == NONE) && not (supported (code_of f))

abbrev pub name_of_type : RawField → TypeName
name_of_type f = type_name (code_of f)

-- F13: the field decodes to no type, or its dictionary to no index type
abbrev pub has_type : RawField → Bool
has_type f = is_some (decoded_type (name_of_type f) (parameters_of f) (columns_of_fields (children_of f)))

abbrev pub is_index_type : Option RawEncoding → Bool
is_index_type None = true
is_index_type (Some e) = is_bit_width e.width && e.kind == 0

abbrev pub is_bad : RawField → Bool
is_bad f = not (has_type f && is_index_type (dictionary_of f))

-- all texts of a schema: names, timezones, keys and values
abbrev pub timezone_of : RawParameters → List ℕ
timezone_of (timestamp_parameters unit timezone) = timezone
timezone_of _ = []

abbrev pub texts_of_field : RawField → List (List ℕ)
texts_of_field f = name_of f ∷ timezone_of (parameters_of f) ∷ texts_of_pairs (pairs_of f)

abbrev pub texts_of : RawSchema → List (List ℕ)
texts_of s = texts_of_pairs s.pairs ++ flat_map texts_of_field (every_field s)

-- F14: the limits of a schema
abbrev pub count_of_pairs : RawSchema → ℕ
count_of_pairs s = length s.pairs + sum_by (λ f. length (pairs_of f)) (every_field s)

abbrev pub exceeds_limit : RawSchema → Bool
exceeds_limit s =
    nat_lt MAX_FIELDS (length (every_field s))
    || nat_lt MAX_DEPTH (depth_all (raw_fields_of s.fields))
    || nat_lt MAX_PAIRS (count_of_pairs s)
    || nat_lt MAX_TEXT_BYTES (sum_by length (texts_of s))

-- F24: two fields with the same dictionary id but different value types
abbrev pub have_one_id : RawField → RawField → Bool
have_one_id f g = one_id (dictionary_of f) (dictionary_of g)

abbrev pub are_at_odds : RawField → RawField → Bool
are_at_odds f g = have_one_id f g && not (same_value_type f g)

unfoldable pub has_other_type : List RawField → RawField → Bool
has_other_type fields f = list_any (are_at_odds f) fields

abbrev pub has_two_types : List RawField → Bool
has_two_types fields = list_any (has_other_type fields) fields

-- F27: a dictionary whose values are lists or structs
abbrev pub is_nested : TypeName → Bool
is_nested types.List = true
is_nested types.LargeList = true
is_nested types.FixedSizeList = true
is_nested types.Struct = true
is_nested _ = false

abbrev pub is_dictionary_of_nested : RawField → Bool
is_dictionary_of_nested f = is_some (dictionary_of f) && is_nested (name_of_type f)

-- the tests of a schema, if the type codes for which `supported` is true are supported
unfoldable pub schema_checks : (ℕ → Bool) → RawSchema → List (Option Fault)
schema_checks supported s =
    when (not (s.endianness == 0)) BigEndian
    ∷ option_map (λ f. TypeNotHeld (name_of_type f)) (find (is_unsupported supported) (every_field s))
    ∷ when (list_any is_bad (every_field s)) BadParameter
    ∷ when (exceeds_limit s) SchemaLimit
    ∷ when (not (list_all is_utf8 (texts_of s))) NotUtf8
    ∷ when (has_two_types (every_field s)) DictionaryId
    ∷ when (list_any is_dictionary_of_nested (every_field s)) DictionaryOfNested
    ∷ []

-- the schema, or the fault of the first test that fails
unfoldable pub checked_schema : (ℕ → Bool) → RawSchema → Result PlainSchema Fault
checked_schema supported s = unless (first_some (schema_checks supported s)) (Ok (plain_schema_of s))
