-- Whether two fields have the same dictionary id, and whether they have the same type, with its parameters and all children but not their ids.
use Rattle.std.specs.Prelude.{ℕ, Bool, true, false, ◌&&◌, ◌==◌, bytes_eq, List, [], ◌∷◌, Option, Some, None, is_none}
use Rattle.std.specs.Bool.{beq}
use Rattle.arrow_schema.specs.Column.{Pair}
use Rattle.ipc_message.specs.Raw.{RawParameters, no_parameters, integer_parameters, byte_width, list_size, date_unit, timestamp_parameters, RawEncoding, RawField, RawFields, raw_field, no_raw_field, and_raw_field}
use Rattle.ipc_message.specs.Fields.{name_of, is_nullable, code_of, parameters_of, dictionary_of, children_of, pairs_of}

abbrev pub has_id : ℕ → Option RawEncoding → Bool
has_id id None = false
has_id id (Some e) = id == e.id

abbrev pub one_id : Option RawEncoding → Option RawEncoding → Bool
one_id None other = false
one_id (Some e) other = has_id e.id other

abbrev pub same_parameters : RawParameters → RawParameters → Bool
same_parameters no_parameters no_parameters = true
same_parameters (integer_parameters m a) (integer_parameters n b) = m == n && beq a b
same_parameters (byte_width m) (byte_width n) = m == n
same_parameters (list_size m) (list_size n) = m == n
same_parameters (date_unit m) (date_unit n) = m == n
same_parameters (timestamp_parameters m y) (timestamp_parameters n z) = m == n && bytes_eq y z
same_parameters _ _ = false

abbrev pub has_index : RawEncoding → Option RawEncoding → Bool
has_index d None = false
has_index d (Some e) = d.width == e.width && beq d.signed e.signed

abbrev pub same_index : Option RawEncoding → Option RawEncoding → Bool
same_index None other = is_none other
same_index (Some d) other = has_index d other

abbrev pub same_pairs : List Pair → List Pair → Bool
same_pairs [] [] = true
same_pairs (p ∷ ps) (q ∷ qs) = bytes_eq p.0 q.0 && bytes_eq p.1 q.1 && same_pairs ps qs
same_pairs _ _ = false

abbrev pub is_empty : RawFields → Bool
is_empty no_raw_field = true
is_empty (and_raw_field f fs) = false

abbrev pub first_is : (RawField → Bool) → RawFields → Bool
first_is p no_raw_field = false
first_is p (and_raw_field f fs) = p f

abbrev pub others_of : RawFields → RawFields
others_of no_raw_field = no_raw_field
others_of (and_raw_field f fs) = fs

-- all parts of a field but its children
unfoldable pub same_parts : RawField → RawField → Bool
same_parts f g =
    bytes_eq (name_of f) (name_of g) && beq (is_nullable f) (is_nullable g) && code_of f == code_of g && same_parameters (parameters_of f) (parameters_of g) && same_index (dictionary_of f) (dictionary_of g) && same_pairs (pairs_of f) (pairs_of g)

unfoldable mutual
  pub same_field : RawField → RawField → Bool
  same_field (raw_field name nullable code table dictionary children pairs) f =
      same_parts (raw_field name nullable code table dictionary children pairs) f && same_fields children (children_of f)

  pub same_fields : RawFields → RawFields → Bool
  same_fields no_raw_field fs = is_empty fs
  same_fields (and_raw_field g gs) fs = first_is (same_field g) fs && same_fields gs (others_of fs)

-- the value types are the same
abbrev pub same_value_type : RawField → RawField → Bool
same_value_type f g = code_of f == code_of g && same_parameters (parameters_of f) (parameters_of g) && same_fields (children_of f) (children_of g)
