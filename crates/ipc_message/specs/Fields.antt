-- The fields of a schema with all their descendants, in preorder, and their depth.
use Rattle.std.specs.Prelude.{ℕ, ◌+◌, max, Bool, Option, List, [], ◌∷◌, ◌++◌}
use Rattle.arrow_schema.specs.Column.{Pair}
use Rattle.ipc_message.specs.Raw.{RawParameters, RawEncoding, RawField, RawFields, raw_field, no_raw_field, and_raw_field, raw_fields_of, RawSchema}

unfoldable mutual
  -- a field, followed by all its descendants
  pub preorder : RawField → List RawField
  preorder (raw_field name nullable code table dictionary children pairs) = raw_field name nullable code table dictionary children pairs ∷ preorder_all children

  pub preorder_all : RawFields → List RawField
  preorder_all no_raw_field = []
  preorder_all (and_raw_field f fs) = preorder f ++ preorder_all fs

-- all the fields of a schema
abbrev pub every_field : RawSchema → List RawField
every_field s = preorder_all (raw_fields_of s.fields)

unfoldable mutual
  -- the number of levels of a field: its own, and those of its descendants
  pub depth : RawField → ℕ
  depth (raw_field name nullable code table dictionary children pairs) = 1 + depth_all children

  -- the greatest depth of these fields
  pub depth_all : RawFields → ℕ
  depth_all no_raw_field = 0
  depth_all (and_raw_field f fs) = max (depth f) (depth_all fs)

-- the parts of a field
abbrev pub name_of : RawField → List ℕ
name_of (raw_field name nullable code table dictionary children pairs) = name

abbrev pub is_nullable : RawField → Bool
is_nullable (raw_field name nullable code table dictionary children pairs) = nullable

abbrev pub code_of : RawField → ℕ
code_of (raw_field name nullable code table dictionary children pairs) = code

abbrev pub parameters_of : RawField → RawParameters
parameters_of (raw_field name nullable code table dictionary children pairs) = table

abbrev pub dictionary_of : RawField → Option RawEncoding
dictionary_of (raw_field name nullable code table dictionary children pairs) = dictionary

abbrev pub children_of : RawField → RawFields
children_of (raw_field name nullable code table dictionary children pairs) = children

abbrev pub pairs_of : RawField → List Pair
pairs_of (raw_field name nullable code table dictionary children pairs) = pairs
