-- The limits of a schema as a Boolean.
use Rattle.std.specs.Prelude.{◌&&◌, Bool, nat_le, length}
use Rattle.std.specs.List.{list_all}
use Rattle.std.specs.Str.{is_utf8}
use Rattle.arrow_schema.specs.declared.limits.TheConstants.{MAX_FIELDS, MAX_DEPTH, MAX_PAIRS, MAX_TEXT_BYTES}
use Rattle.arrow_schema.specs.Column.{columns_of, PlainSchema}
use Rattle.arrow_schema.specs.Preorder.{every_column, depth_all}
use Rattle.arrow_schema.specs.Limits.{count_of_pairs, count_of_bytes, has_number_in_range, has_flat_dictionary, has_bit_widths, has_utf8_texts, texts_of_pairs}

-- the limits on its levels, fields, pairs and bytes
abbrev pub is_small : PlainSchema → Bool
is_small s =
    (nat_le (depth_all (columns_of s.columns)) MAX_DEPTH && nat_le (length (every_column s)) MAX_FIELDS)
    && (nat_le (count_of_pairs s) MAX_PAIRS && nat_le (count_of_bytes s) MAX_TEXT_BYTES)

-- the conditions on each of its columns
abbrev pub has_sound_columns : PlainSchema → Bool
has_sound_columns s =
    (list_all has_number_in_range (every_column s) && list_all has_flat_dictionary (every_column s))
    && (list_all has_bit_widths (every_column s) && list_all has_utf8_texts (every_column s))

unfoldable pub is_within_limits : PlainSchema → Bool
is_within_limits s = is_small s && (has_sound_columns s && list_all is_utf8 (texts_of_pairs s.pairs))
