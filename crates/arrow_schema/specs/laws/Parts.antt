-- The parts of the column that a field stands for.
use Rattle.std.proofs.Common.{◌≡◌, ap}
use Rattle.std.specs.Prelude.{map, string_bytes, option_map}
use Rattle.arrow_schema.specs.declared.types.Field.{Field, out-Field}
use Rattle.arrow_schema.specs.declared.types.DataType.TheFolds.{fold_out-Field}
use Rattle.arrow_schema.specs.Column.{Kind, Column, column}
use Rattle.arrow_schema.specs.Parts.{is_nullable_column, kind_of_column, index_of_column}
use Rattle.arrow_schema.specs.View.{index_of, pair_of, kind_step, column_step, kind_of, column_of}

pub field_parts : (f : Field) → column_of f ≡ column (string_bytes f.name) f.nullable (kind_of f.data_type) (option_map index_of f.dictionary) (map pair_of f.pairs.items)
field_parts f = fold_out-Field Kind Column kind_step column_step f

pub is_nullable_field : (f : Field) → is_nullable_column (column_of f) ≡ (out-Field f).nullable
is_nullable_field f = ap is_nullable_column (fold_out-Field Kind Column kind_step column_step f)

pub kind_of_field : (f : Field) → kind_of_column (column_of f) ≡ kind_of (out-Field f).data_type
kind_of_field f = ap kind_of_column (fold_out-Field Kind Column kind_step column_step f)

pub index_of_field : (f : Field) → index_of_column (column_of f) ≡ option_map index_of (out-Field f).dictionary
index_of_field f = ap index_of_column (fold_out-Field Kind Column kind_step column_step f)
