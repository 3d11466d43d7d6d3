-- A field, and a column of its type whatever its name.
use Rattle.std.specs.Prelude.{Option, Some, None, option_map, String, string_bytes}
use Rattle.std.specs.Global.{Global}
use Rattle.std.proofs.Common.{◌≡◌, true, List, map, ap, sym, ◌∙◌}
use Rattle.arrow_schema.specs.Column.{Kind, Column, timestamps}
use Rattle.arrow_schema.specs.View.{column_of, kind_of, index_of, pair_of, time_kind, kind_step, column_step}
use Rattle.arrow_schema.specs.declared.types.DataType.TheFolds.{fold-roll-DataType}
use Rattle.arrow_schema.specs.declared.types.DataType.TheOpen as types
use Rattle.arrow_schema.specs.declared.types.DataType.TheVariants.{Timestamp, rolls-Timestamp}
use Rattle.arrow_schema.specs.declared.types.DictSpec.{DictSpec}
use Rattle.arrow_schema.specs.declared.types.Field.{Field}
use Rattle.arrow_schema.specs.declared.types.TimeUnit.{TimeUnit}
use Rattle.arrow_schema.specs.laws.Parts.{field_parts}
use Rattle.cells.specs.Cell.{Cell}
use Rattle.columns.specs.Buildable.{can_build}
use Rattle.batch_build.specs.Batch.{PlainBatch, with_arrays, built_at, plain_column}
use Rattle.batch_build.specs.laws.Arrays.{any_name}
use Rattle.batch_build.specs.laws.Premises.{any_name_can}

plain_can : (f : Field) (o : Option DictSpec) (cells : List Cell) → f.dictionary ≡ o → can_build (column_of f) cells ≡ true
    → can_build (plain_column (kind_of f.data_type) (option_map index_of o)) cells ≡ true
plain_can f o cells is h =
    ap (λ (d : Option DictSpec). can_build (plain_column (kind_of f.data_type) (option_map index_of d)) cells) (sym is)
    ∙ sym (any_name_can (string_bytes f.name) f.nullable (kind_of f.data_type) (option_map index_of f.dictionary) (map pair_of f.pairs.items) cells)
    ∙ ap (λ (c : Column). can_build c cells) (sym (field_parts f)) ∙ h

plain_is : (p : PlainBatch) (f : Field) (o : Option DictSpec) (cells : List Cell) → f.dictionary ≡ o
    → with_arrays p (built_at (plain_column (kind_of f.data_type) (option_map index_of o)) cells) ≡ with_arrays p (built_at (column_of f) cells)
plain_is p f o cells is =
    ap (λ (d : Option DictSpec). with_arrays p (built_at (plain_column (kind_of f.data_type) (option_map index_of d)) cells)) (sym is)
    ∙ any_name p (string_bytes f.name) f.nullable (kind_of f.data_type) (option_map index_of f.dictionary) (map pair_of f.pairs.items) cells
    ∙ ap (λ (c : Column). with_arrays p (built_at c cells)) (sym (field_parts f))

pub plain_can_be_built : (f : Field) (cells : List Cell) → f.dictionary ≡ None → can_build (column_of f) cells ≡ true
    → can_build (plain_column (kind_of f.data_type) None) cells ≡ true
plain_can_be_built f cells is h = plain_can f None cells is h

pub dictionary_can_be_built : (f : Field) (d : DictSpec) (cells : List Cell) → f.dictionary ≡ Some d → can_build (column_of f) cells ≡ true
    → can_build (plain_column (kind_of f.data_type) (Some (index_of d))) cells ≡ true
dictionary_can_be_built f d cells is h = plain_can f (Some d) cells is h

pub plain_field : (p : PlainBatch) (f : Field) (cells : List Cell) → f.dictionary ≡ None
    → with_arrays p (built_at (plain_column (kind_of f.data_type) None) cells) ≡ with_arrays p (built_at (column_of f) cells)
plain_field p f cells is = plain_is p f None cells is

pub dictionary_field : (p : PlainBatch) (f : Field) (d : DictSpec) (cells : List Cell) → f.dictionary ≡ Some d
    → with_arrays p (built_at (plain_column (kind_of f.data_type) (Some (index_of d))) cells) ≡ with_arrays p (built_at (column_of f) cells)
dictionary_field p f d cells is = plain_is p f (Some d) cells is

-- the type of a timestamp, as a kind
pub timestamp_kind : (unit : TimeUnit) (timezone : String Global) → kind_of (Timestamp unit timezone) ≡ timestamps (time_kind unit) (string_bytes timezone)
timestamp_kind unit timezone = ap kind_of (sym (rolls-Timestamp unit timezone)) ∙ fold-roll-DataType Kind Column kind_step column_step (types.Timestamp unit timezone)

-- ---- a type that is of a kind

pub kind_can : {j k : Kind} (cells : List Cell) → j ≡ k → can_build (plain_column j None) cells ≡ true → can_build (plain_column k None) cells ≡ true
kind_can cells same can = ap (λ (i : Kind). can_build (plain_column i None) cells) (sym same) ∙ can

pub kind_arrays : {j k : Kind} (p : PlainBatch) (cells : List Cell) → j ≡ k → with_arrays p (built_at (plain_column k None) cells) ≡ with_arrays p (built_at (plain_column j None) cells)
kind_arrays p cells same = ap (λ (i : Kind). with_arrays p (built_at (plain_column i None) cells)) (sym same)
