-- The fields of structs as columns of rows.
use Rattle.std.specs.Global.{Vec}
use Rattle.std.specs.Prelude.{Some, slice_get, get_or, replicate}
use Rattle.std.proofs.Common.{◌≡◌, ℕ, false, zero, suc, List, [], ◌∷◌, ◌++◌, length, map, refl, arith, ap, sym, subst, ◌∙◌}
use Rattle.std.proofs.lemmas.List.{map-append}
use Rattle.std.proofs.lemmas.Option.{same_Some}
use Rattle.arrow_schema.specs.Column.{Column, Columns, no_column, and_column, list_of}
use Rattle.cells.specs.Cell.{Cell, null, parts, cells_of}
use Rattle.cells.specs.Dictionary.{part_list}
use Rattle.cells.specs.laws.Cells.{cells_listed}
use Rattle.text_import.specs.Objects.{names_of, repeats}
use Rattle.text_columns.specs.declared.builder.ColumnBuilder.{ColumnBuilder, ColumnBuilder-F, List', FixedList', Struct}
use Rattle.text_columns.specs.declared.builder.ColumnBuilder.TheVariants.{outs-FixedList', outs-List', outs-Struct}
use Rattle.text_columns.specs.declared.builder.ListOffsets.{ListOffsets}
use Rattle.text_columns.specs.declared.builder.Names.{Names}
use Rattle.text_columns.specs.declared.builder.Slots.{Slots}
use Rattle.text_columns.specs.declared.builder.ColumnBuilder.TheOpen as builders
use Rattle.text_columns.specs.inner.Kept.{AreUnlimited, HoldsFields, HoldsStructs, KeepAll, Keeps, KeepsAt, KeepsStructs, column_at, key_list}

-- the column at a place holds what the builder there holds
pub at_list : (cs : Columns) (j : ℕ) (c : Column) (cells : List Cell) (b : ColumnBuilder) → slice_get (list_of cs) j ≡ Some c → KeepsAt cs j cells b → Keeps c cells b
at_list no_column j c cells b e k = absurd cc
at_list (and_column d cs) zero c cells b e k = subst (λ (x : Column). Keeps x cells b) (same_Some _ _ e) k
at_list (and_column d cs) (suc j) c cells b e k = at_list cs j c cells b e k

pub list_at : (cs : Columns) (j : ℕ) (c : Column) (cells : List Cell) (b : ColumnBuilder) → slice_get (list_of cs) j ≡ Some c → Keeps c cells b → KeepsAt cs j cells b
list_at no_column j c cells b e k = absurd cc
list_at (and_column d cs) zero c cells b e k = subst (λ (x : Column). Keeps x cells b) (sym (same_Some _ _ e)) k
list_at (and_column d cs) (suc j) c cells b e k = list_at cs j c cells b e k

-- buffers that hold structs have such fields
pub record Fields (columns : Columns) (cells : List Cell) : Type 0 where
  pub names : List (List ℕ)
  pub fields : List ColumnBuilder
  pub holds : HoldsStructs columns (KeepsAt columns) cells names fields

pub fields_in : (columns : Columns) (cells : List Cell) (o : ColumnBuilder-F ColumnBuilder) → HoldsFields columns (KeepsAt columns) cells o → Fields columns cells
fields_in columns cells (builders.Struct slots names fields) h = record { names = _; fields = fields.items; holds = h }
fields_in columns cells _ h = absurd h

pub there_too : {X Y : Type 0} (xs : List X) (ys : List Y) (j : ℕ) (x : X) → length ys ≡ length xs → slice_get xs j ≡ Some x → (y : Y) × (slice_get ys j ≡ Some y)
there_too [] ys j x e h = absurd cc
there_too (z ∷ xs) [] j x e h = absurd (omega arith)
there_too (z ∷ xs) (y ∷ ys) zero x e h = (y, refl)
there_too (z ∷ xs) (y ∷ ys) (suc j) x e h = there_too xs ys j x (omega arith) h

-- they hold the parts as rows
pub fields_kept : (columns : Columns) (cells : List Cell) (names : List (List ℕ)) (fields : List ColumnBuilder) → HoldsStructs columns (KeepsAt columns) cells names fields
    → KeepAll (list_of columns) (map part_list cells) fields
fields_kept columns cells names fields h = record {
  count = h.count;
  each = λ j c b dc db. at_list columns j c (column_at j (map part_list cells)) b dc (h.each j b db);
}

-- and such rows are parts
pub fields_hold : (columns : Columns) (cells : List Cell) (names : List (List ℕ)) (fields : List ColumnBuilder) → names ≡ names_of columns → repeats (names_of columns) ≡ false → AreUnlimited (list_of columns)
    → KeepAll (list_of columns) (map part_list cells) fields → HoldsStructs columns (KeepsAt columns) cells names fields
fields_hold columns cells names fields named distinct unlimited k = record {
  names_are = named;
  distinct = distinct;
  unlimited = unlimited;
  count = k.count;
  each = λ j b db.
      let (c, dc) = there_too fields (list_of columns) j b (sym k.count) db in
      list_at columns j c (column_at j (map part_list cells)) b dc (k.each j c b dc db);
}

-- ---- one more struct, and nulls

pub parts_more : (cells row : List Cell) → map part_list cells ++ row ∷ [] ≡ map part_list (cells ++ parts (cells_of row) ∷ [])
parts_more cells row = ap (λ (xs : List Cell). map part_list cells ++ xs ∷ []) (sym (cells_listed row)) ∙ sym (map-append part_list cells (parts (cells_of row) ∷ []))

-- an absent part is null
parts_null : (j n : ℕ) → column_at j (map part_list (replicate n null)) ≡ replicate n null
parts_null j zero = refl
parts_null j (suc n) = (λ i. get_none j i ∷ parts_null j n i)
  where
    get_none : (j : ℕ) → get_or [] j null ≡ null
    get_none zero = refl
    get_none (suc j) = refl

pub nulls_at : (j n : ℕ) (cells : List Cell) → column_at j (map part_list cells) ++ replicate n null ≡ column_at j (map part_list (cells ++ replicate n null))
nulls_at j n cells =
    ap (λ (xs : List Cell). column_at j (map part_list cells) ++ xs) (sym (parts_null j n))
    ∙ sym (map-append (λ (row : List Cell). get_or row j null) (map part_list cells) (map part_list (replicate n null)))
    ∙ ap (column_at j) (sym (map-append part_list cells (replicate n null)))

-- ---- lists are no structs

pub no_struct_list : (columns : Columns) (keeps : ℕ → List Cell → ColumnBuilder → Type 0) (so : List Cell) (slots : Slots) (offsets : ListOffsets) (p : _) (items : ColumnBuilder)
    → KeepsStructs columns keeps so (List' slots offsets p items) → ⊥
no_struct_list columns keeps so slots offsets p items k = subst (HoldsFields columns keeps so) (outs-List' slots offsets p items) k

pub no_struct_fixed_list : (columns : Columns) (keeps : ℕ → List Cell → ColumnBuilder → Type 0) (so : List Cell) (slots : Slots) (size : ℕ) (p : _) (items : ColumnBuilder)
    → KeepsStructs columns keeps so (FixedList' slots size p items) → ⊥
no_struct_fixed_list columns keeps so slots size p items k = subst (HoldsFields columns keeps so) (outs-FixedList' slots size p items) k

-- and structs are these fields

pub held_by : (columns : Columns) (so : List Cell) (slots : Slots) (names : Names) (fields : Vec ColumnBuilder) → KeepsStructs columns (KeepsAt columns) so (Struct slots names fields)
    → HoldsStructs columns (KeepsAt columns) so (key_list names.names.keys) fields.items
held_by columns so slots names fields k = subst (HoldsFields columns (KeepsAt columns) so) (outs-Struct slots names fields) k

pub holds_so : (columns : Columns) (so : List Cell) (slots : Slots) (names : Names) (fields : Vec ColumnBuilder) → HoldsStructs columns (KeepsAt columns) so (key_list names.names.keys) fields.items
    → KeepsStructs columns (KeepsAt columns) so (Struct slots names fields)
holds_so columns so slots names fields k = subst (HoldsFields columns (KeepsAt columns) so) (sym (outs-Struct slots names fields)) k
