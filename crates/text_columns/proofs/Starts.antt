-- Columns that have no cell yet.
use Rattle.std.specs.Prelude.{slice_get, sum_by, Option, Some, None, Ok, Err, Result, IfOk, IfSome, map, option_map, string_bytes}
use Rattle.std.proofs.Common.{Bool, List, [], ap, arith, inl, inr, length, refl, subst, suc, sym, ℕ, ◌*◌, ◌++◌, ◌+◌, ◌∙◌, ◌∷◌, ◌≡◌}
use Rattle.std.proofs.Math.Nat.{mul_comm}
use Rattle.std.proofs.lemmas.List.Sums.{sum_by-cons}
use Rattle.arrow_schema.specs.laws.Columns.{columns_listed}
use Rattle.arrow_schema.specs.Column.{Column, Kind, Pair, lists, large_lists, fixed_lists, structs, columns_of, column, list_of}
use Rattle.arrow_schema.specs.View.{column_of, index_of, kind_of, pair_of}
use Rattle.arrow_schema.specs.declared.types.Field.{Field}
use Rattle.arrow_schema.specs.laws.Parts.{field_parts}
use Rattle.cells.specs.Cell.{null, no_cell}
use Rattle.cells.specs.Weight.{kind_weight, parts_weight, weight as cell_weight}
use Rattle.columns.specs.declared.numbers.OffsetWidth.TheVariants.{Four, Eight}
use Rattle.text_columns.specs.declared.builder.ColumnBuilder.{ColumnBuilder}
use Rattle.text_columns.specs.inner.Kept.{Keeps, StartsFixedLists, StartsLists, StartsStructs, AreUnlimited, IsUnlimited, KeepAll, key_list, null_weight_of}
use Rattle.text_columns.proofs.Rows.{last_or_before}
use Rattle.text_columns.proofs.StructFields.{fields_hold, holds_so}
use Rattle.text_columns.proofs.Nulls.{null_weight_is}

-- a column of lists, from its buffers without cells
lists_start : (name : List ℕ) (nullable : Bool) (item : Column) (pairs : List Pair) (b : ColumnBuilder) → StartsLists nullable Four item b → Keeps (column name nullable (lists item) None pairs) [] b
unfolding kind_weight
lists_start name nullable item pairs b s = rw s.is (record {
  slots = record { same = s.same; valid = s.none; null_weighs = sym s.null_weighs; plain = refl };
  parts = record { ends = s.ends; unlimited = s.unlimited; below = s.below };
})

large_lists_start : (name : List ℕ) (nullable : Bool) (item : Column) (pairs : List Pair) (b : ColumnBuilder) → StartsLists nullable Eight item b
    → Keeps (column name nullable (large_lists item) None pairs) [] b
unfolding kind_weight
large_lists_start name nullable item pairs b s = rw s.is (record {
  slots = record { same = s.same; valid = s.none; null_weighs = sym s.null_weighs; plain = refl };
  parts = record { ends = s.ends; unlimited = s.unlimited; below = s.below };
})

fixed_lists_start : (name : List ℕ) (nullable : Bool) (size : ℕ) (item : Column) (pairs : List Pair) (b : ColumnBuilder) → StartsFixedLists nullable size item b
    → Keeps (column name nullable (fixed_lists size item) None pairs) [] b
unfolding kind_weight
fixed_lists_start name nullable size item pairs b s = rw s.is (record {
  slots = record { same = s.same; valid = s.none; null_weighs = sym s.null_weighs; plain = refl };
  parts = record { size_is = refl; unlimited = s.unlimited; below = s.below };
})

-- a null of lists of a size weighs as much as its items that are null
pub fixed_null : (item : Column) (items : ColumnBuilder) (size weight below total : ℕ) → Keeps item [] items → weight ≡ null_weight_of items → below ≡ weight * size → total ≡ below + 1
    → total ≡ 1 + size * cell_weight item null
fixed_null item items size weight below total k is product sum =
    let same : weight ≡ cell_weight item null = is ∙ sym (null_weight_is item [] items k) in
    let turned : weight * size ≡ size * cell_weight item null = ap (λ (n : ℕ). n * size) same ∙ mul_comm (cell_weight item null) size in
    omega (arith, turned, product, sum)

-- ---- what a call tells of the column of a field

column_is : (f : Field) (kind : Kind) → kind_of f.data_type ≡ kind → f.dictionary ≡ None → column_of f ≡ column (string_bytes f.name) f.nullable kind None (map pair_of f.pairs.items)
column_is f kind is plain = field_parts f ∙ (λ j. column (string_bytes f.name) f.nullable (is j) (option_map index_of (plain j)) (map pair_of f.pairs.items))

started : {E : Type 0} {P Q : ColumnBuilder → Type 0} (r : Result (Option ColumnBuilder) E) → ((b : ColumnBuilder) → P b → Q b) → IfOk r (λ found. IfSome found P) → IfOk r (λ found. IfSome found Q)
started (Err e) f h = tt
started (Ok None) f h = tt
started (Ok (Some b)) f h = f b h

pub lists_step : {E : Type 0} (f : Field) (item : Column) (r : Result (Option ColumnBuilder) E) → kind_of f.data_type ≡ lists item → f.dictionary ≡ None
    → IfOk r (λ found. IfSome found (StartsLists f.nullable Four item)) → IfOk r (λ found. IfSome found (Keeps (column_of f) []))
lists_step f item r is plain h = started r (λ b s. rw (column_is f (lists item) is plain) (lists_start (string_bytes f.name) f.nullable item (map pair_of f.pairs.items) b s)) h

pub large_lists_step : {E : Type 0} (f : Field) (item : Column) (r : Result (Option ColumnBuilder) E) → kind_of f.data_type ≡ large_lists item → f.dictionary ≡ None
    → IfOk r (λ found. IfSome found (StartsLists f.nullable Eight item)) → IfOk r (λ found. IfSome found (Keeps (column_of f) []))
large_lists_step f item r is plain h = started r (λ b s. rw (column_is f (large_lists item) is plain) (large_lists_start (string_bytes f.name) f.nullable item (map pair_of f.pairs.items) b s)) h

pub fixed_lists_step : {E : Type 0} (f : Field) (size : ℕ) (item : Column) (r : Result (Option ColumnBuilder) E) → kind_of f.data_type ≡ fixed_lists size item → f.dictionary ≡ None
    → IfOk r (λ found. IfSome found (StartsFixedLists f.nullable size item)) → IfOk r (λ found. IfSome found (Keeps (column_of f) []))
fixed_lists_step f size item r is plain h =
    started r (λ b s. rw (column_is f (fixed_lists size item) is plain) (fixed_lists_start (string_bytes f.name) f.nullable size item (map pair_of f.pairs.items) b s)) h

-- ---- structs

-- a null weighs one, and what nulls of its fields weigh
parts_null_weigh : (cs : List Column) (bs : List ColumnBuilder) → length bs ≡ length cs → ((j : ℕ) (c : Column) (b : ColumnBuilder) → slice_get cs j ≡ Some c → slice_get bs j ≡ Some b → Keeps c [] b)
    → parts_weight (columns_of cs) no_cell ≡ sum_by null_weight_of bs
unfolding parts_weight
parts_null_weigh [] [] count each = refl
parts_null_weigh [] (b ∷ bs) count each = absurd (omega arith)
parts_null_weigh (c ∷ cs) [] count each = absurd (omega arith)
parts_null_weigh (c ∷ cs) (b ∷ bs) count each =
    let here = null_weight_is c [] b (each 0 c b refl refl) in
    let others = parts_null_weigh cs bs (omega arith) (λ j d e dc db. each (suc j) d e dc db) in
    let sum = sum_by-cons null_weight_of b bs in
    (λ j. here j + others j) ∙ sym sum

structs_start : (name : List ℕ) (nullable : Bool) (cs : List Column) (pairs : List Pair) (b : ColumnBuilder) → StartsStructs nullable cs b → Keeps (column name nullable (structs (columns_of cs)) None pairs) [] b
unfolding kind_weight
structs_start name nullable cs pairs b s =
    let listed : list_of (columns_of cs) ≡ cs = columns_listed cs in
    let weight = parts_null_weigh cs s.fields.items s.keeps.count (λ j c own dc db. s.keeps.each j c own dc db) in
    rw s.is (record {
      slots = record { same = s.same; valid = s.none; null_weighs = omega (arith, weight, s.null_weighs); plain = refl };
      parts = holds_so (columns_of cs) [] s.slots s.names s.fields
          (fields_hold (columns_of cs) [] (key_list s.names.names.keys) s.fields.items s.names_are s.distinct (subst AreUnlimited (sym listed) s.unlimited)
          (subst (λ (xs : List Column). KeepAll xs [] s.fields.items) (sym listed) s.keeps));
    })

pub structs_step : {E : Type 0} (f : Field) (cs : List Column) (r : Result (Option ColumnBuilder) E) → kind_of f.data_type ≡ structs (columns_of cs) → f.dictionary ≡ None
    → IfOk r (λ found. IfSome found (StartsStructs f.nullable cs)) → IfOk r (λ found. IfSome found (Keeps (column_of f) []))
structs_step f cs r is plain h =
    started r (λ b s. rw (column_is f (structs (columns_of cs)) is plain) (structs_start (string_bytes f.name) f.nullable cs (map pair_of f.pairs.items) b s)) h

-- fields whose dictionaries have no limit, one after another
pub unlimited_none : AreUnlimited []
unlimited_none j c e = absurd cc

pub unlimited_more : (cs : List Column) (c : Column) → IsUnlimited c → AreUnlimited cs → AreUnlimited (cs ++ c ∷ [])
unlimited_more cs c own before j d e = elim (last_or_before cs c d j e) [
  | inl there ↦ before j d there
  | inr last ↦ rw (← last.1) own
]
