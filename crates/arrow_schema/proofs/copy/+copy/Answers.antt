use Rattle.std.proofs.Common.{◌≡◌, ◌∙◌, ◌++◌, ℕ, Bool, Option, List, [], ◌∷◌, map, take, take_all, sym, ap, string_bytes, rules}
use Rattle.std.proofs.lemmas.List.{map_push}
use Rattle.facts.specs.laws.Lists.{take-item}
use Rattle.arrow_schema.specs.Column.{Column, Kind, Index, Pair, column, columns_of, timestamps, lists, large_lists, fixed_lists, structs}
use Rattle.arrow_schema.specs.View.{time_kind, kind_of, column_of, kind_step, column_step}
use Rattle.arrow_schema.specs.declared.types.DataType as types
use Rattle.arrow_schema.specs.declared.types.Field.{the_lemmas}
use Rattle.arrow_schema.specs.declared.types.DataType.TheFolds.{fold_out-Field, fold-roll-Field}
use Rattle.arrow_schema.proofs.copy.+copy.Goals as goal

pub copy_fields-loop-field-preserved : goal.copy_fields-loop-field-preserved
copy_fields-loop-field-preserved t c =
    let fields = c.args.fields.now in
    let i = c.loop-field.field-index in
    let f = c.field-item.result in
    let copy = c.in_ok-copy_field.field-0 in
    let seen = ap (map column_of) (take-item fields i f c.loop-field-test.true c.field-item.is) ∙ map_push column_of (take i fields) f in
    ap (map column_of) c.in_ok-push.ensures.items
    ∙ map_push column_of c.loop-field.copies.items copy
    ∙ ap (λ (cs : List Column). cs ++ column_of copy ∷ []) c.loop-field.invariant
    ∙ ap (λ (column : Column). map column_of (take i fields) ++ column ∷ []) c.in_ok-copy_field.ensures
    ∙ sym seen

pub copy_fields-returns : goal.copy_fields-returns
copy_fields-returns t c = c.loop-field.invariant ∙ ap (map column_of) (take_all c.loop-field.field-index c.args.fields.now c.loop-field-test.false)

-- the parts of a field
same_column : {m n : List ℕ} {nullable : Bool} {k l : Kind} {d : Option Index} {p q : List Pair} → m ≡ n → k ≡ l → p ≡ q → column m nullable k d p ≡ column n nullable l d q
same_column a b c = cc

pub copy_field-returns : goal.copy_field-returns
copy_field-returns t c =
    fold-roll-Field Kind Column kind_step column_step _ ∙ same_column (search rules) c.in_ok-copy_type.ensures (search rules) ∙ sym (fold_out-Field Kind Column kind_step column_step c.args.field.now)

pub copy_type-returns-in-Null : goal.copy_type-returns-in-Null
copy_type-returns-in-Null t c = ap kind_of (sym c.in-Null.is)

pub copy_type-returns-in-Bool : goal.copy_type-returns-in-Bool
copy_type-returns-in-Bool t c = ap kind_of (sym c.in-Bool.is)

pub copy_type-returns-in-Int : goal.copy_type-returns-in-Int
copy_type-returns-in-Int t c = ap kind_of (sym c.in-Int.is)

pub copy_type-returns-in-Date : goal.copy_type-returns-in-Date
copy_type-returns-in-Date t c = ap kind_of (sym c.in-Date.is)

pub copy_type-returns-in-Utf8 : goal.copy_type-returns-in-Utf8
copy_type-returns-in-Utf8 t c = ap kind_of (sym c.in-Utf8.is)

pub copy_type-returns-in-LargeUtf8 : goal.copy_type-returns-in-LargeUtf8
copy_type-returns-in-LargeUtf8 t c = ap kind_of (sym c.in-LargeUtf8.is)

pub copy_type-returns-in-Binary : goal.copy_type-returns-in-Binary
copy_type-returns-in-Binary t c = ap kind_of (sym c.in-Binary.is)

pub copy_type-returns-in-LargeBinary : goal.copy_type-returns-in-LargeBinary
copy_type-returns-in-LargeBinary t c = ap kind_of (sym c.in-LargeBinary.is)

pub copy_type-returns-in-FixedSizeBinary : goal.copy_type-returns-in-FixedSizeBinary
copy_type-returns-in-FixedSizeBinary t c = ap kind_of (sym c.in-FixedSizeBinary.is)

pub copy_type-returns-in_ok-clone-in-Timestamp : goal.copy_type-returns-in_ok-clone-in-Timestamp
copy_type-returns-in_ok-clone-in-Timestamp t c =
    let unit = time_kind c.in-Timestamp.unit in
    let copy = c.in_ok-clone-in-Timestamp.field-0 in
    let made : kind_of (types.Timestamp c.in-Timestamp.unit copy) ≡ timestamps unit (string_bytes copy) = search (rules, the_lemmas) in
    let read : kind_of c.args.data_type.now ≡ timestamps unit (string_bytes c.in-Timestamp.timezone) = rw c.in-Timestamp.is (search (rules, the_lemmas)) in
    let same : string_bytes copy ≡ string_bytes c.in-Timestamp.timezone = search rules in
    made ∙ ap (timestamps unit) same ∙ sym read

pub copy_type-returns-in_ok-copy_boxed-in-List : goal.copy_type-returns-in_ok-copy_boxed-in-List
copy_type-returns-in_ok-copy_boxed-in-List t c =
    let copy = c.in_ok-copy_boxed-in-List.field-0 in
    let made : kind_of (types.List copy) ≡ lists (column_of copy.value) = search (rules, the_lemmas) in
    let read : kind_of c.args.data_type.now ≡ lists (column_of c.in-List.item.value) = rw c.in-List.is (search (rules, the_lemmas)) in
    made ∙ ap lists (rw c.deref.ensures at c.in_ok-copy_boxed-in-List.ensures) ∙ sym read

pub copy_type-returns-in_ok-copy_boxed-in-LargeList : goal.copy_type-returns-in_ok-copy_boxed-in-LargeList
copy_type-returns-in_ok-copy_boxed-in-LargeList t c =
    let copy = c.in_ok-copy_boxed-in-LargeList.field-0 in
    let made : kind_of (types.LargeList copy) ≡ large_lists (column_of copy.value) = search (rules, the_lemmas) in
    let read : kind_of c.args.data_type.now ≡ large_lists (column_of c.in-LargeList.item.value) = rw c.in-LargeList.is (search (rules, the_lemmas)) in
    made ∙ ap large_lists (rw c.deref-in-LargeList.ensures at c.in_ok-copy_boxed-in-LargeList.ensures) ∙ sym read

pub copy_type-returns-in_ok-copy_boxed-in-FixedSizeList : goal.copy_type-returns-in_ok-copy_boxed-in-FixedSizeList
copy_type-returns-in_ok-copy_boxed-in-FixedSizeList t c =
    let size = c.in-FixedSizeList.size in
    let copy = c.in_ok-copy_boxed-in-FixedSizeList.field-0 in
    let made : kind_of (types.FixedSizeList size copy) ≡ fixed_lists size (column_of copy.value) = search (rules, the_lemmas) in
    let read : kind_of c.args.data_type.now ≡ fixed_lists size (column_of c.in-FixedSizeList.item.value) = rw c.in-FixedSizeList.is (search (rules, the_lemmas)) in
    made ∙ ap (fixed_lists size) (rw c.deref-in-FixedSizeList.ensures at c.in_ok-copy_boxed-in-FixedSizeList.ensures) ∙ sym read

pub copy_type-returns-in_ok-copy_fields-in-Struct : goal.copy_type-returns-in_ok-copy_fields-in-Struct
copy_type-returns-in_ok-copy_fields-in-Struct t c =
    let copy = c.in_ok-copy_fields-in-Struct.field-0 in
    let made : kind_of (types.Struct copy) ≡ structs (columns_of (map column_of copy.items)) = search (rules, the_lemmas) in
    let read : kind_of c.args.data_type.now ≡ structs (columns_of (map column_of c.in-Struct.fields.items)) = rw c.in-Struct.is (search (rules, the_lemmas)) in
    made ∙ ap (λ (cs : List Column). structs (columns_of cs)) (rw c.deref-in-Struct.ensures.value at c.in_ok-copy_fields-in-Struct.ensures) ∙ sym read
