-- The dictionaries of an accepted schema, as its fields and its columns have them: the same values in preorder, and of one id one type.
use Rattle.std.specs.Prelude.{not, ◌&&◌, ◌==◌, if◌then◌else◌, Option, None, Some, IfSome, is_some, option_map, unwrap_or, flat_map, find}
use Rattle.std.specs.List.{list_any, AllByRecursion}
use Rattle.std.specs.Cmp.{booleans_Decides}
use Rattle.std.proofs.lemmas.Slice.Eq.{bytes_eq-Decides}
use Rattle.std.proofs.Common.{◌≡◌, ℕ, Bool, true, false, List, [], ◌∷◌, ◌++◌, map, append-nil, refl, ap, sym, subst, ◌∙◌}
use Rattle.std.proofs.lemmas.Bool.{and_parts, or_parts, not-false, eqb-true}
use Rattle.std.proofs.lemmas.Bool.Decides.{Decides-eqb}
use Rattle.std.proofs.lemmas.List.{map-append}
use Rattle.std.proofs.lemmas.List.Concat.{flat_map-append}
use Rattle.facts.specs.laws.Lists.{any_left, any_right}
use Rattle.arrow_schema.specs.Column.{Pair, Kind, Column, column, nulls, booleans, integers, dates, timestamps, texts, large_texts, binaries, large_binaries, fixed_binaries, lists, large_lists, fixed_lists, structs, columns_of}
use Rattle.arrow_schema.specs.Limits as limits
use Rattle.ipc_message.specs.declared.fault.TypeName.{TypeName}
use Rattle.ipc_message.specs.declared.fault.TypeName.TheVariants as types
use Rattle.ipc_message.specs.Raw.{RawParameters, no_parameters, integer_parameters, byte_width, list_size, date_unit, timestamp_parameters, RawEncoding, RawField, RawFields, raw_field, no_raw_field, and_raw_field, raw_fields_of, RawSchema}
use Rattle.ipc_message.specs.Fields.{preorder, preorder_all, every_field, dictionary_of}
use Rattle.ipc_message.specs.Types.{type_name, without_children, with_item, is_size, date_kind, time_kind, integer, date, timestamp, fixed_binary, fixed_list, decoded_type}
use Rattle.ipc_message.specs.Convert.{column_of_field, columns_of_fields, plain_schema_of}
use Rattle.ipc_message.specs.Same.{same_parameters, same_value_type}
use Rattle.ipc_message.specs.Checks.{is_bad, is_nested, are_at_odds, has_other_type, has_two_types, is_dictionary_of_nested}
use Rattle.ipc_message.specs.laws.FieldLists.{columns_of_list}
use Rattle.columns.specs.Array.{Array, Arrays, no_array, and_array, items_in, children_in, first_array, other_arrays}
use Rattle.columns.specs.Tests.{arrays_at, arrays_below, every_array}
use Rattle.columns.specs.Buffers.{value_column}
use Rattle.arrays.specs.Dictionaries.{DictionaryColumn, own_dictionary_column, dictionary_columns, is_column_of}
use Rattle.arrays.specs.Known.{own_values, values_in, dictionary_values, IsAsFirst, HaveOneType}

-- ---- what a decoded type says of its children

abbrev ValuesAre : List Column → List Column → Type 0
ValuesAre cs values = (xs : Arrays) → values_in (every_array (columns_of cs) xs) ≡ values

record HasBelow (name : TypeName) (cs : List Column) (k : Kind) : Type 0 where
  flat : is_nested name ≡ false → cs ≡ []
  below : (values : List Column) → ValuesAre cs values → (a : Array) → values_in (arrays_below k a) ≡ values

abbrev is_leaf : Option Kind → Bool
is_leaf None = true
is_leaf (Some k) = not (limits.is_nested k)

leaf_if : (b : Bool) (k : Kind) → limits.is_nested k ≡ false → is_leaf (if b then Some k else None) ≡ true
leaf_if true k h = rw h refl
leaf_if false k h = refl

leaf_map : {A : Type 0} (g : A → Kind) (o : Option A) → ((x : A) → limits.is_nested (g x) ≡ false) → is_leaf (option_map g o) ≡ true
leaf_map g None h = refl
leaf_map g (Some x) h = rw (h x) refl

leaf_integer : (p : RawParameters) → is_leaf (integer p) ≡ true
leaf_integer (integer_parameters w s) = leaf_if _ (integers w s) refl
leaf_integer _ = refl

leaf_date : (p : RawParameters) → is_leaf (date p) ≡ true
leaf_date (date_unit n) = leaf_map dates (date_kind n) (λ u. refl)
leaf_date _ = refl

leaf_timestamp : (p : RawParameters) → is_leaf (timestamp p) ≡ true
leaf_timestamp (timestamp_parameters n z) = leaf_map (λ u. timestamps u z) (time_kind n) (λ u. refl)
leaf_timestamp _ = refl

leaf_fixed : (p : RawParameters) → is_leaf (fixed_binary p) ≡ true
leaf_fixed (byte_width n) = leaf_if (is_size n) (fixed_binaries n) refl
leaf_fixed _ = refl

nothing_below : (k : Kind) (a : Array) → not (limits.is_nested k) ≡ true → values_in (arrays_below k a) ≡ []
unfolding arrays_below
nothing_below (lists item) a h = absurd cc
nothing_below (large_lists item) a h = absurd cc
nothing_below (fixed_lists size item) a h = absurd cc
nothing_below (structs columns) a h = absurd cc
nothing_below _ a h = refl

leaf_below : (name : TypeName) (o : Option Kind) (cs : List Column) (k : Kind) → is_leaf o ≡ true → without_children o cs ≡ Some k → HasBelow name cs k
unfolding every_array
leaf_below name None [] k leaf h = absurd cc
leaf_below name (Some j) [] k leaf h =
    let same : j ≡ k = cc in
    subst (HasBelow name []) same (record { flat = λ n. refl; below = λ values is a. nothing_below j a leaf ∙ is no_array })
leaf_below name o (c ∷ cs) k leaf h = absurd cc

one_below : (name : TypeName) (c : Column) (k : Kind) → is_nested name ≡ true → ((a : Array) → arrays_below k a ≡ arrays_at c (items_in a)) → HasBelow name (c ∷ []) k
unfolding every_array
one_below name c k nested h = record {
  flat = λ n. absurd (let e : true ≡ false = sym nested ∙ n in cc);
  below = λ values is a. ap values_in (h a ∙ sym (append-nil (arrays_at c (items_in a)))) ∙ is (and_array (items_in a) no_array);
}

item_below : (name : TypeName) (kind : Column → Option Kind) (cs : List Column) (k : Kind) → ((c : Column) → kind c ≡ Some k → HasBelow name (c ∷ []) k) → with_item kind cs ≡ Some k → HasBelow name cs k
item_below name kind [] k each h = absurd cc
item_below name kind (c ∷ []) k each h = each c h
item_below name kind (c ∷ d ∷ cs) k each h = absurd cc

list_below : (c : Column) (k : Kind) → Some (lists c) ≡ Some k → HasBelow types.List (c ∷ []) k
unfolding arrays_below
list_below c k h = let same : lists c ≡ k = cc in subst (HasBelow types.List (c ∷ [])) same (one_below types.List c (lists c) refl (λ a. refl))

large_list_below : (c : Column) (k : Kind) → Some (large_lists c) ≡ Some k → HasBelow types.LargeList (c ∷ []) k
unfolding arrays_below
large_list_below c k h = let same : large_lists c ≡ k = cc in subst (HasBelow types.LargeList (c ∷ [])) same (one_below types.LargeList c (large_lists c) refl (λ a. refl))

sized_below : (b : Bool) (n : ℕ) (c : Column) (k : Kind) → (if b then Some (fixed_lists n c) else None) ≡ Some k → HasBelow types.FixedSizeList (c ∷ []) k
unfolding arrays_below
sized_below true n c k h = let same : fixed_lists n c ≡ k = cc in subst (HasBelow types.FixedSizeList (c ∷ [])) same (one_below types.FixedSizeList c (fixed_lists n c) refl (λ a. refl))
sized_below false n c k h = absurd cc

fixed_list_below : (p : RawParameters) (c : Column) (k : Kind) → fixed_list p c ≡ Some k → HasBelow types.FixedSizeList (c ∷ []) k
fixed_list_below (list_size n) c k h = sized_below (is_size n) n c k h
fixed_list_below _ c k h = absurd cc

struct_below : (cs : List Column) (k : Kind) → Some (structs (columns_of cs)) ≡ Some k → HasBelow types.Struct cs k
unfolding arrays_below
struct_below cs k h =
    let same : structs (columns_of cs) ≡ k = cc in
    subst (HasBelow types.Struct cs) same (record { flat = λ n. absurd cc; below = λ values is a. is (children_in a) })

type_below : (name : TypeName) (p : RawParameters) (cs : List Column) (k : Kind) → decoded_type name p cs ≡ Some k → HasBelow name cs k
unfolding decoded_type
type_below types.Null p cs k h = leaf_below _ (Some nulls) cs k refl h
type_below types.Int p cs k h = leaf_below _ (integer p) cs k (leaf_integer p) h
type_below types.Binary p cs k h = leaf_below _ (Some binaries) cs k refl h
type_below types.Utf8 p cs k h = leaf_below _ (Some texts) cs k refl h
type_below types.Bool p cs k h = leaf_below _ (Some booleans) cs k refl h
type_below types.Date p cs k h = leaf_below _ (date p) cs k (leaf_date p) h
type_below types.Timestamp p cs k h = leaf_below _ (timestamp p) cs k (leaf_timestamp p) h
type_below types.List p cs k h = item_below _ (λ item. Some (lists item)) cs k (λ c e. list_below c k e) h
type_below types.Struct p cs k h = struct_below cs k h
type_below types.FixedSizeBinary p cs k h = leaf_below _ (fixed_binary p) cs k (leaf_fixed p) h
type_below types.FixedSizeList p cs k h = item_below _ (fixed_list p) cs k (λ c e. fixed_list_below p c k e) h
type_below types.LargeBinary p cs k h = leaf_below _ (Some large_binaries) cs k refl h
type_below types.LargeUtf8 p cs k h = leaf_below _ (Some large_texts) cs k refl h
type_below types.LargeList p cs k h = item_below _ (λ item. Some (large_lists item)) cs k (λ c e. large_list_below c k e) h
type_below _ p cs k h = absurd cc

some_of : (o : Option Kind) → is_some o ≡ true → o ≡ Some (unwrap_or o nulls)
some_of None h = absurd cc
some_of (Some k) h = refl

-- ---- the values, in preorder

abbrev columns_in : List RawField → List DictionaryColumn
columns_in fields = flat_map (λ f. own_dictionary_column (dictionary_of f) f) fields

abbrev found_in : List RawField → List Column
found_in fields = map (λ c. c.values) (columns_in fields)

found-append : (fs gs : List RawField) → found_in (fs ++ gs) ≡ found_in fs ++ found_in gs
found-append fs gs = ap (map (λ c. c.values)) (flat_map-append (λ f. own_dictionary_column (dictionary_of f) f) fs gs) ∙ map-append (λ c. c.values) (columns_in fs) (columns_in gs)

none_below : (fs : RawFields) → columns_of_fields fs ≡ [] → found_in (preorder_all fs) ≡ []
unfolding columns_of_fields preorder_all
none_below no_raw_field h = refl
none_below (and_raw_field f fs) h = absurd cc

mutual
  unfolding preorder preorder_all column_of_field columns_of_fields arrays_at every_array

  values_at : (f : RawField) → list_any is_bad (preorder f) ≡ false → list_any is_dictionary_of_nested (preorder f) ≡ false → (a : Array)
      → values_in (arrays_at (column_of_field f) a) ≡ found_in (preorder f)
  values_at (raw_field name nullable code p None fs pairs) h n a =
      let own = (and_parts _ _ (not-false _ (or_parts _ _ h).0)).0 in
      (type_below (type_name code) p (columns_of_fields fs) _ (some_of _ own)).below (found_in (preorder_all fs)) (λ xs. values_all fs (or_parts _ _ h).1 n xs) a
  values_at (raw_field name nullable code p (Some e) fs pairs) h n a =
      let own = (and_parts _ _ (not-false _ (or_parts _ _ h).0)).0 in
      let flat = (type_below (type_name code) p (columns_of_fields fs) _ (some_of _ own)).flat (or_parts _ _ n).0 in
      ap (λ (cs : List Column). value_column (column_of_field (raw_field name nullable code p (Some e) fs pairs)) ∷ cs) (sym (none_below fs flat))

  values_all : (fs : RawFields) → list_any is_bad (preorder_all fs) ≡ false → list_any is_dictionary_of_nested (preorder_all fs) ≡ false → (xs : Arrays)
      → values_in (every_array (columns_of (columns_of_fields fs)) xs) ≡ found_in (preorder_all fs)
  values_all no_raw_field h n xs = refl
  values_all (and_raw_field f fs) h n xs =
      flat_map-append (λ t. own_values t.column) (arrays_at (column_of_field f) (first_array xs)) (every_array (columns_of (columns_of_fields fs)) (other_arrays xs))
      ∙ ap (λ (cs : List Column). cs ++ values_in (every_array (columns_of (columns_of_fields fs)) (other_arrays xs))) (values_at f (any_left is_bad (preorder f) _ h) (any_left is_dictionary_of_nested (preorder f) _ n) (first_array xs))
      ∙ ap (λ (cs : List Column). found_in (preorder f) ++ cs) (values_all fs (any_right is_bad (preorder f) _ h) (any_right is_dictionary_of_nested (preorder f) _ n) (other_arrays xs))
      ∙ sym (found-append (preorder f) (preorder_all fs))

pub values_listed : (s : RawSchema) → list_any is_bad (every_field s) ≡ false → list_any is_dictionary_of_nested (every_field s) ≡ false
    → dictionary_values (columns_of (plain_schema_of s).columns) ≡ map (λ c. c.values) (dictionary_columns s)
values_listed s h n = ap (λ (cs : List Column). dictionary_values (columns_of cs)) (sym (columns_of_list s.fields)) ∙ values_all (raw_fields_of s.fields) h n no_array

-- ---- of one id, one type

parameters_same : (a b : RawParameters) → same_parameters a b ≡ true → a ≡ b
parameters_same no_parameters no_parameters h = refl
parameters_same (integer_parameters m a) (integer_parameters n b) h = let parts = and_parts _ _ h in (λ j. integer_parameters (eqb-true m n parts.0 j) ((booleans_Decides a b).0 parts.1 j))
parameters_same (byte_width m) (byte_width n) h = ap byte_width (eqb-true m n h)
parameters_same (list_size m) (list_size n) h = ap list_size (eqb-true m n h)
parameters_same (date_unit m) (date_unit n) h = ap date_unit (eqb-true m n h)
parameters_same (timestamp_parameters m y) (timestamp_parameters n z) h = let parts = and_parts _ _ h in (λ j. timestamp_parameters (eqb-true m n parts.0 j) ((bytes_eq-Decides y z).0 parts.1 j))
parameters_same _ _ h = absurd cc

abbrev kind_read : ℕ → RawParameters → List Column → Column
kind_read code p cs = column [] true (unwrap_or (decoded_type (type_name code) p cs) nulls) None []

-- the type of a dictionary's values has no children
no_children : (name : List ℕ) (nullable : Bool) (code : ℕ) (p : RawParameters) (e : RawEncoding) (fs : RawFields) (pairs : List Pair)
    → is_bad (raw_field name nullable code p (Some e) fs pairs) ≡ false → is_dictionary_of_nested (raw_field name nullable code p (Some e) fs pairs) ≡ false → columns_of_fields fs ≡ []
no_children name nullable code p e fs pairs h n = (type_below (type_name code) p (columns_of_fields fs) _ (some_of _ (and_parts _ _ (not-false _ h)).0)).flat n

abbrev values_of : RawField → Column
values_of f = value_column (column_of_field f)

-- the first of an id, where it is this one or a later one
abbrev AreValues : Column → Option DictionaryColumn → Type 0
AreValues values found = IfSome found (λ c. c.values ≡ values)

first_or_later : (values : Column) (id : ℕ) (d : DictionaryColumn) (cs : List DictionaryColumn) (b : Bool) → is_column_of id d ≡ b → (d.id ≡ id → d.values ≡ values)
    → AreValues values (find (is_column_of id) cs) → AreValues values (find (is_column_of id) (d ∷ cs))
first_or_later values id d cs true is own h = rw is (own (eqb-true _ _ is))
first_or_later values id d cs false is own h = rw is h

agree : (name : List ℕ) (nullable : Bool) (code : ℕ) (p : RawParameters) (e : RawEncoding) (fs : RawFields) (pairs : List Pair) → columns_of_fields fs ≡ [] → (fields : List RawField)
    → list_any (are_at_odds (raw_field name nullable code p (Some e) fs pairs)) fields ≡ false → list_any is_bad fields ≡ false → list_any is_dictionary_of_nested fields ≡ false
    → AreValues (values_of (raw_field name nullable code p (Some e) fs pairs)) (find (is_column_of e.id) (columns_in fields))
unfolding column_of_field
agree name nullable code p e fs pairs flat [] odds h n = tt
agree name nullable code p e fs pairs flat (raw_field a b c q None gs others ∷ fields) odds h n =
    agree name nullable code p e fs pairs flat fields odds (or_parts _ _ h).1 n
agree name nullable code p e fs pairs flat (raw_field a b c q (Some d) gs others ∷ fields) odds h n =
    let own = no_children a b c q d gs others (or_parts _ _ h).0 (or_parts _ _ n).0 in
    let f = raw_field name nullable code p (Some e) fs pairs in
    let g = raw_field a b c q (Some d) gs others in
    let same : d.id ≡ e.id → values_of g ≡ values_of f =
    λ id.
    let one : (e.id == d.id) ≡ true = ap (λ (m : ℕ). e.id == m) id ∙ (Decides-eqb e.id e.id).1 refl in
    let test : ((e.id == d.id) && not (same_value_type f g)) ≡ false = (or_parts _ _ odds).0 in
    let none : not (same_value_type f g) ≡ false = rw one at test in
    let type = and_parts _ _ (and_parts _ _ (not-false _ none)).0 in
    (λ j. kind_read c q (own j)) ∙ (λ j. kind_read (sym (eqb-true _ _ type.0) j) (sym (parameters_same p q type.1) j) []) ∙ (λ j. kind_read code p (sym flat j))
    in
    first_or_later (values_of f) e.id (record { id = d.id; values = values_of g }) (columns_in fields) _ refl same
    (agree name nullable code p e fs pairs flat fields (or_parts _ _ odds).1 (or_parts _ _ h).1 (or_parts _ _ n).1)

-- an id that a part has, all have
abbrev HasIds : List DictionaryColumn → List DictionaryColumn → Type 0
HasIds all part = (id : ℕ) → is_some (find (is_column_of id) part) ≡ true → is_some (find (is_column_of id) all) ≡ true

one_before : (id : ℕ) (d : DictionaryColumn) (cs : List DictionaryColumn) (b : Bool) → is_column_of id d ≡ b → is_some (find (is_column_of id) cs) ≡ true → is_some (find (is_column_of id) (d ∷ cs)) ≡ true
one_before id d cs true is h = rw is refl
one_before id d cs false is h = rw is h

found_own : (d : DictionaryColumn) (cs : List DictionaryColumn) → is_some (find (is_column_of d.id) (d ∷ cs)) ≡ true
found_own d cs = rw ((Decides-eqb d.id d.id).1 refl) refl

found_values : (found : Option DictionaryColumn) (values : Column) → is_some found ≡ true → AreValues values found → option_map (λ d. d.values) found ≡ Some values
found_values None values h is = absurd cc
found_values (Some c) values h is = ap Some is

types_from : (all rest : List RawField) → list_any is_bad all ≡ false → list_any is_dictionary_of_nested all ≡ false → list_any is_bad rest ≡ false → list_any is_dictionary_of_nested rest ≡ false
    → HasIds (columns_in all) (columns_in rest) → list_any (has_other_type all) rest ≡ false → AllByRecursion (IsAsFirst (columns_in all)) (columns_in rest)
unfolding has_other_type
types_from all [] bad nested h n has odds = tt
types_from all (raw_field name nullable code p None fs pairs ∷ rest) bad nested h n has odds =
    types_from all rest bad nested (or_parts _ _ h).1 n has (or_parts _ _ odds).1
types_from all (raw_field name nullable code p (Some e) fs pairs ∷ rest) bad nested h n has odds =
    let f = raw_field name nullable code p (Some e) fs pairs in
    let d : DictionaryColumn = record { id = e.id; values = values_of f } in
    let flat = no_children name nullable code p e fs pairs (or_parts _ _ h).0 (or_parts _ _ n).0 in (
      found_values (find (is_column_of e.id) (columns_in all)) (values_of f) (has e.id (found_own d (columns_in rest))) (agree name nullable code p e fs pairs flat all (or_parts _ _ odds).0 bad nested),
      types_from all rest bad nested (or_parts _ _ h).1 (or_parts _ _ n).1 (λ id is. has id (one_before id d (columns_in rest) _ refl is)) (or_parts _ _ odds).1,
    )

pub one_type : (s : RawSchema) → list_any is_bad (every_field s) ≡ false → list_any is_dictionary_of_nested (every_field s) ≡ false → has_two_types (every_field s) ≡ false
    → HaveOneType (dictionary_columns s)
one_type s h n odds = types_from (every_field s) (every_field s) h n h n (λ id is. is) odds
