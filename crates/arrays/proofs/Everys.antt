-- A test of every array, in a loop.
use Rattle.std.specs.Prelude.{◌||◌, [], option_map}
use Rattle.std.specs.List.{list_any, zip}
use Rattle.std.proofs.Common.{◌≡◌, ℕ, ◌+◌, ◌/◌, ◌<◌, ◌≤◌, Bool, true, false, List, ◌∷◌, ◌++◌, length, map, drop, get_or, Some, None, refl, sym, ap, ◌∙◌}
use Rattle.std.proofs.lemmas.Bool.{or_parts}
use Rattle.facts.specs.laws.Lists.{drop-item}
use Rattle.ipc_message.specs.Raw.{RawNode}
use Rattle.std.proofs.lemmas.List.{append_assoc, append-nil, drop_all, map-append}
use Rattle.arrow_schema.specs.declared.types.Field.{Field}
use Rattle.arrow_schema.specs.declared.types.DictSpec.{DictSpec}
use Rattle.arrow_schema.specs.Column.{Index, Kind, Column, Columns, column, columns_of}
use Rattle.arrow_schema.specs.Parts.{kind_of_column, index_of_column}
use Rattle.arrow_schema.specs.View.{column_of, kind_of, index_of}
use Rattle.arrow_schema.specs.laws.Parts.{kind_of_field, index_of_field}
use Rattle.columns.specs.declared.array.PlacedArray.{PlacedArray}
use Rattle.columns.specs.declared.array.Dictionary.{Dictionary}
use Rattle.columns.specs.Array.{Array, Arrays, indices_in, first_array, other_arrays}
use Rattle.columns.specs.Tests.{Typed, typed, arrays_at, arrays_below, every_array, is_short, has_short_validity, has_short_buffer, are_few}
use Rattle.columns.specs.View.{placed_arrays, view_array}
use Rattle.columns.specs.laws.Rows.{other_placed}
use Rattle.arrays.specs.declared.every.TypedView.{TypedView}
use Rattle.arrays.specs.Checks.{is_miscounted}
use Rattle.arrays.specs.inner.Every.{typed_view, all_of}

next_typed : (xs : List TypedView) (i : ℕ) (x : TypedView) → i < length xs → x ≡ get_or xs i x → all_of (drop i xs) ≡ typed_view x ∷ all_of (drop (i + 1) xs)
next_typed xs i x within is = ap all_of (drop-item xs i x within is)

pub test_later : (p : Typed → Bool) (xs : List TypedView) (i : ℕ) (x : TypedView) → i < length xs → x ≡ get_or xs i x → p (typed_view x) ≡ false
    → list_any p (all_of (drop (i + 1) xs)) ≡ list_any p (all_of (drop i xs))
test_later p xs i x within is not_so = rw (next_typed xs i x within is, not_so) refl

pub test_here : (p : Typed → Bool) (xs : List TypedView) (i : ℕ) (x : TypedView) → i < length xs → x ≡ get_or xs i x → p (typed_view x) ≡ true
    → list_any p (all_of (drop i xs)) ≡ true
test_here p xs i x within is so = rw (next_typed xs i x within is, so) refl

-- no test finds anything: not of this one, and not of the others
pub none_here : (p : Typed → Bool) (xs : List TypedView) (i : ℕ) (x : TypedView) → i < length xs → x ≡ get_or xs i x → list_any p (all_of (drop i xs)) ≡ false
    → (p (typed_view x) ≡ false) × (list_any p (all_of (drop (i + 1) xs)) ≡ false)
none_here p xs i x within is h =
    let parts : (p (typed_view x) || list_any p (all_of (drop (i + 1) xs))) ≡ false = rw (next_typed xs i x within is) at h in
    or_parts (p (typed_view x)) (list_any p (all_of (drop (i + 1) xs))) parts

-- the same with nodes beside them
pub pair_later : (nodes : List RawNode) (xs : List TypedView) (i : ℕ) (n : RawNode) (x : TypedView) → drop i nodes ≡ n ∷ drop (i + 1) nodes → i < length xs → x ≡ get_or xs i x
    → is_miscounted (n, typed_view x) ≡ false
    → list_any is_miscounted (zip (drop (i + 1) nodes) (all_of (drop (i + 1) xs))) ≡ list_any is_miscounted (zip (drop i nodes) (all_of (drop i xs)))
pair_later nodes xs i n x next within is not_so = rw (next, next_typed xs i x within is, not_so) refl

pub pair_here : (nodes : List RawNode) (xs : List TypedView) (i : ℕ) (n : RawNode) (x : TypedView) → drop i nodes ≡ n ∷ drop (i + 1) nodes → i < length xs → x ≡ get_or xs i x
    → is_miscounted (n, typed_view x) ≡ true → list_any is_miscounted (zip (drop i nodes) (all_of (drop i xs))) ≡ true
pair_here nodes xs i n x next within is so = rw (next, next_typed xs i x within is, so) refl

-- an array that is not short has no short validity bitmap
pub short_validity : (c : Column) (a : Array) → is_short c a ≡ false → has_short_validity a ≡ false
short_validity (column name nullable kind None pairs) a h = (or_parts (has_short_validity a) (has_short_buffer kind a) h).0
short_validity (column name nullable kind (Some index) pairs) a h = (or_parts (has_short_validity a) (are_few (index.bits / 8) a (indices_in a)) h).0

-- ---- the arrays of columns, listed one after another

-- with one more column
pub listed_more : (bytes : List ℕ) (all : List Dictionary) (fs : List Field) (arrays : List PlacedArray) (i : ℕ) (f : Field) (a : Array) (before after every : List Typed)
    → drop i fs ≡ f ∷ drop (i + 1) fs → a ≡ first_array (placed_arrays bytes all (drop i arrays)) → after ≡ before ++ arrays_at (column_of f) a
    → before ++ every_array (columns_of (map column_of (drop i fs))) (placed_arrays bytes all (drop i arrays)) ≡ every
    → after ++ every_array (columns_of (map column_of (drop (i + 1) fs))) (placed_arrays bytes all (drop (i + 1) arrays)) ≡ every
unfolding every_array
listed_more bytes all fs arrays i f a before after every next is more h =
    let here : Arrays = placed_arrays bytes all (drop i arrays) in
    let cs : Columns = columns_of (map column_of (drop (i + 1) fs)) in
    let others : placed_arrays bytes all (drop (i + 1) arrays) ≡ other_arrays here = sym (other_placed bytes all arrays i) in
    let e : every_array (columns_of (map column_of (drop i fs))) here ≡ arrays_at (column_of f) (first_array here) ++ every_array cs (other_arrays here)
    = ap (λ (gs : List Field). every_array (columns_of (map column_of gs)) here) next in
    (λ j. more j ++ every_array cs (others j))
    ∙ append_assoc before (arrays_at (column_of f) a) (every_array cs (other_arrays here))
    ∙ (λ j. before ++ (arrays_at (column_of f) (is j) ++ every_array cs (other_arrays here)))
    ∙ ap (λ (ts : List Typed). before ++ ts) (sym e) ∙ h

-- with none left
pub listed_all : (fs : List Field) (i : ℕ) (arrays : Arrays) (all every : List Typed) → length fs ≤ i → all ++ every_array (columns_of (map column_of (drop i fs))) arrays ≡ every → all ≡ every
unfolding every_array
listed_all fs i arrays all every past h =
    sym (append-nil all) ∙ ap (λ (gs : List Field). all ++ every_array (columns_of (map column_of gs)) arrays) (sym (drop_all i fs past)) ∙ h

-- ---- an array, and those below it

coded_column : (c : Column) (index : Index) (a : Array) → index_of_column c ≡ Some index → arrays_at c a ≡ typed c a ∷ []
unfolding arrays_at
coded_column (column name nullable kind None pairs) index a is = absurd cc
coded_column (column name nullable kind (Some own) pairs) index a is = refl

plain_column : (c : Column) (a : Array) → index_of_column c ≡ None → arrays_at c a ≡ typed c a ∷ arrays_below (kind_of_column c) a
unfolding arrays_at
plain_column (column name nullable kind None pairs) a is = refl
plain_column (column name nullable kind (Some index) pairs) a is = absurd cc

listed_here : (old new : List TypedView) (x : TypedView) → new ≡ old ++ x ∷ [] → all_of new ≡ all_of old ++ typed_view x ∷ []
listed_here old new x is = ap all_of is ∙ map-append typed_view old (x ∷ [])

pub coded_listed : (old new : List TypedView) (x : TypedView) (spec : DictSpec) → new ≡ old ++ x ∷ [] → x.field.now.dictionary ≡ Some spec
    → all_of new ≡ all_of old ++ arrays_at (column_of x.field.now) (view_array x.view)
coded_listed old new x spec more is =
    let own = coded_column (column_of x.field.now) (index_of spec) (view_array x.view) (index_of_field x.field.now ∙ ap (option_map index_of) is) in
    listed_here old new x more ∙ ap (λ (ts : List Typed). all_of old ++ ts) (sym own)

pub plain_listed : (old new : List TypedView) (x : TypedView) → new ≡ old ++ x ∷ [] → x.field.now.dictionary ≡ None
    → all_of new ++ arrays_below (kind_of x.field.now.data_type) (view_array x.view) ≡ all_of old ++ arrays_at (column_of x.field.now) (view_array x.view)
plain_listed old new x more is =
    let a : Array = view_array x.view in
    let below : List Typed = arrays_below (kind_of x.field.now.data_type) a in
    let same : arrays_below (kind_of_column (column_of x.field.now)) a ≡ below = ap (λ (k : Kind). arrays_below k a) (kind_of_field x.field.now) in
    let own = plain_column (column_of x.field.now) a (index_of_field x.field.now ∙ ap (option_map index_of) is) in
    ap (λ (ts : List Typed). ts ++ below) (listed_here old new x more)
    ∙ append_assoc (all_of old) (typed_view x ∷ []) below
    ∙ ap (λ (ts : List Typed). all_of old ++ typed_view x ∷ ts) (sym same)
    ∙ ap (λ (ts : List Typed). all_of old ++ ts) (sym own)
