-- Sums over spans of slots.
use Rattle.std.specs.Prelude.{ℤ, nat_le, negsuc, pos, Some, None, get_or, not, option_map, ◌/◌}
use Rattle.std.proofs.Common.{◌≡◌, ℕ, zero, suc, ◌+◌, ◌-◌, ◌*◌, ◌≤◌, ◌<◌, true, false, List, ◌∷◌, length, map, drop, refl, sym, ap, subst, arith, ◌∙◌, add-mul}
use Rattle.std.specs.List.{range_with_len, list_all}
use Rattle.std.proofs.lemmas.Bool.{and_parts, leb-true, not-true}
use Rattle.std.proofs.lemmas.List.{drop_all}
use Rattle.std.proofs.lemmas.List.Sums.{sum_by-cons}
use Rattle.arrow_schema.specs.declared.types.Field.{Field}
use Rattle.arrow_schema.specs.declared.types.DictSpec.{DictSpec}
use Rattle.arrow_schema.specs.View.{column_of, kind_of, index_of}
use Rattle.arrow_schema.specs.Column.{Index, Kind, Column, Columns, column, and_column, columns_of}
use Rattle.arrow_schema.specs.Parts.{kind_of_column, index_of_column}
use Rattle.arrow_schema.specs.laws.Parts.{kind_of_field, index_of_field}
use Rattle.cells.specs.Cell.{Cell, null}
use Rattle.cells.specs.Weight.{weight, kind_weight, capped_weight}
use Rattle.columns.specs.declared.array.PlacedArray.{PlacedArray}
use Rattle.columns.specs.declared.array.Dictionary.{Dictionary}
use Rattle.columns.specs.Array.{Array, Arrays, array_list, dictionary_in, indices_in, slots_in, first_array}
use Rattle.columns.specs.CellAt.{cell_at, entries_of_kind, entry_at, index_at, indexed_cell, is_valid, named_number, unless_null, kind_cell}
use Rattle.columns.specs.Sound.{is_sound, is_kind_sound, are_sound}
use Rattle.columns.specs.Tests.{are_few, has_short_validity}
use Rattle.columns.specs.View.{placed_arrays}
use Rattle.columns.specs.laws.Rows.{other_placed}
use Rattle.arrays.specs.inner.Weights.{AreEntryWeights, sum_from, span_weight, plain_weight, valid_weight, parts_span_weight}

pub next : {X : Type 0} (w : X → ℕ) (f : ℕ → X) (start n : ℕ) → sum_from w f start (suc n) ≡ w (f start) + sum_from w f (start + 1) n
next w f start n = sum_by-cons w (f start) (map f (range_with_len (start + 1) n))

-- two spans, one after the other
pub split : {X : Type 0} (w : X → ℕ) (f : ℕ → X) (start m n : ℕ) → sum_from w f start (m + n) ≡ sum_from w f start m + sum_from w f (start + m) n
split w f start zero n =
    let e : 0 + n ≡ n = omega arith in
    let d : start + 0 ≡ start = omega arith in
    rw (e, d) (omega arith)
split w f start (suc m) n =
    let e : suc m + n ≡ suc (m + n) = omega arith in
    let d : start + suc m ≡ start + 1 + m = omega arith in
    let whole : sum_from w f start (suc (m + n)) ≡ w (f start) + sum_from w f (start + 1) (m + n) = next w f start (m + n) in
    let front : sum_from w f start (suc m) ≡ w (f start) + sum_from w f (start + 1) m = next w f start m in
    let rest : sum_from w f (start + 1) (m + n) ≡ sum_from w f (start + 1) m + sum_from w f (start + 1 + m) n = split w f (start + 1) m n in
    rw (e, d) (omega (arith, whole, front, rest))

-- where each weighs as much as another thing does, with so much more
pub each_more : {X Y : Type 0} (w : X → ℕ) (f : ℕ → X) (v : Y → ℕ) (g : ℕ → Y) (more start n : ℕ) → ((i : ℕ) → start ≤ i → i < start + n → w (f i) ≡ more + v (g i))
    → sum_from w f start n ≡ n * more + sum_from v g start n
each_more w f v g more start zero h = omega arith
each_more w f v g more start (suc n) h =
    let here : w (f start) ≡ more + v (g start) = h start (omega arith) (omega arith) in
    let rest : sum_from w f (start + 1) n ≡ n * more + sum_from v g (start + 1) n = each_more w f v g more (start + 1) n (λ i le lt. h i (omega arith) (omega arith)) in
    omega (arith, here, rest, next w f start n, next v g start n)

-- where each weighs one, and a number of others so much each
pub each_sized : {X : Type 0} (w : X → ℕ) (f : ℕ → X) (size : ℕ → ℕ) (unit start n : ℕ) → ((i : ℕ) → start ≤ i → i < start + n → w (f i) ≡ 1 + size i * unit)
    → sum_from w f start n ≡ n + sum_from (λ (k : ℕ). k) size start n * unit
each_sized w f size unit start zero h =
    let none : sum_from (λ (k : ℕ). k) size start 0 * unit ≡ 0 * unit = refl in
    let first : sum_from w f start 0 ≡ 0 = refl in
    omega (arith, none, first)
each_sized w f size unit start (suc n) h =
    let here : w (f start) ≡ 1 + size start * unit = h start (omega arith) (omega arith) in
    let rest : sum_from w f (start + 1) n ≡ n + sum_from (λ (k : ℕ). k) size (start + 1) n * unit = each_sized w f size unit (start + 1) n (λ i le lt. h i (omega arith) (omega arith)) in
    let all : sum_from (λ (k : ℕ). k) size start (suc n) * unit ≡ (size start + sum_from (λ (k : ℕ). k) size (start + 1) n) * unit = ap (λ (k : ℕ). k * unit) (next (λ (k : ℕ). k) size start n) in
    let both : (size start + sum_from (λ (k : ℕ). k) size (start + 1) n) * unit ≡ size start * unit + sum_from (λ (k : ℕ). k) size (start + 1) n * unit = add-mul _ _ _ in
    omega (arith, here, rest, all, both, next w f start n)

-- where all weigh the same
pub each_same : {X : Type 0} (w : X → ℕ) (f : ℕ → X) (k start n : ℕ) → ((i : ℕ) → start ≤ i → i < start + n → w (f i) ≡ k) → sum_from w f start n ≡ n * k
each_same w f k start zero h = omega arith
each_same w f k start (suc n) h =
    let here : w (f start) ≡ k = h start (omega arith) (omega arith) in
    let rest : sum_from w f (start + 1) n ≡ n * k = each_same w f k (start + 1) n (λ i le lt. h i (omega arith) (omega arith)) in
    omega (arith, here, rest, next w f start n)

-- where each is the sum of two
pub each_both : {X Y Z : Type 0} (w : X → ℕ) (f : ℕ → X) (u : Y → ℕ) (g : ℕ → Y) (v : Z → ℕ) (h : ℕ → Z) (start n : ℕ) → ((i : ℕ) → w (f i) ≡ u (g i) + v (h i))
    → sum_from w f start n ≡ sum_from u g start n + sum_from v h start n
each_both w f u g v h start zero both = omega arith
each_both w f u g v h start (suc n) both =
    let here : w (f start) ≡ u (g start) + v (h start) = both start in
    let rest : sum_from w f (start + 1) n ≡ sum_from u g (start + 1) n + sum_from v h (start + 1) n = each_both w f u g v h (start + 1) n both in
    omega (arith, here, rest, next w f start n, next u g start n, next v h start n)

-- where each weighs one and what stands from a place up to the next one's: those places never fall
pub each_spanned : {X Y : Type 0} (w : X → ℕ) (f : ℕ → X) (v : Y → ℕ) (g : ℕ → Y) (at : ℕ → ℕ) (start n : ℕ)
    → ((i : ℕ) → start ≤ i → i < start + n → w (f i) ≡ 1 + sum_from v g (at i) (at (i + 1) - at i))
    → ((i m : ℕ) → start ≤ i → i + m ≤ start + n → at i ≤ at (i + m))
    → sum_from w f start n ≡ n + sum_from v g (at start) (at (start + n) - at start)
each_spanned w f v g at start zero each up =
    let e : start + 0 ≡ start = omega arith in
    let d : at start - at start ≡ 0 = omega arith in
    rw (e, d) (omega arith)
each_spanned w f v g at start (suc n) each up =
    let e : start + suc n ≡ start + 1 + n = omega arith in
    let here : w (f start) ≡ 1 + sum_from v g (at start) (at (start + 1) - at start) = each start (omega arith) (omega arith) in
    let rest : sum_from w f (start + 1) n ≡ n + sum_from v g (at (start + 1)) (at (start + 1 + n) - at (start + 1))
    = each_spanned w f v g at (start + 1) n (λ i le lt. each i (omega arith) (omega arith)) (λ i m le lt. up i m (omega arith) (omega arith)) in
    let first : at start ≤ at (start + 1) = up start 1 (omega arith) (omega arith) in
    let others : at (start + 1) ≤ at (start + 1 + n) = up (start + 1) n (omega arith) (omega arith) in
    let own : at start + (at (start + 1) - at start) ≡ at (start + 1) = omega arith in
    let both : at (start + 1) - at start + (at (start + 1 + n) - at (start + 1)) ≡ at (start + 1 + n) - at start = omega arith in
    let whole = split v g (at start) (at (start + 1) - at start) (at (start + 1 + n) - at (start + 1)) in
    let joined : sum_from v g (at start) (at (start + 1 + n) - at start) ≡ sum_from v g (at start) (at (start + 1) - at start) + sum_from v g (at (start + 1)) (at (start + 1 + n) - at (start + 1))
    = rw (both, own) at whole in
    rw e (omega (arith, here, rest, joined, next w f start n))

-- ---- runs

pub valid_run : (k : Kind) (a : Array) (start n : ℕ) → is_valid a start ≡ true → ((i : ℕ) → start ≤ i → i < start + n → is_valid a i ≡ is_valid a start)
    → plain_weight k a start n ≡ valid_weight k a start n
valid_run k a start n valid alike =
    let e : n * 0 + valid_weight k a start n ≡ valid_weight k a start n = omega arith in
    each_more (kind_weight k) (unless_null (kind_cell k) a) (kind_weight k) (kind_cell k a) 0 start n (λ i l r.
    let here : is_valid a i ≡ true = alike i l r ∙ valid in
    let z : 0 + kind_weight k (kind_cell k a i) ≡ kind_weight k (kind_cell k a i) = omega arith in
    rw here (sym z))
    ∙ e

pub null_run : (k : Kind) (a : Array) (start n : ℕ) → is_valid a start ≡ false → ((i : ℕ) → start ≤ i → i < start + n → is_valid a i ≡ is_valid a start)
    → plain_weight k a start n ≡ n * kind_weight k null
null_run k a start n hidden alike = each_same (kind_weight k) (unless_null (kind_cell k) a) (kind_weight k null) start n (λ i l r.
    let here : is_valid a i ≡ false = alike i l r ∙ hidden in
    rw here refl)

-- a run, and what is left after it
pub run_more : (k : Kind) (a : Array) (start next end : ℕ) → start ≤ next → next ≤ end
    → plain_weight k a start (end - start) ≡ plain_weight k a start (next - start) + plain_weight k a next (end - next)
run_more k a start next end le most =
    let e : next - start + (end - next) ≡ end - start = omega arith in
    let d : start + (next - start) ≡ next = omega arith in
    rw (e, d) at (split (kind_weight k) (unless_null (kind_cell k) a) start (next - start) (end - next))

-- ---- loops over what is left

-- a part more, and what is left after it
pub next_total : (whole total before part left weight new : ℕ) → capped_weight (total + before) ≡ whole → before ≡ part + left → weight ≡ capped_weight part → new ≡ capped_weight (total + weight)
    → (capped_weight (new + left) ≡ whole) × (capped_weight new ≡ new)
next_total whole total before part left weight new sums more is total_is = (omega (arith, sums, more, is, total_is), omega (arith, total_is))

-- one more slot
pub slot_more : {X : Type 0} (w : X → ℕ) (f : ℕ → X) (i end : ℕ) → i < end → sum_from w f i (end - i) ≡ w (f i) + sum_from w f (i + 1) (end - (i + 1))
slot_more w f i end lt =
    let e : end - i ≡ suc (end - (i + 1)) = omega arith in
    rw e (next w f i (end - (i + 1)))

-- the next of some columns
pub parts_next : (bytes : List ℕ) (all : List Dictionary) (fs : List Field) (arrays : List PlacedArray) (i : ℕ) (f : Field) (a : Array) (start n : ℕ)
    → drop i fs ≡ f ∷ drop (i + 1) fs → a ≡ first_array (placed_arrays bytes all (drop i arrays))
    → parts_span_weight (columns_of (map column_of (drop i fs))) (placed_arrays bytes all (drop i arrays)) start n
    ≡ span_weight (column_of f) a start n + parts_span_weight (columns_of (map column_of (drop (i + 1) fs))) (placed_arrays bytes all (drop (i + 1) arrays)) start n
unfolding parts_span_weight
parts_next bytes all fs arrays i f a start n next_field is =
    let here : Arrays = placed_arrays bytes all (drop i arrays) in
    let cs : Columns = columns_of (map column_of (drop (i + 1) fs)) in
    ap (λ (gs : List Field). parts_span_weight (columns_of (map column_of gs)) here start n) next_field
    ∙ λ j. span_weight (column_of f) (sym is j) start n + parts_span_weight cs (other_placed bytes all arrays i j) start n

pub parts_end : (fs : List Field) (i : ℕ) (arrays : Arrays) (start n : ℕ) → length fs ≤ i → parts_span_weight (columns_of (map column_of (drop i fs))) arrays start n ≡ 0
unfolding parts_span_weight
parts_end fs i arrays start n all = ap (λ (gs : List Field). parts_span_weight (columns_of (map column_of gs)) arrays start n) (drop_all i fs all)

pub sound_next : (bytes : List ℕ) (all : List Dictionary) (fs : List Field) (arrays : List PlacedArray) (i : ℕ) (f : Field) (a : Array) (slots : ℕ)
    → drop i fs ≡ f ∷ drop (i + 1) fs → a ≡ first_array (placed_arrays bytes all (drop i arrays))
    → are_sound (columns_of (map column_of (drop i fs))) slots (placed_arrays bytes all (drop i arrays)) ≡ true
    → (slots ≤ slots_in a) × (is_sound (column_of f) a ≡ true) × (are_sound (columns_of (map column_of (drop (i + 1) fs))) slots (placed_arrays bytes all (drop (i + 1) arrays)) ≡ true)
unfolding are_sound
sound_next bytes all fs arrays i f a slots next_field is h =
    let here : Arrays = placed_arrays bytes all (drop i arrays) in
    let cs : Columns = columns_of (map column_of (drop (i + 1) fs)) in
    let opened : are_sound (and_column (column_of f) cs) slots here ≡ true = sym (ap (λ (gs : List Field). are_sound (columns_of (map column_of gs)) slots here) next_field) ∙ h in
    let long = and_parts (nat_le slots (slots_in (first_array here))) _ opened in
    let parts = and_parts (is_sound (column_of f) (first_array here)) _ long.1 in
    let most : slots ≤ slots_in (first_array here) = leb-true _ _ long.0 in (
      subst (λ (x : Array). slots ≤ slots_in x) (sym is) most,
      ap (is_sound (column_of f)) is ∙ parts.0,
      sym (ap (are_sound cs slots) (other_placed bytes all arrays i)) ∙ parts.1,
    )

-- ---- entries of dictionaries

pub one_slot : (w : Cell → ℕ) (f : ℕ → Cell) (i : ℕ) → sum_from w f i 1 ≡ w (f i)
one_slot w f i =
    let first = next w f i 0 in
    let none : sum_from w f (i + 1) 0 ≡ 0 = refl in
    omega (arith, first, none)

number_is : (z : ℤ) (n : ℕ) → Some n ≡ named_number z → pos n ≡ z
number_is (pos k) n is = cc
number_is (negsuc k) n is = cc

-- a valid slot weighs as much as the entry that its index names
pub known_weight : (kind : Kind) (index : Index) (a : Array) (i n : ℕ) (known : List ℕ) → is_valid a i ≡ true → Some n ≡ named_number (index_at index a i)
    → AreEntryWeights kind (dictionary_in a) known → n < length known → get_or known n 0 ≡ capped_weight (kind_weight kind (unless_null (indexed_cell index kind) a i))
known_weight kind index a i n known valid named weights lt =
    let own = ap (λ (z : ℤ). capped_weight (kind_weight kind (entry_at (entries_of_kind kind (dictionary_in a)) z))) (number_is (index_at index a i) n named) in
    weights n lt ∙ own ∙ rw valid refl

pub valid_weighs : (kind : Kind) (index : Index) (a : Array) (i : ℕ) (c : Cell) → is_valid a i ≡ true → c ≡ indexed_cell index kind a i
    → capped_weight (kind_weight kind c) ≡ capped_weight (kind_weight kind (unless_null (indexed_cell index kind) a i))
valid_weighs kind index a i c valid is = ap (λ (d : Cell). capped_weight (kind_weight kind d)) is ∙ rw valid refl

-- ---- fields with a dictionary, and without

column_sound : (c : Column) (a : Array) → index_of_column c ≡ None → is_sound c a ≡ true → is_kind_sound (kind_of_column c) a ≡ true
unfolding is_sound
column_sound (column name nullable kind None pairs) a is h = h
column_sound (column name nullable kind (Some index) pairs) a is h = absurd cc

pub plain_sound : (field : Field) (a : Array) → field.dictionary ≡ None → is_sound (column_of field) a ≡ true → is_kind_sound (kind_of field.data_type) a ≡ true
plain_sound field a is h =
    ap (λ (k : Kind). is_kind_sound k a) (sym (kind_of_field field)) ∙ column_sound (column_of field) a (index_of_field field ∙ ap (option_map index_of) is) h

column_plain : (c : Column) (a : Array) (start n : ℕ) → index_of_column c ≡ None → plain_weight (kind_of_column c) a start n ≡ span_weight c a start n
unfolding weight cell_at
column_plain (column name nullable kind None pairs) a start n is = refl
column_plain (column name nullable kind (Some index) pairs) a start n is = absurd cc

pub plain_spanned : (field : Field) (a : Array) (start n : ℕ) → field.dictionary ≡ None → plain_weight (kind_of field.data_type) a start n ≡ span_weight (column_of field) a start n
plain_spanned field a start n is =
    ap (λ (k : Kind). plain_weight k a start n) (sym (kind_of_field field)) ∙ column_plain (column_of field) a start n (index_of_field field ∙ ap (option_map index_of) is)

column_coded_sound : (c : Column) (index : Index) (a : Array) → index_of_column c ≡ Some index → is_sound c a ≡ true
    → (has_short_validity a ≡ false) × (are_few (index.bits / 8) a (indices_in a) ≡ false) × (list_all (is_kind_sound (kind_of_column c)) (array_list (dictionary_in a)) ≡ true)
unfolding is_sound
column_coded_sound (column name nullable kind None pairs) index a is h = absurd cc
column_coded_sound (column name nullable kind (Some own) pairs) index a is h =
    let same : own ≡ index = cc in
    let first = and_parts (not (has_short_validity a)) _ h in
    let second = and_parts (not (are_few (own.bits / 8) a (indices_in a))) _ first.1 in
    (not-true _ first.0, sym (ap (λ (x : Index). are_few (x.bits / 8) a (indices_in a)) same) ∙ not-true _ second.0, second.1)

pub coded_sound : (field : Field) (spec : DictSpec) (a : Array) → field.dictionary ≡ Some spec → is_sound (column_of field) a ≡ true
    → (has_short_validity a ≡ false) × (are_few ((index_of spec).bits / 8) a (indices_in a) ≡ false) × (list_all (is_kind_sound (kind_of field.data_type)) (array_list (dictionary_in a)) ≡ true)
coded_sound field spec a is h =
    let parts = column_coded_sound (column_of field) (index_of spec) a (index_of_field field ∙ ap (option_map index_of) is) h in
    (parts.0, parts.1, ap (λ (k : Kind). list_all (is_kind_sound k) (array_list (dictionary_in a))) (sym (kind_of_field field)) ∙ parts.2)

column_coded : (c : Column) (index : Index) (a : Array) (start n : ℕ) → index_of_column c ≡ Some index
    → sum_from (kind_weight (kind_of_column c)) (unless_null (indexed_cell index (kind_of_column c)) a) start n ≡ span_weight c a start n
unfolding weight cell_at
column_coded (column name nullable kind None pairs) index a start n is = absurd cc
column_coded (column name nullable kind (Some own) pairs) index a start n is =
    let same : index ≡ own = cc in
    ap (λ (x : Index). sum_from (kind_weight kind) (unless_null (indexed_cell x kind) a) start n) same

pub coded_spanned : (field : Field) (spec : DictSpec) (a : Array) (start n : ℕ) → field.dictionary ≡ Some spec
    → sum_from (kind_weight (kind_of field.data_type)) (unless_null (indexed_cell (index_of spec) (kind_of field.data_type)) a) start n ≡ span_weight (column_of field) a start n
coded_spanned field spec a start n is =
    ap (λ (k : Kind). sum_from (kind_weight k) (unless_null (indexed_cell (index_of spec) k) a) start n) (sym (kind_of_field field))
    ∙ column_coded (column_of field) (index_of spec) a start n (index_of_field field ∙ ap (option_map index_of) is)
