-- What is asked of a visible slot itself.
use Rattle.std.specs.Prelude.{◌||◌, ◌&&◌, not, ◌==◌, nat_le, nat_lt, ℤ, pos, negsuc, Option, IfSome, is_some, if◌then◌else◌}
use Rattle.std.specs.List.{list_any, range_with_len}
use Rattle.std.specs.Str.{is_utf8}
use Rattle.std.proofs.Common.{◌≡◌, ◌<◌, ◌≤◌, ℕ, zero, suc, Bool, true, false, List, [], ◌∷◌, length, Some, None, refl, arith, ap, ◌∙◌}
use Rattle.std.proofs.lemmas.Bool.{and_parts, and_right, or_parts, not-true}
use Rattle.std.proofs.lemmas.Bool.Decides.{nat_tests}
use Rattle.std.proofs.lemmas.List.FromFn.{length-range_with_len}
use Rattle.facts.specs.laws.Lists.{none_in_range}
use Rattle.arrow_schema.specs.Parts.{is_nullable_column, kind_of_column, index_of_column, is_nulls}
use Rattle.arrays.proofs.Ranges.{any-fewer}
use Rattle.bitmap.specs.Bits.{bit, count_of}
use Rattle.arrow_schema.specs.declared.types.DictSpec.{DictSpec}
use Rattle.arrow_schema.specs.View.{index_of}
use Rattle.arrow_schema.specs.Column.{Index, Column, column, Kind, nulls, texts, large_texts}
use Rattle.cells.specs.Cell.{Cell, null, text}
use Rattle.columns.specs.declared.numbers.OffsetWidth.{OffsetWidth}
use Rattle.columns.specs.declared.view.ArrayView.{ArrayView}
use Rattle.columns.specs.Offsets.{width_of}
use Rattle.columns.specs.View.{view_array}
use Rattle.columns.specs.Array.{Array, validity_in, dictionary_in}
use Rattle.columns.specs.CellAt.{is_valid, cell_at, contents_at, kind_cell, unless_null, indexed_cell, index_at, entries_of_kind, named_number}
use Rattle.columns.specs.Sound.{is_sound}
use Rattle.columns.specs.Tests.{has_short_validity}
use Rattle.columns.specs.Visible.{is_bad_text, is_null, is_past, names_no_entry, is_forbidden}
use Rattle.arrays.specs.inner.VisibleSpans.{any_slot, is_no_plain_text, text_width}

-- ---- what the loops over slots ask

abbrev pub past : DictSpec → ArrayView → Kind → ℕ → Bool
past spec view kind i = is_valid (view_array view) i && is_past (index_at (index_of spec) (view_array view) i) (entries_of_kind kind (dictionary_in (view_array view)))

abbrev pub bad : OffsetWidth → ArrayView → ℕ → Bool
bad width view i = is_valid (view_array view) i && not (is_utf8 (contents_at (width_of width) (view_array view) i))

-- a test that finds the same at each number
pub any_same : (p q : ℕ → Bool) (xs : List ℕ) → ((i : ℕ) → p i ≡ q i) → list_any p xs ≡ list_any q xs
any_same p q xs same = (λ j. list_any (λ i. same i j) xs)

pub any_never : (p : ℕ → Bool) (from n : ℕ) → ((i : ℕ) → p i ≡ false) → list_any p (range_with_len from n) ≡ false
any_never p from n never = none_in_range p from n (λ i low high. never i)

pub any_always : (p : ℕ → Bool) (from n : ℕ) → ((i : ℕ) → p i ≡ true) → list_any p (range_with_len from n) ≡ nat_lt 0 n
any_always p from zero always = refl
any_always p from (suc n) always = let some : nat_lt 0 (suc n) ≡ true = grind (arith, nat_tests) in rw (always from, some) refl

-- ---- indices

not_below : (entries n m : ℕ) → n ≡ m → m < entries → nat_le entries n ≡ false
not_below entries n m same lt = grind (arith, nat_tests)

-- a number below the entries is not past them
pub not_past : (index : ℤ) (entries : List Cell) (n : ℕ) → named_number index ≡ Some n → n < length entries → is_past index entries ≡ false
not_past (pos m) entries n is lt = let same : m ≡ n = cc in not_below (length entries) m n same lt
not_past (negsuc m) entries n is lt = cc

pub found_not_past : (index : ℤ) (entries : List Cell) (limit : ℕ) (found : Option ℕ) → limit ≤ length entries → is_some found ≡ true
    → IfSome found (λ n. n < limit) → IfSome found (λ n. named_number index ≡ Some n) → is_past index entries ≡ false
found_not_past index entries limit None few some below named = absurd cc
found_not_past index entries limit (Some n) few some below named = not_past index entries n named (omega (arith, few, below))

-- where no slot passes a test, none passes that and another
pub any_less : (p q : ℕ → Bool) (xs : List ℕ) → list_any q xs ≡ false → list_any (λ i. p i && q i) xs ≡ false
any_less p q [] none = refl
any_less p q (x ∷ xs) none =
    let parts = or_parts (q x) (list_any q xs) none in
    (λ j. (and_right (p x) (q x) parts.0 j) || (any_less p q xs parts.1 j))

-- ---- texts

if_text : (b : Bool) (t : List ℕ) → is_bad_text (if b then text t else null) ≡ (b && not (is_utf8 t))
if_text true t = refl
if_text false t = refl

pub if_other : (b : Bool) (c : Cell) → is_bad_text c ≡ false → is_bad_text (if b then c else null) ≡ false
if_other true c h = h
if_other false c h = refl

pub text_at : (kind : Kind) (w : ℕ) (a : Array) (i : ℕ) → text_width kind ≡ Some w → is_bad_text (unless_null (kind_cell kind) a i) ≡ (is_valid a i && not (is_utf8 (contents_at w a i)))
unfolding kind_cell
text_at texts w a i h = let e : 4 ≡ w = cc in if_text (is_valid a i) (contents_at 4 a i) ∙ ap (λ (k : ℕ). is_valid a i && not (is_utf8 (contents_at k a i))) e
text_at large_texts w a i h = let e : 8 ≡ w = cc in if_text (is_valid a i) (contents_at 8 a i) ∙ ap (λ (k : ℕ). is_valid a i && not (is_utf8 (contents_at k a i))) e
text_at _ w a i h = absurd cc

pub no_text_at : (kind : Kind) (a : Array) (i : ℕ) → text_width kind ≡ None → is_bad_text (unless_null (kind_cell kind) a i) ≡ false
unfolding kind_cell
no_text_at texts a i h = absurd cc
no_text_at large_texts a i h = absurd cc
no_text_at _ a i h = if_other (is_valid a i) _ refl

-- ---- nulls

if_null : (b : Bool) → is_null (if b then null else null) ≡ true
if_null true = refl
if_null false = refl

if_filled : (b : Bool) (c : Cell) → is_null c ≡ false → is_null (if b then c else null) ≡ not b
if_filled true c h = h
if_filled false c h = refl

pub null_at : (kind : Kind) (a : Array) (i : ℕ) → is_null (unless_null (kind_cell kind) a i) ≡ (is_nulls kind || not (is_valid a i))
unfolding kind_cell
null_at nulls a i = if_null (is_valid a i)
null_at _ a i = if_filled (is_valid a i) _ refl

pub unset_if : (v : List ℕ) (a : Array) (from n : ℕ) → v ≡ validity_in a
    → list_any (λ i. not (is_valid a i)) (range_with_len from n) ≡ (not (length v == 0) && nat_lt (count_of v from n) n)
unset_if v a from n is = rw is (by_bits (length (validity_in a) == 0))
  where
    by_bits : (empty : Bool) → list_any (λ i. not (empty || bit (validity_in a) i)) (range_with_len from n) ≡ (not empty && nat_lt (count_of (validity_in a) from n) n)
    by_bits true = any_never (λ i. false) from n (λ i. refl)
    by_bits false = any-fewer (bit (validity_in a)) (range_with_len from n) ∙ ap (nat_lt (count_of (validity_in a) from n)) (length-range_with_len from n)

-- ---- the tests of the slots of a span

pub no_index_tested : (c : Column) (a : Array) (from n : ℕ) → index_of_column c ≡ None → any_slot names_no_entry c a from n ≡ false
no_index_tested (column name nullable kind None pairs) a from n h = any_never (λ i. false) from n (λ i. refl)
no_index_tested (column name nullable kind (Some index) pairs) a from n h = absurd cc

pub index_tested : (c : Column) (index : Index) (a : Array) (from n : ℕ) → index_of_column c ≡ Some index
    → any_slot names_no_entry c a from n ≡ list_any (λ i. is_valid a i && is_past (index_at index a i) (entries_of_kind (kind_of_column c) (dictionary_in a))) (range_with_len from n)
index_tested (column name nullable kind None pairs) index a from n h = absurd cc
index_tested (column name nullable kind (Some other) pairs) index a from n h =
    let e : other ≡ index = cc in
    ap (λ (x : Index). list_any (λ i. is_valid a i && is_past (index_at x a i) (entries_of_kind kind (dictionary_in a))) (range_with_len from n)) e

pub entry_texts_skipped : (c : Column) (index : Index) (a : Array) (from n : ℕ) → index_of_column c ≡ Some index → any_slot is_no_plain_text c a from n ≡ false
entry_texts_skipped (column name nullable kind None pairs) index a from n h = absurd cc
entry_texts_skipped (column name nullable kind (Some other) pairs) index a from n h = any_never (λ i. false) from n (λ i. refl)

pub no_texts_tested : (c : Column) (a : Array) (from n : ℕ) → index_of_column c ≡ None → text_width (kind_of_column c) ≡ None → any_slot is_no_plain_text c a from n ≡ false
unfolding cell_at
no_texts_tested (column name nullable kind None pairs) a from n h none = any_never _ from n (λ i. no_text_at kind a i none)
no_texts_tested (column name nullable kind (Some index) pairs) a from n h none = absurd cc

pub texts_tested : (c : Column) (w : ℕ) (a : Array) (from n : ℕ) → index_of_column c ≡ None → text_width (kind_of_column c) ≡ Some w
    → any_slot is_no_plain_text c a from n ≡ list_any (λ i. is_valid a i && not (is_utf8 (contents_at w a i))) (range_with_len from n)
unfolding cell_at
texts_tested (column name nullable kind None pairs) w a from n h wide = any_same _ _ (range_with_len from n) (λ i. text_at kind w a i wide)
texts_tested (column name nullable kind (Some index) pairs) w a from n h wide = absurd cc

pub nulls_taken : (c : Column) (a : Array) (from n : ℕ) → is_nullable_column c ≡ true → any_slot is_forbidden c a from n ≡ false
nulls_taken c a from n h = ap (λ (b : Bool). list_any (λ i. not b && is_null (cell_at c a i)) (range_with_len from n)) h ∙ any_never (λ i. false) from n (λ i. refl)

pub nulls_tested : (c : Column) (a : Array) (from n : ℕ) → is_nullable_column c ≡ false → index_of_column c ≡ None
    → any_slot is_forbidden c a from n ≡ list_any (λ i. is_null (unless_null (kind_cell (kind_of_column c)) a i)) (range_with_len from n)
unfolding cell_at
nulls_tested (column name nullable kind None pairs) a from n h none = ap (λ (b : Bool). list_any (λ i. not b && is_null (unless_null (kind_cell kind) a i)) (range_with_len from n)) h
nulls_tested (column name nullable kind (Some index) pairs) a from n h none = absurd cc

pub entry_nulls_tested : (c : Column) (index : Index) (a : Array) (from n : ℕ) → is_nullable_column c ≡ false → index_of_column c ≡ Some index
    → any_slot is_forbidden c a from n ≡ list_any (λ i. is_null (unless_null (indexed_cell index (kind_of_column c)) a i)) (range_with_len from n)
unfolding cell_at
entry_nulls_tested (column name nullable kind None pairs) index a from n h some = absurd cc
entry_nulls_tested (column name nullable kind (Some other) pairs) index a from n h some =
    let e : other ≡ index = cc in
    ap (λ (b : Bool). list_any (λ i. not b && is_null (unless_null (indexed_cell other kind) a i)) (range_with_len from n)) h
    ∙ ap (λ (x : Index). list_any (λ i. is_null (unless_null (indexed_cell x kind) a i)) (range_with_len from n)) e

-- ---- what soundness gives them

pub sound_slots : (c : Column) (a : Array) → is_sound c a ≡ true → has_short_validity a ≡ false
unfolding is_sound
sound_slots (column name nullable kind None pairs) a h = not-true _ (and_parts (not (has_short_validity a)) _ h).0
sound_slots (column name nullable kind (Some index) pairs) a h = not-true _ (and_parts (not (has_short_validity a)) _ h).0
