-- The tests for nulls are what conditions ask of columns whose nulls stand in their validity bitmaps.
use Rattle.std.proofs.Common.{◌≡◌, ℕ, zero, suc, ◌+◌, ◌≤◌, ◌<◌, Bool, true, false, List, ◌∷◌, length, map, refl, ap, ◌∙◌, arith}
use Rattle.std.specs.Prelude.{not, ◌==◌, ◌||◌, None, string_bytes, replicate, if◌then◌else◌}
use Rattle.std.specs.List.{range_with_len}
use Rattle.std.proofs.lemmas.Bool.{and_from, ne_eqb}
use Rattle.arrow_schema.specs.Column.{Kind, Column, nulls, booleans, integers, dates, timestamps, texts, large_texts, binaries, large_binaries, fixed_binaries, lists, large_lists, fixed_lists, structs, column}
use Rattle.arrow_schema.specs.Parts.{is_nulls}
use Rattle.arrow_schema.specs.View.{column_of, kind_of, pair_of}
use Rattle.arrow_schema.specs.declared.types.Field.{Field}
use Rattle.arrow_schema.specs.laws.Parts.{field_parts}
use Rattle.bitmap.specs.Bits.{bit}
use Rattle.cells.specs.Cell.{null}
use Rattle.cells.specs.Nulls.{is_null}
use Rattle.columns.specs.Array.{Array}
use Rattle.columns.specs.CellAt.{cell_at, kind_cell, is_valid}
use Rattle.columns.specs.Sound.{is_sound}
use Rattle.columns.specs.laws.SoundParts.{sound_validity}
use Rattle.query.specs.declared.null_slots.NullTest.{NullTest}
use Rattle.query.specs.declared.slot_test.SlotTest.TheVariants.{Nulls}
use Rattle.query.specs.Bound.{Bound, Predicate, asks_null, asks_value, meets}
use Rattle.query.specs.inner.Nulls.{HasNullsAlone, IsNullTest, null_holds_in, null_holds_at}
use Rattle.query.specs.inner.SlotTests.{IsSlotTest}

-- ---- columns

no_nulls : (kind : Kind) → is_nulls kind ≡ false → (a : Array) (i : ℕ) → is_null (kind_cell kind a i) ≡ false
unfolding kind_cell
no_nulls nulls e a i = absurd cc
no_nulls booleans e a i = refl
no_nulls (integers bits signed) e a i = refl
no_nulls (dates unit) e a i = refl
no_nulls (timestamps unit timezone) e a i = refl
no_nulls texts e a i = refl
no_nulls large_texts e a i = refl
no_nulls binaries e a i = refl
no_nulls large_binaries e a i = refl
no_nulls (fixed_binaries width) e a i = refl
no_nulls (lists item) e a i = refl
no_nulls (large_lists item) e a i = refl
no_nulls (fixed_lists size item) e a i = refl
no_nulls (structs columns) e a i = refl

slot_null : (kind : Kind) (a : Array) (i : ℕ) → is_nulls kind ≡ false → is_null (if is_valid a i then kind_cell kind a i else null) ≡ not (is_valid a i)
slot_null kind a i e = by (is_valid a i)
  where
    by : (b : Bool) → is_null (if b then kind_cell kind a i else null) ≡ not b
    by true = no_nulls kind e a i
    by false = refl

kind_is : (name : List ℕ) (nullable : Bool) (kind : Kind) (p : _) → is_nulls kind ≡ false → HasNullsAlone (column name nullable kind None p)
unfolding cell_at is_sound
kind_is name nullable kind p e = record {
  cells = λ a i. slot_null kind a i e;
  validity = λ a s. sound_validity kind a s;
}

pub field_nulls : (f : Field) → f.dictionary ≡ None → is_nulls (kind_of f.data_type) ≡ false → HasNullsAlone (column_of f)
field_nulls f none e = rw (field_parts f, none) (kind_is (string_bytes f.name) f.nullable (kind_of f.data_type) (map pair_of f.pairs.items) e)

-- ---- the test

asked : (d : Predicate) (t : NullTest) (c : Column) (a : Array) (i : ℕ) → HasNullsAlone c → d ≡ (if t.valid then asks_value else asks_null) → meets d (cell_at c a i) ≡ null_holds_at t a i
asked d t c a i is e = ap (λ (x : Predicate). meets x (cell_at c a i)) e ∙ by t.valid
  where
    when : (v b : Bool) → (if v then not (not b) else not b) ≡ (if b then v else not v)
    when true true = refl
    when true false = refl
    when false true = refl
    when false false = refl

    by : (v : Bool) → meets (if v then asks_value else asks_null) (cell_at c a i) ≡ (if is_valid a i then v else not v)
    by true = ap not (is.cells a i) ∙ when true (is_valid a i)
    by false = is.cells a i ∙ when false (is_valid a i)

pub null_test : (cs : List Column) (b : Bound) (t : NullTest) → IsNullTest cs b t → IsSlotTest cs b (Nulls t)
null_test cs b t is = record {
  column = is.column;
  found = is.found;
  place = is.place;
  answers = λ a i. asked b.predicate t is.column a i is.nulls is.predicate;
  there = λ a rows within sound. and_from _ _ within (ap not (is.nulls.validity a sound));
}

-- ---- runs

-- slots that are answered alike
pub alike : (f : ℕ → Bool) (first n : ℕ) (answer : Bool) → ((i : ℕ) → first ≤ i → i < first + n → f i ≡ answer) → replicate n answer ≡ map f (range_with_len first n)
alike f first zero answer each = refl
alike f first (suc n) answer each =
    let here : f first ≡ answer = each first (omega arith) (omega arith) in
    rw here (ap (λ (bs : List Bool). answer ∷ bs) (alike f (first + 1) n answer (λ i from below. each i (omega arith) (omega arith))))

-- of a bitmap that is not empty
pub answer_of_bit : (t : NullTest) (validity : List ℕ) (i : ℕ) (set : Bool) → 0 < length validity → bit validity i ≡ set → null_holds_in t validity i ≡ (if set then t.valid else not t.valid)
answer_of_bit t validity i set some e =
    let filled : (length validity == 0) ≡ false = ne_eqb _ _ (λ z. omega arith) in
    ap (λ (b : Bool). if b || bit validity i then t.valid else not t.valid) filled ∙ ap (λ (b : Bool). if b then t.valid else not t.valid) e

pub answer_of_none : (t : NullTest) (validity : List ℕ) (i : ℕ) → length validity ≡ 0 → null_holds_in t validity i ≡ t.valid
answer_of_none t validity i none = ap (λ (n : ℕ). if (n == 0) || bit validity i then t.valid else not t.valid) none
