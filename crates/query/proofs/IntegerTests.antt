-- Comparisons with integers are what conditions ask of columns of integers.
use Rattle.std.proofs.Common.{◌≡◌, ℕ, Bool, true, false, List, map, refl, sym, ap, ◌∙◌}
use Rattle.std.specs.Prelude.{not, ◌&&◌, Option, Some, None, string_bytes, IfSome, if◌then◌else◌}
use Rattle.std.specs.Ordering.{int_cmp}
use Rattle.std.proofs.lemmas.Bool.{and_from}
use Rattle.arrow_schema.specs.Column.{Kind, Column, column}
use Rattle.arrow_schema.specs.View.{column_of, kind_of, pair_of}
use Rattle.arrow_schema.specs.declared.types.Field.{Field}
use Rattle.arrow_schema.specs.declared.types.IntegerType.{IntegerType}
use Rattle.arrow_schema.specs.laws.Parts.{field_parts}
use Rattle.cells.specs.Cell.{Cell, null, number}
use Rattle.columns.specs.Array.{Array, values_in}
use Rattle.columns.specs.CellAt.{cell_at, is_valid, integer_at, unless_null}
use Rattle.columns.specs.Sound.{is_sound}
use Rattle.columns.specs.laws.SoundParts.{sound_validity, sound_buffer}
use Rattle.query.specs.declared.integer_slots.IntegerComparison.{IntegerComparison}
use Rattle.query.specs.declared.slot_test.SlotTest.TheVariants.{Integers}
use Rattle.query.specs.Bound.{Bound, Predicate, compares, accepts, meets}
use Rattle.query.specs.inner.Slots.{width_of, integer_cell, IsIntegerKind, IsIntegerColumn, IsIntegerComparison, integer_holds_at}
use Rattle.query.specs.inner.SlotTests.{IsSlotTest}

kind_is : (name : List ℕ) (nullable : Bool) (kind : Kind) (p : _) (t : IntegerType) → IsIntegerKind kind t → IsIntegerColumn (column name nullable kind None p) t
unfolding cell_at is_sound
kind_is name nullable kind p t is = record {
  cells = λ a i. ap (λ (x : Cell). if is_valid a i then x else null) (is.cells a i);
  validity = λ a s. sound_validity kind a s;
  values = λ a s. sym (is.buffer a) ∙ sound_buffer kind a s;
}

field_integers : (f : Field) (t : IntegerType) → f.dictionary ≡ None → IsIntegerKind (kind_of f.data_type) t → IsIntegerColumn (column_of f) t
field_integers f t e is = rw (field_parts f, e) (kind_is (string_bytes f.name) f.nullable (kind_of f.data_type) (map pair_of f.pairs.items) t is)

pub some_integers : (f : Field) (o : Option IntegerType) → f.dictionary ≡ None → IfSome o (λ t. IsIntegerKind (kind_of f.data_type) t) → IfSome o (λ t. IsIntegerColumn (column_of f) t)
some_integers f None e h = tt
some_integers f (Some t) e h = field_integers f t e h

slot_holds : (d : Predicate) (c : IntegerComparison) (a : Array) (i : ℕ) → d ≡ compares c.operator (number c.literal)
    → meets d (unless_null (integer_cell c.integer) a i) ≡ integer_holds_at c a i
slot_holds d c a i e = rw e (by (is_valid a i))
  where
    by : (b : Bool) → meets (compares c.operator (number c.literal)) (if b then integer_cell c.integer a i else null)
        ≡ (b && accepts c.operator (int_cmp (integer_at (width_of c.integer) c.integer.signed (values_in a) i) c.literal))
    by true = refl
    by false = refl

pub integers_test : (cs : List Column) (b : Bound) (c : IntegerComparison) → IsIntegerComparison cs b c → IsSlotTest cs b (Integers c)
integers_test cs b c is = record {
  column = is.column;
  found = is.found;
  place = is.place;
  answers = λ a i. ap (meets b.predicate) (is.integers.cells a i) ∙ slot_holds b.predicate c a i is.predicate;
  there = λ a rows within sound. and_from _ _ within (and_from _ _ (ap not (is.integers.validity a sound)) (ap not (is.integers.values a sound)));
}
