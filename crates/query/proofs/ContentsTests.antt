-- Comparisons with strings and binaries are what conditions ask of their columns.
use Rattle.std.proofs.Common.{◌≡◌, ℕ, ◌/◌, Bool, true, false, List, map, refl, sym, ap, ◌∙◌}
use Rattle.std.specs.Prelude.{not, ◌&&◌, Option, Some, None, string_bytes, IfSome, if◌then◌else◌}
use Rattle.std.specs.Cmp.Lexicographic.{slice_cmp}
use Rattle.std.specs.Ordering.{nat_cmp, is_some_and}
use Rattle.std.proofs.lemmas.Bool.{and_from}
use Rattle.arrow_schema.specs.Column.{Kind, Column, column, texts, large_texts, binaries, large_binaries}
use Rattle.arrow_schema.specs.View.{column_of, kind_of, pair_of, bits_of}
use Rattle.arrow_schema.specs.declared.types.BitWidth.{BitWidth}
use Rattle.arrow_schema.specs.declared.types.BitWidth.TheVariants.{ThirtyTwo, SixtyFour}
use Rattle.arrow_schema.specs.declared.types.Field.{Field}
use Rattle.arrow_schema.specs.laws.Parts.{field_parts}
use Rattle.cells.specs.Cell.{Cell, null, text, bytes}
use Rattle.columns.specs.Array.{Array}
use Rattle.columns.specs.CellAt.{cell_at, kind_cell, is_valid, contents_at}
use Rattle.columns.specs.Sound.{is_sound}
use Rattle.columns.specs.laws.SoundParts.{sound_validity, sound_buffer}
use Rattle.query.specs.declared.contents_slots.ContentsComparison.{ContentsComparison}
use Rattle.query.specs.declared.contents_slots.ContentsLiteral.{ContentsLiteral}
use Rattle.query.specs.declared.operator.Operator.{Operator}
use Rattle.query.specs.declared.slot_test.SlotTest.TheVariants.{Contents}
use Rattle.query.specs.Bound.{Bound, Predicate, compares, accepts, meets}
use Rattle.query.specs.inner.Contents.{IsContentsKind, IsContentsColumn, IsContentsComparison}
use Rattle.query.specs.inner.SlotTests.{IsSlotTest}

-- ---- the types

pub text_kind : (kind : Kind) (literal : Cell) (own t : List ℕ) → kind ≡ texts → literal ≡ text t → own ≡ t → IsContentsKind kind ThirtyTwo literal own
unfolding kind_cell
text_kind kind literal own t kind_is literal_is same = rw (kind_is, literal_is, same) (record { ordered = λ a i. refl; buffer = λ a. refl })

pub large_text_kind : (kind : Kind) (literal : Cell) (own t : List ℕ) → kind ≡ large_texts → literal ≡ text t → own ≡ t → IsContentsKind kind SixtyFour literal own
unfolding kind_cell
large_text_kind kind literal own t kind_is literal_is same = rw (kind_is, literal_is, same) (record { ordered = λ a i. refl; buffer = λ a. refl })

pub binary_kind : (kind : Kind) (literal : Cell) (own t : List ℕ) → kind ≡ binaries → literal ≡ bytes t → own ≡ t → IsContentsKind kind ThirtyTwo literal own
unfolding kind_cell
binary_kind kind literal own t kind_is literal_is same = rw (kind_is, literal_is, same) (record { ordered = λ a i. refl; buffer = λ a. refl })

pub large_binary_kind : (kind : Kind) (literal : Cell) (own t : List ℕ) → kind ≡ large_binaries → literal ≡ bytes t → own ≡ t → IsContentsKind kind SixtyFour literal own
unfolding kind_cell
large_binary_kind kind literal own t kind_is literal_is same = rw (kind_is, literal_is, same) (record { ordered = λ a i. refl; buffer = λ a. refl })

-- ---- their columns

slot_answer : (o : Operator) (kind : Kind) (width : BitWidth) (literal : Cell) (t : List ℕ) (a : Array) (i : ℕ) → IsContentsKind kind width literal t
    → meets (compares o literal) (if is_valid a i then kind_cell kind a i else null) ≡ (is_valid a i && accepts o (slice_cmp nat_cmp (contents_at (bits_of width / 8) a i) t))
slot_answer o kind width literal t a i is = by (is_valid a i)
  where
    by : (b : Bool) → meets (compares o literal) (if b then kind_cell kind a i else null) ≡ (b && accepts o (slice_cmp nat_cmp (contents_at (bits_of width / 8) a i) t))
    by true = ap (is_some_and (accepts o)) (is.ordered a i)
    by false = refl

kind_is : (name : List ℕ) (nullable : Bool) (kind : Kind) (p : _) (width : BitWidth) (literal : Cell) (t : List ℕ) → IsContentsKind kind width literal t
    → IsContentsColumn (column name nullable kind None p) width literal t
unfolding cell_at is_sound
kind_is name nullable kind p width literal t is = record {
  answers = λ o a i. slot_answer o kind width literal t a i is;
  validity = λ a s. sound_validity kind a s;
  offsets = λ a s. sym (is.buffer a) ∙ sound_buffer kind a s;
}

field_contents : (f : Field) (width : BitWidth) (literal : Cell) (t : List ℕ) → f.dictionary ≡ None → IsContentsKind (kind_of f.data_type) width literal t
    → IsContentsColumn (column_of f) width literal t
field_contents f width literal t e is =
    rw (field_parts f, e) (kind_is (string_bytes f.name) f.nullable (kind_of f.data_type) (map pair_of f.pairs.items) width literal t is)

pub some_contents : (f : Field) (literal : Cell) (o : Option ContentsLiteral) → f.dictionary ≡ None
    → IfSome o (λ l. IsContentsKind (kind_of f.data_type) l.width literal l.bytes.now) → IfSome o (λ l. IsContentsColumn (column_of f) l.width literal l.bytes.now)
some_contents f literal None e h = tt
some_contents f literal (Some l) e h = field_contents f l.width literal l.bytes.now e h

pub contents_test : (cs : List Column) (b : Bound) (c : ContentsComparison) → IsContentsComparison cs b c → IsSlotTest cs b (Contents c)
contents_test cs b c is = record {
  column = is.column;
  found = is.found;
  place = is.place;
  answers = λ a i. ap (λ (d : Predicate). meets d (cell_at is.column a i)) is.predicate ∙ is.contents.answers c.operator a i;
  there = λ a rows within sound. and_from _ _ within (and_from _ _ (ap not (is.contents.validity a sound)) (ap not (is.contents.offsets a sound)));
}
