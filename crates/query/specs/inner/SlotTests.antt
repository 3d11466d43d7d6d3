-- Tests of the slots of a column, slot by slot of the arrays of record batches.
use Rattle.std.specs.Prelude.{◌≡◌, ℕ, ◌/◌, Bool, true, nat_le, List, map, slice_get, Some}
use Rattle.std.specs.List.{flat_map, list_all, range_with_len}
use Rattle.arrow_schema.specs.Column.{Column}
use Rattle.arrow_schema.specs.View.{bits_of}
use Rattle.columns.specs.Array.{Array, slots_in}
use Rattle.columns.specs.CellAt.{cell_at}
use Rattle.columns.specs.Sound.{is_sound}
use Rattle.values.specs.declared.table_part.Batch.{Batch}
use Rattle.values.specs.declared.table_part.TablePart.{TablePart}
use Rattle.query.specs.declared.slot_test.SlotTest.{SlotTest}
use Rattle.query.specs.declared.slot_test.SlotTest.TheVariants.{Integers, Contents, Nulls}
use Rattle.query.specs.Bound.{Bound, meets}
use Rattle.query.specs.inner.Contents.{contents_hold_at, has_contents}
use Rattle.query.specs.inner.Nulls.{null_holds_at, has_validity}
use Rattle.query.specs.inner.Slots.{array_of, integer_holds_at, has_integers}

abbrev pub place_in : SlotTest → ℕ
place_in (Integers comparison) = comparison.place
place_in (Contents comparison) = comparison.place
place_in (Nulls test) = test.place

-- the answer for a slot
abbrev pub holds_at : SlotTest → Array → ℕ → Bool
holds_at (Integers comparison) a i = integer_holds_at comparison a i
holds_at (Contents comparison) a i = contents_hold_at comparison a i
holds_at (Nulls test) a i = null_holds_at test a i

-- the array has the bytes of n slots
abbrev pub has_slots : SlotTest → ℕ → Array → Bool
has_slots (Integers comparison) rows a = has_integers comparison.integer rows a
has_slots (Contents comparison) rows a = has_contents (bits_of comparison.width / 8) rows a
has_slots (Nulls test) rows a = has_validity rows a

-- the test is what a condition asks of its column
pub record IsSlotTest (columns : List Column) (b : Bound) (t : SlotTest) : Type 0 where
  pub column : Column
  pub found : slice_get columns b.place ≡ Some column
  pub place : place_in t ≡ b.place
  pub answers : (a : Array) (i : ℕ) → meets b.predicate (cell_at column a i) ≡ holds_at t a i
  pub there : (a : Array) (rows : ℕ) → nat_le rows (slots_in a) ≡ true → is_sound column a ≡ true → has_slots t rows a ≡ true

abbrev pub batch_flags : SlotTest → TablePart → Batch → List Bool
batch_flags t p b = map (holds_at t (array_of (place_in t) p b)) (range_with_len 0 b.rows)

abbrev pub part_flags : SlotTest → TablePart → List Bool
part_flags t p = flat_map (batch_flags t p) p.batches.items

abbrev pub parts_flags : SlotTest → List TablePart → List Bool
parts_flags t parts = flat_map (part_flags t) parts

abbrev pub batch_has_slots : SlotTest → TablePart → Batch → Bool
batch_has_slots t p b = has_slots t b.rows (array_of (place_in t) p b)

abbrev pub part_has_slots : SlotTest → TablePart → Bool
part_has_slots t p = list_all (batch_has_slots t p) p.batches.items
