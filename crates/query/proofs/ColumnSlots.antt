-- The columns of a batch, one after another.
use Rattle.std.proofs.Common.{◌≡◌, ℕ, suc, ◌+◌, List, [], ◌∷◌, ◌++◌, map, length, drop, refl, sym, ap, subst, ◌∙◌, arith}
use Rattle.std.specs.Prelude.{◌&&◌, nat_le}
use Rattle.std.specs.List.{AllByRecursion}
use Rattle.arrow_schema.specs.Column.{columns_of}
use Rattle.arrow_schema.specs.View.{column_of}
use Rattle.arrow_schema.specs.declared.types.Field.{Field}
use Rattle.cells.specs.Cell.{and_cell}
use Rattle.columns.specs.Array.{Arrays, slots_in, other_arrays}
use Rattle.columns.specs.CellAt.{cell_at, part_cells}
use Rattle.columns.specs.Sound.{is_sound, are_sound}
use Rattle.columns.specs.View.{fields_of, placed_arrays}
use Rattle.columns.specs.laws.Rows.{other_placed}
use Rattle.civil_days.specs.declared.date_form.DateForm.{DateForm}
use Rattle.query.specs.declared.batch_arrays.BatchArrays.{BatchArrays}
use Rattle.query.specs.declared.column_slots.ColumnSlots.{ColumnSlots}
use Rattle.query.specs.inner.ColumnSlots.{array_at, IsColumn, AreColumns, slot_columns, slot_arrays, slot_cells, HasBuffers}

-- of one field more
pub column_more : (form : DateForm) (b : BatchArrays) (place : ℕ) (fs : List Field) (ss : List ColumnSlots) (f : Field) (s : ColumnSlots) → AreColumns form b place fs ss
    → IsColumn form f (array_at (place + length fs) b) s → AreColumns form b place (fs ++ f ∷ []) (ss ++ s ∷ [])
column_more form b place [] [] f s h is = (subst (λ n. IsColumn form f (array_at n b) s) (omega arith) is, tt)
column_more form b place [] (t ∷ ss) f s h is = absurd h
column_more form b place (g ∷ fs) [] f s h is = absurd h
column_more form b place (g ∷ fs) (t ∷ ss) f s h is = (h.0, column_more form b (suc place) fs ss f s h.1 (subst (λ n. IsColumn form f (array_at n b) s) (omega arith) is))

-- ---- what they have is what the arrays of the batch have, from the place on

pub buffers_all : (form : DateForm) (b : BatchArrays) (place : ℕ) (fs : List Field) (ss : List ColumnSlots) → AreColumns form b place fs ss → AllByRecursion (HasBuffers form) ss
buffers_all form b place [] [] h = tt
buffers_all form b place [] (s ∷ ss) h = absurd h
buffers_all form b place (f ∷ fs) [] h = absurd h
buffers_all form b place (f ∷ fs) (s ∷ ss) h = (h.0.buffers, buffers_all form b (suc place) fs ss h.1)

pub columns_are : (form : DateForm) (b : BatchArrays) (place : ℕ) (fs : List Field) (ss : List ColumnSlots) → AreColumns form b place fs ss → slot_columns ss ≡ map column_of fs
columns_are form b place [] [] h = refl
columns_are form b place [] (s ∷ ss) h = absurd h
columns_are form b place (f ∷ fs) [] h = absurd h
columns_are form b place (f ∷ fs) (s ∷ ss) h = (λ i. h.0.column i ∷ columns_are form b (suc place) fs ss h.1 i)

abbrev arrays_from : ℕ → BatchArrays → Arrays
arrays_from place b = placed_arrays b.bytes.now b.dictionaries.now (drop place b.arrays.now)

arrays_next : (b : BatchArrays) (place : ℕ) → other_arrays (arrays_from place b) ≡ arrays_from (suc place) b
arrays_next b place =
    let e : place + 1 ≡ suc place = omega arith in
    other_placed b.bytes.now b.dictionaries.now b.arrays.now place ∙ ap (λ (k : ℕ). arrays_from k b) e

pub cells_are : (form : DateForm) (b : BatchArrays) (place : ℕ) (fs : List Field) (ss : List ColumnSlots) (slot : ℕ) → AreColumns form b place fs ss
    → slot_cells ss slot ≡ part_cells (fields_of fs) (arrays_from place b) slot
unfolding part_cells
cells_are form b place [] [] slot h = refl
cells_are form b place [] (s ∷ ss) slot h = absurd h
cells_are form b place (f ∷ fs) [] slot h = absurd h
cells_are form b place (f ∷ fs) (s ∷ ss) slot h =
    let others : slot_cells ss slot ≡ part_cells (fields_of fs) (other_arrays (arrays_from place b)) slot =
    cells_are form b (suc place) fs ss slot h.1 ∙ ap (λ (arrays : Arrays). part_cells (fields_of fs) arrays slot) (sym (arrays_next b place)) in
    (λ i. and_cell (cell_at (h.0.column i) (h.0.array i) slot) (others i))

pub sound_are : (form : DateForm) (b : BatchArrays) (place : ℕ) (fs : List Field) (ss : List ColumnSlots) (slots : ℕ) → AreColumns form b place fs ss
    → are_sound (columns_of (slot_columns ss)) slots (slot_arrays ss) ≡ are_sound (fields_of fs) slots (arrays_from place b)
unfolding are_sound
sound_are form b place [] [] slots h = refl
sound_are form b place [] (s ∷ ss) slots h = absurd h
sound_are form b place (f ∷ fs) [] slots h = absurd h
sound_are form b place (f ∷ fs) (s ∷ ss) slots h =
    let others : are_sound (columns_of (slot_columns ss)) slots (slot_arrays ss) ≡ are_sound (fields_of fs) slots (other_arrays (arrays_from place b)) =
    sound_are form b (suc place) fs ss slots h.1 ∙ ap (λ (arrays : Arrays). are_sound (fields_of fs) slots arrays) (sym (arrays_next b place)) in
    (λ i. nat_le slots (slots_in (h.0.array i)) && (is_sound (h.0.column i) (h.0.array i) && others i))
