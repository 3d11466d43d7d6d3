-- Where the dictionaries' texts are UTF-8, the columns without one tell whether all are.
use Rattle.std.specs.Prelude.{◌||◌, ℤ, pos, negsuc, if◌then◌else◌}
use Rattle.std.specs.List.{list_any, flat_map, range_with_len}
use Rattle.std.proofs.Common.{◌≡◌, ℕ, zero, suc, ◌*◌, Bool, true, false, List, [], ◌∷◌, ◌++◌, get_or, Some, None, refl, sym, ap, ◌∙◌}
use Rattle.std.proofs.lemmas.Bool.{or_parts}
use Rattle.std.proofs.lemmas.List.Folds.{list_any-append}
use Rattle.arrays.proofs.VisibleSlots.{if_other}
use Rattle.arrow_schema.specs.Column.{Kind, Column, Columns, lists, large_lists, fixed_lists, structs, column, no_column, and_column}
use Rattle.cells.specs.Cell.{Cell, null}
use Rattle.columns.specs.Array.{Array, Arrays, items_in, children_in, dictionary_in, first_array, other_arrays}
use Rattle.columns.specs.CellAt.{is_valid, cell_at, entry_at, entries_of_kind, index_at, span_start, span_size}
use Rattle.columns.specs.Tests.{Typed, arrays_at, arrays_below, every_array}
use Rattle.columns.specs.Visible.{Slot, slot, visible, visible_below, visible_parts, visible_in, is_bad_text, is_no_text}
use Rattle.arrays.specs.Entries.{has_bad_entries, has_bad_entry}
use Rattle.arrays.specs.inner.VisibleSpans.{is_no_plain_text}

-- ---- an entry

got_clean : (entries : List Cell) (n : ℕ) → list_any is_bad_text entries ≡ false → is_bad_text (get_or entries n null) ≡ false
got_clean [] n h = refl
got_clean (x ∷ xs) zero h = (or_parts (is_bad_text x) (list_any is_bad_text xs) h).0
got_clean (x ∷ xs) (suc n) h = got_clean xs n (or_parts (is_bad_text x) (list_any is_bad_text xs) h).1

entry_clean : (entries : List Cell) (z : ℤ) → list_any is_bad_text entries ≡ false → is_bad_text (entry_at entries z) ≡ false
entry_clean entries (pos n) h = got_clean entries n h
entry_clean entries (negsuc n) h = refl

-- ---- lists of slots

abbrev Alike : List Slot → Type 0
Alike slots = list_any is_no_text slots ≡ list_any is_no_plain_text slots

both_alike : (xs ys : List Slot) → Alike xs → Alike ys → Alike (xs ++ ys)
both_alike xs ys h k = list_any-append is_no_text xs ys ∙ (λ j. h j || k j) ∙ sym (list_any-append is_no_plain_text xs ys)

each_alike : (g : ℕ → List Slot) → ((i : ℕ) → Alike (g i)) → (xs : List ℕ) → Alike (flat_map g xs)
each_alike g h [] = refl
each_alike g h (x ∷ xs) = both_alike (g x) (flat_map g xs) (h x) (each_alike g h xs)

if_alike : (b : Bool) (xs : List Slot) → Alike xs → Alike (if b then xs else [])
if_alike true xs h = h
if_alike false xs h = refl

front_clean : (xs ys : List Typed) → list_any has_bad_entry (xs ++ ys) ≡ false → (list_any has_bad_entry xs ≡ false) × (list_any has_bad_entry ys ≡ false)
front_clean xs ys h = or_parts (list_any has_bad_entry xs) (list_any has_bad_entry ys) (sym (list_any-append has_bad_entry xs ys) ∙ h)

mutual
  unfolding visible visible_below visible_parts arrays_at arrays_below every_array cell_at

  alike_at : (c : Column) (a : Array) (i : ℕ) → list_any has_bad_entry (arrays_at c a) ≡ false → Alike (visible c a i)
  alike_at (column name nullable kind (Some index) pairs) a i h =
      let c : Column = column name nullable kind (Some index) pairs in
      let entries : List Cell = entries_of_kind kind (dictionary_in a) in
      let clean : list_any is_bad_text entries ≡ false = (or_parts (has_bad_entries c a) false h).0 in
      let own : is_no_text (slot c a i) ≡ false = if_other (is_valid a i) (entry_at entries (index_at index a i)) (entry_clean entries (index_at index a i) clean) in
      rw own refl
  alike_at (column name nullable kind None pairs) a i h =
      let c : Column = column name nullable kind None pairs in
      ap (λ (b : Bool). is_no_text (slot c a i) || b) (if_alike (is_valid a i) (visible_below kind a i) (alike_below kind a i h))

  alike_below : (k : Kind) (a : Array) (i : ℕ) → list_any has_bad_entry (arrays_below k a) ≡ false → Alike (visible_below k a i)
  alike_below (lists item) a i h = each_alike (visible item (items_in a)) (λ k. alike_at item (items_in a) k h) (range_with_len (span_start 4 a i) (span_size 4 a i))
  alike_below (large_lists item) a i h = each_alike (visible item (items_in a)) (λ k. alike_at item (items_in a) k h) (range_with_len (span_start 8 a i) (span_size 8 a i))
  alike_below (fixed_lists size item) a i h = each_alike (visible item (items_in a)) (λ k. alike_at item (items_in a) k h) (range_with_len (i * size) size)
  alike_below (structs columns) a i h = alike_parts columns (children_in a) i h
  alike_below _ a i h = refl

  alike_parts : (cs : Columns) (arrays : Arrays) (i : ℕ) → list_any has_bad_entry (every_array cs arrays) ≡ false → Alike (visible_parts cs arrays i)
  alike_parts no_column arrays i h = refl
  alike_parts (and_column c cs) arrays i h =
      let parts = front_clean (arrays_at c (first_array arrays)) (every_array cs (other_arrays arrays)) h in
      both_alike (visible c (first_array arrays) i) (visible_parts cs (other_arrays arrays) i) (alike_at c (first_array arrays) i parts.0) (alike_parts cs (other_arrays arrays) i parts.1)

pub plain_texts_tell : (cs : Columns) (arrays : Arrays) (rows : ℕ) → list_any has_bad_entry (every_array cs arrays) ≡ false → list_any is_no_text (visible_in cs arrays rows) ≡ list_any is_no_plain_text (visible_in cs arrays rows)
unfolding visible_in every_array
plain_texts_tell no_column arrays rows h = refl
plain_texts_tell (and_column c cs) arrays rows h =
    let parts = front_clean (arrays_at c (first_array arrays)) (every_array cs (other_arrays arrays)) h in
    both_alike (flat_map (visible c (first_array arrays)) (range_with_len 0 rows)) (visible_in cs (other_arrays arrays) rows)
    (each_alike (visible c (first_array arrays)) (λ i. alike_at c (first_array arrays) i parts.0) (range_with_len 0 rows))
    (plain_texts_tell cs (other_arrays arrays) rows parts.1)
