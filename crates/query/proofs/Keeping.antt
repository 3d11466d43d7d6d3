-- The rows that a mask keeps: those of which a test holds.
use Rattle.std.proofs.Common.{◌≡◌, ℕ, suc, ◌+◌, ◌*◌, ◌≤◌, ◌<◌, Bool, true, false, cond, List, [], ◌∷◌, map, length, get_or, refl, ap, ◌∙◌, arith}
use Rattle.std.specs.Prelude.{Some, filter, slice_get, option_map, if◌then◌else◌}
use Rattle.std.proofs.lemmas.List.{length-map}
use Rattle.std.proofs.lemmas.Option.{slice_get-map, get_or_from_slice_get, slice_get-get_or}
use Rattle.bitmap.specs.Bits.{bit}
use Rattle.cells.specs.Cell.{Cell}
use Rattle.query.specs.Choice.{rows_set}
use Rattle.query.specs.inner.Masks.{IsMask}

-- the bit of a row
bit_of_row : (mask : List ℕ) (p : List Cell → Bool) (rows : List (List Cell)) (i : ℕ) → IsMask mask (map p rows) → i < length rows → bit mask i ≡ p (get_or rows i [])
bit_of_row mask p rows i is h =
    let there : slice_get (map p rows) i ≡ Some (p (get_or rows i [])) = slice_get-map p rows i ∙ ap (option_map p) (slice_get-get_or rows i [] h) in
    is.each i ∙ get_or_from_slice_get (map p rows) i (p (get_or rows i [])) false there

set_are : (mask : List ℕ) (p : List Cell → Bool) (g : List Cell → List Cell) (from : ℕ) (rows : List (List Cell)) → ((i : ℕ) → i < length rows → bit mask (from + i) ≡ p (get_or rows i []))
    → rows_set mask from (map g rows) ≡ map g (filter p rows)
set_are mask p g from [] each = refl
set_are mask p g from (row ∷ rows) each =
    let e : from ≡ from + 0 = omega arith in
    let here : bit mask from ≡ p row = ap (bit mask) e ∙ each 0 (omega arith) in
    let rest : rows_set mask (from + 1) (map g rows) ≡ map g (filter p rows) =
    set_are mask p g (from + 1) rows (λ i h. let f : from + 1 + i ≡ from + suc i = omega arith in ap (bit mask) f ∙ each (suc i) (omega (arith, h))) in
    ap (λ (b : Bool). if b then g row ∷ rows_set mask (from + 1) (map g rows) else rows_set mask (from + 1) (map g rows)) here ∙ by (p row) rest
  where
    by : (b : Bool) → rows_set mask (from + 1) (map g rows) ≡ map g (filter p rows)
        → (if b then g row ∷ rows_set mask (from + 1) (map g rows) else rows_set mask (from + 1) (map g rows)) ≡ map g (cond b (row ∷ filter p rows) (filter p rows))
    by true h = ap (λ (rs : List (List Cell)). g row ∷ rs) h
    by false h = h

-- what the mask of a test keeps
pub set_rows_are : (mask : List ℕ) (p : List Cell → Bool) (g : List Cell → List Cell) (rows : List (List Cell)) → IsMask mask (map p rows) → rows_set mask 0 (map g rows) ≡ map g (filter p rows)
set_rows_are mask p g rows is = set_are mask p g 0 rows (λ i h. let e : 0 + i ≡ i = omega arith in ap (bit mask) e ∙ bit_of_row mask p rows i is h)

-- the mask has a bit for each row
pub mask_long : (mask : List ℕ) (p : List Cell → Bool) (rows : List (List Cell)) → IsMask mask (map p rows) → length rows ≤ 8 * length mask
mask_long mask p rows is = omega (arith, is.size, length-map rows p)
