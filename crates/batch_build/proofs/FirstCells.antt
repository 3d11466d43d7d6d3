-- The cell at a place of a row, and the part of a struct.
use Rattle.std.specs.Prelude.{Some, None, option_map, slice_get, get_or, unwrap_or}
use Rattle.std.proofs.Common.{◌≡◌, ℕ, zero, suc, ◌<◌, ◌≤◌, List, [], ◌∷◌, ◌++◌, length, map, drop, refl, ap, sym, ◌∙◌, arith}
use Rattle.std.proofs.lemmas.List.{length-map, map-append}
use Rattle.std.proofs.lemmas.Option.{unwrap_or-slice_get, get_or_from_slice_get, slice_get-map, slice_get_past, slice_get_read}
use Rattle.cells.specs.Cell.{Cell, null}
use Rattle.cells.specs.View.{cell}
use Rattle.cells.specs.declared.value.Value.{Value}
use Rattle.columns.specs.Built.{first_cell}
use Rattle.columns.specs.Borrowed.{borrowed_cell}
use Rattle.columns.specs.declared.borrowed.ValueRef.{ValueRef}

first_left : (cells : List Cell) (i : ℕ) → first_cell (drop i cells) ≡ get_or cells i null
first_left [] zero = refl
first_left [] (suc i) = refl
first_left (c ∷ cells) zero = refl
first_left (c ∷ cells) (suc i) = first_left cells i

pub part_found : (cells : List Cell) (i : ℕ) (c : Cell) → Some c ≡ slice_get cells i → first_cell (drop i cells) ≡ c
part_found cells i c h = first_left cells i ∙ get_or_from_slice_get cells i c null (sym h)

pub part_absent : (cells : List Cell) (i : ℕ) → None ≡ slice_get cells i → first_cell (drop i cells) ≡ null
part_absent cells i h = first_left cells i ∙ sym (unwrap_or-slice_get cells i null) ∙ ap (λ o. unwrap_or o null) (sym h)

pub stored_found : (cells : List Value) (i : ℕ) (v : Value) → i < length cells → get_or cells i v ≡ v → first_cell (drop i (map cell cells)) ≡ cell v
stored_found cells i v lt e =
    part_found (map cell cells) i (cell v) (sym (slice_get-map cell cells i ∙ ap (option_map cell) (slice_get_read cells (length cells) i v refl lt (sym e))))

pub stored_absent : (cells : List Value) (i : ℕ) → length cells ≤ i → first_cell (drop i (map cell cells)) ≡ null
stored_absent cells i past = part_absent (map cell cells) i (sym (slice_get_past (map cell cells) i (omega (arith, length-map cells cell))))

-- what a vector's cells are with one after them
pub one_pushed : (old new : List ValueRef) (x : ValueRef) (y : Cell) → new ≡ old ++ x ∷ [] → borrowed_cell x ≡ y → map borrowed_cell new ≡ map borrowed_cell old ++ y ∷ []
one_pushed old new x y e is = ap (map borrowed_cell) e ∙ (map-append borrowed_cell old (x ∷ []) ∙ ap (λ (c : Cell). map borrowed_cell old ++ c ∷ []) is)
