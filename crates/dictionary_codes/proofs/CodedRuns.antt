-- The cells of slots of a column with a dictionary.
use Rattle.std.specs.Prelude.{Some, Option, option_map, not, ◌/◌, string_bytes}
use Rattle.std.specs.List.{list_all}
use Rattle.std.proofs.Common.{◌≡◌, ℕ, suc, ◌+◌, ◌-◌, ◌≤◌, ◌<◌, ◌++◌, true, false, ◌∷◌, map, refl, ap, sym, ◌∙◌, arith}
use Rattle.std.proofs.lemmas.Bool.{and_parts, not-true}
use Rattle.arrow_schema.specs.Column.{Column, column}
use Rattle.arrow_schema.specs.View.{column_of, index_of, kind_of, pair_of}
use Rattle.arrow_schema.specs.declared.types.DictSpec.{DictSpec}
use Rattle.arrow_schema.specs.declared.types.Field.{Field}
use Rattle.arrow_schema.specs.laws.Parts.{field_parts}
use Rattle.cells.specs.Cell.{Cell, null, items}
use Rattle.columns.specs.Array.{Array, dictionary_in, indices_in}
use Rattle.columns.specs.CellAt.{cell_at, cells_from, entries_of_kind, entry_at, index_at, is_valid}
use Rattle.columns.specs.Sound.{is_sound}
use Rattle.columns.specs.Tests.{are_few, has_short_validity}
use Rattle.dictionary_codes.specs.CodedCells.{is_coded}
use Rattle.columns.specs.laws.Rows.{cells_from-append}
use Rattle.dictionary_codes.specs.laws.AllCells.{all_front}

-- ---- in loops

pub first_cell : (f : ℕ → Cell) (i to : ℕ) → i < to → cells_from f i (to - i) ≡ f i ∷ cells_from f (i + 1) (to - (i + 1))
first_cell f i to lt = let size : to - i ≡ suc (to - (i + 1)) = omega (arith, lt) in ap (cells_from f i) size

-- the cell at a slot is coded if all that are left are, and so are those after it
pub coded_here : (f : ℕ → Cell) (i to : ℕ) → i < to → list_all is_coded (cells_from f i (to - i)) ≡ true
    → (is_coded (f i) ≡ true) × (list_all is_coded (cells_from f (i + 1) (to - (i + 1))) ≡ true)
coded_here f i to lt h =
    let size : to - i ≡ suc (to - (i + 1)) = omega (arith, lt) in
    and_parts (is_coded (f i)) (list_all is_coded (cells_from f (i + 1) (to - (i + 1)))) (ap (λ (n : ℕ). list_all is_coded (cells_from f i n)) (sym size) ∙ h)

-- the cells up to a slot, and those from it on
pub cells_split : (f : ℕ → Cell) (i end to : ℕ) → i ≤ end → end ≤ to → cells_from f i (to - i) ≡ cells_from f i (end - i) ++ cells_from f end (to - end)
cells_split f i end to low high =
    let size : to - i ≡ (end - i) + (to - end) = omega (arith, low, high) in
    let next : i + (end - i) ≡ end = omega (arith, low) in
    ap (cells_from f i) size ∙ cells_from-append f i (end - i) (to - end) ∙ ap (λ (s : ℕ). cells_from f i (end - i) ++ cells_from f s (to - end)) next

pub coded_split : (f : ℕ → Cell) (i end to : ℕ) → i ≤ end → end ≤ to → list_all is_coded (cells_from f i (to - i)) ≡ true
    → (list_all is_coded (cells_from f i (end - i)) ≡ true) × (list_all is_coded (cells_from f end (to - end)) ≡ true)
coded_split f i end to low high h =
    all_front is_coded (cells_from f i (end - i)) (cells_from f end (to - end)) (sym (ap (list_all is_coded) (cells_split f i end to low high)) ∙ h)

-- ---- the cell at a slot

coded_column : (f : Field) (d : DictSpec) → f.dictionary ≡ Some d → column_of f ≡ column (string_bytes f.name) f.nullable (kind_of f.data_type) (Some (index_of d)) (map pair_of f.pairs.items)
coded_column f d is =
    field_parts f ∙ ap (λ (o : Option DictSpec). column (string_bytes f.name) f.nullable (kind_of f.data_type) (option_map index_of o) (map pair_of f.pairs.items)) is

pub valid_cell : (f : Field) (d : DictSpec) (a : Array) (i : ℕ) → f.dictionary ≡ Some d → is_valid a i ≡ true
    → cell_at (column_of f) a i ≡ entry_at (entries_of_kind (kind_of f.data_type) (dictionary_in a)) (index_at (index_of d) a i)
unfolding cell_at
valid_cell f d a i is valid = ap (λ (c : Column). cell_at c a i) (coded_column f d is) ∙ rw valid refl

pub hidden_cell : (f : Field) (d : DictSpec) (a : Array) (i : ℕ) → f.dictionary ≡ Some d → is_valid a i ≡ false → cell_at (column_of f) a i ≡ null
unfolding cell_at
hidden_cell f d a i is hidden = ap (λ (c : Column). cell_at c a i) (coded_column f d is) ∙ rw hidden refl

-- its buffers are long enough
pub long_buffers : (f : Field) (d : DictSpec) (a : Array) → f.dictionary ≡ Some d → is_sound (column_of f) a ≡ true
    → (has_short_validity a ≡ false) × (are_few ((index_of d).bits / 8) a (indices_in a) ≡ false)
unfolding is_sound
long_buffers f d a is sound =
    let whole = ap (λ (c : Column). is_sound c a) (sym (coded_column f d is)) ∙ sound in
    let own = and_parts (not (has_short_validity a)) _ whole in
    let rest = and_parts (not (are_few ((index_of d).bits / 8) a (indices_in a))) _ own.1 in
    (not-true (has_short_validity a) own.0, not-true (are_few ((index_of d).bits / 8) a (indices_in a)) rest.0)
