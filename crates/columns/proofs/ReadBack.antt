-- The one array that cells are written as reads back as them.
use Rattle.std.specs.Prelude.{◌==◌, slice_index_or}
use Rattle.std.specs.List.{list_all}
use Rattle.std.proofs.Common.{◌≡◌, ℕ, zero, suc, ◌+◌, ◌/◌, ◌<◌, Bool, true, false, List, [], ◌∷◌, map, length, get_or, refl, arith, sym, ◌∙◌}
use Rattle.std.proofs.lemmas.Bool.{and_parts, ne_eqb}
use Rattle.std.proofs.lemmas.List.{length-map}
use Rattle.bitmap.specs.Bits.{bit, packed}
use Rattle.bitmap.specs.laws.Packed.{length-packed_in}
use Rattle.cells.specs.Cell.{Cell, null}
use Rattle.columns.specs.Array.{Array, Layout}
use Rattle.cells.specs.Nulls.{is_there}
use Rattle.columns.specs.Built.{with_validity}
use Rattle.columns.specs.CellAt.{is_valid, unless_null}

-- what was packed reads back
abbrev pub PackedReadsBack : Type 0
PackedReadsBack = (bits : List Bool) (i : ℕ) → bit (packed bits) i ≡ slice_index_or bits i false

pub all_at : {X : Type 0} (p : X → Bool) (xs : List X) (i : ℕ) (d : X) → list_all p xs ≡ true → i < length xs → p (get_or xs i d) ≡ true
all_at p [] i d h lt = absurd (omega arith)
all_at p (x ∷ xs) zero d h lt = (and_parts (p x) (list_all p xs) h).0
all_at p (x ∷ xs) (suc i) d h lt = all_at p xs i d (and_parts (p x) (list_all p xs) h).1 (omega arith)

-- ---- nulls

pub absent_is_null : (c : Cell) → is_there c ≡ false → c ≡ null
absent_is_null null h = refl
absent_is_null _ h = cc

pub bit_of : PackedReadsBack → (p : Cell → Bool) (cells : List Cell) (i : ℕ) → i < length cells → bit (packed (map p cells)) i ≡ p (get_or cells i null)
bit_of back p cells i lt = back (map p cells) i ∙ there cells i lt
  where
    there : (xs : List Cell) (k : ℕ) → k < length xs → slice_index_or (map p xs) k false ≡ p (get_or xs k null)
    there [] k lt = absurd (omega arith)
    there (x ∷ xs) zero lt = refl
    there (x ∷ xs) (suc k) lt = there xs k (omega arith)

some_bytes : (cells : List Cell) → 0 < length cells → (length (packed (map is_there cells)) == 0) ≡ false
some_bytes cells some =
    let count : length (packed (map is_there cells)) ≡ (length (map is_there cells) + 7) / 8 = length-packed_in _ (map is_there cells) in
    let same : length (map is_there cells) ≡ length cells = length-map cells is_there in
    ne_eqb _ _ (λ e. omega (arith, count, same))

pub valid_is : PackedReadsBack → (cells : List Cell) (layout : Layout) (i : ℕ) → i < length cells → is_valid (with_validity cells layout) i ≡ is_there (get_or cells i null)
valid_is back cells layout i lt = by_all (list_all is_there cells) refl
  where
    by_all : (b : Bool) → list_all is_there cells ≡ b → is_valid (with_validity cells layout) i ≡ is_there (get_or cells i null)
    by_all true h = rw h (sym (all_at is_there cells i null h lt))
    by_all false h = rw (h, some_bytes cells (omega arith)) (bit_of back is_there cells i lt)

-- a null has no value, and each other cell is found in the layout
pub by_validity : PackedReadsBack → (cells : List Cell) (layout : Layout) (value : Array → ℕ → Cell) (i : ℕ) → i < length cells
    → (is_there (get_or cells i null) ≡ true → value (with_validity cells layout) i ≡ get_or cells i null)
    → unless_null value (with_validity cells layout) i ≡ get_or cells i null
by_validity back cells layout value i lt found = by_there (is_there (get_or cells i null)) refl
  where
    by_there : (b : Bool) → is_there (get_or cells i null) ≡ b → unless_null value (with_validity cells layout) i ≡ get_or cells i null
    by_there true h = rw (valid_is back cells layout i lt, h) (found h)
    by_there false h = rw (valid_is back cells layout i lt, h) (sym (absent_is_null _ h))
