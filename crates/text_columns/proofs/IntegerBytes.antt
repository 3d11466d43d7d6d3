-- The bytes of integers that were converted.
use Rattle.std.specs.Prelude.{Option, Some, pos, negsuc, ℤ, int_le, int_lt, unsigned_abs}
use Rattle.std.specs.Int.{FitsUnsignedBits, cast_unsigned, Width, w8}
use Rattle.std.proofs.Common.{◌≡◌, ℕ, ◌^◌, ◌≤◌, Bool, true, false, List, ◌++◌, refl, arith, ap, sym, ◌∙◌}
use Rattle.std.proofs.lemmas.Bool.{and_from}
use Rattle.std.proofs.lemmas.Int.{ints}
use Rattle.byteorder.specs.Endian.{little_bytes}
use Rattle.cells.specs.Cell.{number}
use Rattle.cells.specs.Fit.{fits_kind, in_range}
use Rattle.cells.specs.Integers.{number_of}
use Rattle.columns.specs.Built.{integer_bytes}
use Rattle.arrow_schema.specs.Column.{integers}
use Rattle.arrow_schema.specs.View.{bits_of}
use Rattle.arrow_schema.specs.declared.types.BitWidth.{BitWidth}
use Rattle.arrow_schema.specs.declared.types.BitWidth.TheVariants.{Eight}
use Rattle.arrow_schema.specs.declared.types.IntegerType.{IntegerType}
use Rattle.cells.specs.Typed.{typed_integer}
use Rattle.text_import.specs.Flat.{number_cell}
use Rattle.text_columns.specs.inner.Kept.{AppendsInteger, AppendsSpelled}
use mir.Val.{SFits, bits, bytes}

-- without a sign
pub unsigned_appended : (width : Width) (z : ℤ) (value : ℕ) (old new : List ℕ) → FitsUnsignedBits (bits width) z → value ≡ unsigned_abs z → new ≡ old ++ little_bytes (bytes width) value
    → (in_range (bits width) false z ≡ true) × (new ≡ old ++ integer_bytes (bytes width) (number z))
unsigned_appended width (pos n) value old new fits is e =
    let low : int_le (pos 0) (pos n) ≡ true = grind (arith, ints) in
    let high : int_lt (pos n) (pos (2 ^ bits width)) ≡ true = grind (arith, ints) in
    (and_from _ _ low high, rw is at e)
unsigned_appended width (negsuc n) value old new fits is e = absurd fits

-- with a sign
stored : (width : Width) (z : ℤ) → cast_unsigned width z ≡ number_of (bytes width) z
stored width (pos n) = refl
stored w8 (negsuc n) = omega arith
stored _ (negsuc n) = omega arith

fits_range : (width : Width) (z : ℤ) → SFits width z → in_range (bits width) true z ≡ true
fits_range w8 z fits = grind (arith, ints)
fits_range _ z fits = grind (arith, ints)

pub signed_appended : (width : Width) (z value : ℤ) (old new : List ℕ) → SFits width z → value ≡ z → new ≡ old ++ little_bytes (bytes width) (cast_unsigned width value)
    → (in_range (bits width) true z ≡ true) × (new ≡ old ++ integer_bytes (bytes width) (number z))
signed_appended width z value old new fits is e =
    (fits_range width z fits, rw is at e ∙ ap (λ (n : ℕ). old ++ little_bytes (bytes width) n) (stored width z))

-- an integer that a text spells is the cell of the text, if the type holds it
few_bits : (width : BitWidth) → bits_of width ≤ 64
few_bits Eight = omega arith
few_bits _ = omega arith

pub spelled_appended : (i : IntegerType) (t : List ℕ) (o : Option ℤ) (n : ℤ) (old new : List ℕ) → o ≡ Some n
    → ((width : ℕ) (signed : Bool) → width ≤ 64 → number_cell (integers width signed) o ≡ number_cell (integers width signed) (typed_integer t))
    → (m : ℤ) → m ≡ n → AppendsInteger (bits_of i.width) i.signed m old new → AppendsSpelled (bits_of i.width) i.signed t old new
unfolding fits_kind
spelled_appended i t o n old new is same m again added = record {
  spelled = n;
  read = sym (same (bits_of i.width) i.signed (few_bits i.width)) ∙ rw (is, rw again at added.0) refl;
  bytes = rw again at added.1;
}
