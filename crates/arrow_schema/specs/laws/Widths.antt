-- The widths that an integer may have are the variants of `BitWidth`.
use Rattle.std.proofs.Common.{◌≡◌, ℕ, Bool, true, false, refl}
use Rattle.std.specs.Prelude.{◌==◌, ◌||◌}
use Rattle.std.proofs.lemmas.Bool.{eqb-true}
use Rattle.arrow_schema.specs.declared.types.BitWidth.{BitWidth}
use Rattle.arrow_schema.specs.declared.types.BitWidth.TheVariants.{Eight, Sixteen, ThirtyTwo, SixtyFour}
use Rattle.arrow_schema.specs.Column.{is_bit_width}
use Rattle.arrow_schema.specs.View.{bits_of}

pub is_bit_width-bits_of : (w : BitWidth) → is_bit_width (bits_of w) ≡ true
is_bit_width-bits_of Eight = refl
is_bit_width-bits_of Sixteen = refl
is_bit_width-bits_of ThirtyTwo = refl
is_bit_width-bits_of SixtyFour = refl

either : {X : Type 0} (a b : Bool) → (a ≡ true → X) → (b ≡ true → X) → (a || b) ≡ true → X
either true b f g h = f refl
either false b f g h = g h

pub width_of : (bits : ℕ) → is_bit_width bits ≡ true → (w : BitWidth) × (bits ≡ bits_of w)
width_of bits =
    either ((bits == 8 || bits == 16) || bits == 32) (bits == 64)
    (either (bits == 8 || bits == 16) (bits == 32)
    (either (bits == 8) (bits == 16) (λ h. (Eight, eqb-true bits 8 h)) (λ h. (Sixteen, eqb-true bits 16 h)))
    (λ h. (ThirtyTwo, eqb-true bits 32 h)))
    (λ h. (SixtyFour, eqb-true bits 64 h))
