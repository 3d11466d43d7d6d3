use Rattle.std.specs.Prelude.{◌||◌, ◌==◌}
use Rattle.std.proofs.Common.{◌≡◌, ◌∙◌, ◌+◌, ◌-◌, ℕ, Bool, List, true, ap, length, sym}
use Rattle.std.proofs.lemmas.Bool.{or_left}
use Rattle.bitmap.specs.Bits.{bit}
use Rattle.columns.specs.Array.{Array, offsets_in, validity_in}
use Rattle.columns.specs.CellAt.{is_valid, number_at, span_size}
use Rattle.columns.specs.Offsets.{width_of}
use Rattle.columns.specs.View.{view_array}
use Rattle.array_build.proofs.Unset.{or_more}
use Rattle.array_build.proofs.as_written.have_no_bytes.Goals as goal

pub returns-then-is_empty : goal.returns-then-is_empty
returns-then-is_empty c = λ h i low high.
    let a : Array = view_array c.args.array in
    let none : (length (validity_in a) == 0) ≡ true = sym (ap (λ (bytes : List ℕ). length bytes == 0) c.validity-validity.ensures) ∙ sym c.if-is_empty.ensures in
    or_left (is_valid a i) (span_size (width_of c.args.width) a i == 0) (or_left (length (validity_in a) == 0) (bit (validity_in a) i) none)

pub returns : goal.returns
returns c = λ h i low high.
    let a : Array = view_array c.args.array in
    let w : ℕ = width_of c.args.width in
    let empty : List ℕ → Bool = λ offsets. (number_at w offsets (i + 1) - number_at w offsets i) == 0 in
    let told = c.have_no_bytes_at_unset.ensures h i low high in
    let here : (bit (validity_in a) i || empty (offsets_in a)) ≡ true =
    sym (ap (λ (bytes : List ℕ). bit bytes i || empty (offsets_in a)) c.validity-validity.ensures)
    ∙ sym (ap (λ (bytes : List ℕ). bit c.validity-validity.result.now i || empty bytes) c.offsets.ensures) ∙ told in
    or_more (length (validity_in a) == 0) (bit (validity_in a) i) (empty (offsets_in a)) here
