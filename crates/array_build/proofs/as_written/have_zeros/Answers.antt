use Rattle.std.specs.Prelude.{◌||◌, ◌==◌}
use Rattle.std.proofs.Common.{◌≡◌, ◌∙◌, ℕ, List, true, ap, length, sym}
use Rattle.std.proofs.lemmas.Bool.{or_left}
use Rattle.bitmap.specs.Bits.{bit}
use Rattle.columns.specs.Array.{Array, validity_in, values_in}
use Rattle.columns.specs.CellAt.{is_valid, value_at}
use Rattle.columns.specs.View.{view_array}
use Rattle.array_build.proofs.Unset.{or_more}
use Rattle.array_build.proofs.as_written.have_zeros.Goals as goal
use Rattle.array_build.specs.inner.Runs.{are_zeros}

pub returns-then-is_empty : goal.returns-then-is_empty
returns-then-is_empty c = λ h i low high.
    let a : Array = view_array c.args.array in
    let none : (length (validity_in a) == 0) ≡ true = sym (ap (λ (bytes : List ℕ). length bytes == 0) c.validity-validity.ensures) ∙ sym c.if-is_empty.ensures in
    or_left (is_valid a i) (are_zeros (value_at c.args.width (values_in a) i)) (or_left (length (validity_in a) == 0) (bit (validity_in a) i) none)

pub returns : goal.returns
returns c = λ h i low high.
    let a : Array = view_array c.args.array in
    let told = c.have_zeros_at_unset.ensures h i low high in
    let here : (bit (validity_in a) i || are_zeros (value_at c.args.width (values_in a) i)) ≡ true =
    sym (ap (λ (bytes : List ℕ). bit bytes i || are_zeros (value_at c.args.width (values_in a) i)) c.validity-validity.ensures)
    ∙ sym (ap (λ (bytes : List ℕ). bit c.validity-validity.result.now i || are_zeros (value_at c.args.width bytes i)) c.values.ensures) ∙ told in
    or_more (length (validity_in a) == 0) (bit (validity_in a) i) (are_zeros (value_at c.args.width (values_in a) i)) here
