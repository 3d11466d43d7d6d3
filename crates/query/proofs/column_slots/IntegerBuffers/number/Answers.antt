use Rattle.std.proofs.Common.{◌≡◌, Bool, true, false, sym, ap, ◌∙◌, arith}
use Rattle.std.specs.Prelude.{Some, if◌then◌else◌}
use Rattle.std.proofs.lemmas.Int.{ints}
use mir.Syntax.{w128}
use mir.Val.{to_z, of_z}
use Rattle.cells.specs.Cell.{null, number}
use Rattle.columns.specs.CellAt.{integer_at}
use Rattle.query.specs.inner.Slots.{is_valid_in, number_or_null, width_of}
use Rattle.query.proofs.column_slots.IntegerBuffers.number.Goals as goal

pub returns-then-is_valid : goal.returns-then-is_valid
returns-then-is_valid c =
    let b = c.args.self in
    let x = c.number_at.result in
    let own = number (integer_at (width_of b.integer) b.integer.signed b.values.now c.args.slot) in
    let valid : is_valid_in b.validity.now c.args.slot ≡ true = sym c.is_valid.ensures ∙ c.if-is_valid.true in
    let same : to_z w128 (of_z w128 x) ≡ x = omega (arith, ints) in
    ap (λ y. number_or_null (Some y)) same ∙ ap number c.number_at.ensures ∙ sym (ap (λ (v : Bool). if v then own else null) valid)

pub returns-else-is_valid : goal.returns-else-is_valid
returns-else-is_valid c =
    let b = c.args.self in
    let own = number (integer_at (width_of b.integer) b.integer.signed b.values.now c.args.slot) in
    let valid : is_valid_in b.validity.now c.args.slot ≡ false = sym c.is_valid.ensures ∙ c.if-is_valid.false in
    sym (ap (λ (v : Bool). if v then own else null) valid)
