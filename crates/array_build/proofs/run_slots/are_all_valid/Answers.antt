use Rattle.std.specs.Prelude.{not}
use Rattle.std.proofs.Common.{◌≡◌, ℕ, List, length, ap, sym, ◌∙◌}
use Rattle.std.proofs.lemmas.Bool.{eqb-false, eqb-true}
use Rattle.bitmap.specs.Bits.{bit}
use Rattle.columns.specs.Array.{Array, validity_in}
use Rattle.columns.specs.View.{view_array}
use Rattle.array_build.proofs.RunSlots.{all_without, run_tells}
use Rattle.array_build.proofs.run_slots.are_all_valid.Goals as goal

pub returns-then-is_empty : goal.returns-then-is_empty
returns-then-is_empty c =
    let none : length (validity_in (view_array c.args.array)) ≡ 0 = sym (ap length c.validity-validity.ensures) ∙ eqb-true _ 0 (sym c.is_empty.ensures ∙ c.if-is_empty.true) in
    sym (all_without (view_array c.args.array) c.args.from c.args.len none)

pub returns-then-get : goal.returns-then-get
returns-then-get c =
    let a : Array = view_array c.args.array in
    let bits = c.validity-validity.ensures in
    let some : length (validity_in a) ≡ 0 → ⊥ = λ none. eqb-false _ 0 (sym c.is_empty.ensures ∙ c.if-is_empty.false) (ap length bits ∙ none) in
    let set = sym (ap (λ (bytes : List ℕ). bit bytes c.args.from) bits) ∙ sym c.get.ensures ∙ c.if-get.true in
    run_tells a c.args.from c.args.len c.run_end.result some set c.run_end.ensures.begins c.run_end.ensures.ends
    (λ i low high. sym (ap (λ (bytes : List ℕ). bit bytes i) bits) ∙ c.run_end.ensures.alike i low high ∙ ap (λ (bytes : List ℕ). bit bytes c.args.from) bits)
    (λ before. sym (ap (λ (bytes : List ℕ). bit bytes c.run_end.result) bits) ∙ c.run_end.ensures.longest before ∙ ap (λ (bytes : List ℕ). not (bit bytes c.args.from)) bits)
