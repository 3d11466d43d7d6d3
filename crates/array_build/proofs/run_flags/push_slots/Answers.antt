use Rattle.std.proofs.Common.{◌≡◌, ◌++◌, List, Bool, length, ap, sym, ◌∙◌}
use Rattle.std.proofs.lemmas.Bool.{eqb-true}
use Rattle.std.proofs.lemmas.Result.{on_ok_weaker}
use Rattle.columns.specs.Array.{validity_in}
use Rattle.columns.specs.View.{view_array}
use Rattle.array_build.proofs.RunSlots.{bits_without}
use Rattle.array_build.proofs.run_flags.push_slots.Goals as goal

pub returns-then-is_empty : goal.returns-then-is_empty
returns-then-is_empty c =
    let none : length (validity_in (view_array c.args.array)) ≡ 0 = sym (ap length c.validity-validity.ensures) ∙ eqb-true _ 0 (sym c.is_empty.ensures ∙ c.if-is_empty.true) in
    on_ok_weaker c.push_alike.result
    (λ h. h ∙ ap (λ (flags : List Bool). c.args.flags.now.items ++ flags) (sym (bits_without (view_array c.args.array) c.args.from c.args.len none)))
    c.push_alike.ensures
