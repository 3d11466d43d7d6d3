use mir.Val.{SFits, to_z, of_z}
use Rattle.std.specs.Prelude.{OnOk}
use Rattle.std.specs.Int.{w64, w128}
use Rattle.std.proofs.Common.{◌≡◌, ◌∙◌, ◌++◌, ℕ, List, [], ◌∷◌, true, false, sym, subst, rules}
use Rattle.std.proofs.lemmas.Int.{to_z-of_z}
use Rattle.cells.specs.Fit.{in_range}
use Rattle.civil_days.specs.Typed.{shown_in}
use Rattle.query.specs.Line.{json_of}
use Rattle.query.proofs.ShownCells.{escape_between, in_64_bits}
use Rattle.query.proofs.shown.push_date.Goals as goal

pub returns-then-not-has_64_bits : goal.returns-then-not-has_64_bits
unfolding json_of
returns-then-not-has_64_bits c =
    let fits : SFits w128 c.args.number = search rules in
    let own = to_z-of_z w128 c.args.number fits in
    let far : in_range 64 true c.args.number ≡ false = rw own at (sym c.has_64_bits.ensures ∙ c.if-not-has_64_bits.true) in
    rw far (rw own at c.push_number.ensures)

pub returns : goal.returns
unfolding json_of
returns c =
    let fits : SFits w128 c.args.number = search rules in
    let own = to_z-of_z w128 c.args.number fits in
    let near : in_range 64 true c.args.number ≡ true = rw own at (sym c.has_64_bits.ensures ∙ c.if-not-has_64_bits.false) in
    let same : to_z w64 (of_z w64 c.args.number) ≡ c.args.number = in_64_bits c.args.number near in
    let P : List ℕ → Type 0 = λ t. OnOk c.push_quoted_date.result (c.push_quoted_date.new.out.items ≡ c.args.out.now.items ++ 34 ∷ (t ++ 34 ∷ [])) in
    rw near (subst P (sym (escape_between (shown_in c.args.column c.args.number) (c.texts_need_no_escape.ensures c.args.column c.args.number))) (rw (own, same) at c.push_quoted_date.ensures))
