use Rattle.std.specs.Prelude.{OnOk}
use Rattle.std.proofs.Common.{◌≡◌, ℕ, List, [], ◌∷◌, ◌++◌, sym, ap, subst, ◌∙◌}
use Rattle.json.specs.Print.{escape}
use Rattle.query.proofs.line.push_text.Goals as goal

pub returns-then-are_plain : goal.returns-then-are_plain
returns-then-are_plain c =
    let plain : escape c.as_bytes-bytes.result.now ≡ c.as_bytes-bytes.result.now = rw c.if-are_plain.true at c.are_plain.ensures in
    let same : c.as_bytes-bytes.result.now ≡ escape c.args.text.now = sym plain ∙ ap escape c.as_bytes-bytes.ensures.value in
    let P : List ℕ → Type 0 = λ t. OnOk c.push_in_quotes.result (c.push_in_quotes.new.out.items ≡ c.args.out.now.items ++ 34 ∷ (t ++ 34 ∷ [])) in
    subst P same c.push_in_quotes.ensures
