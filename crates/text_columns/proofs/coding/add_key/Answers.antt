use Rattle.std.proofs.Common.{◌≡◌, ◌∙◌, ℕ, List, false, subst, sym}
use Rattle.std.proofs.lemmas.Bool.{not-true}
use Rattle.text_import.specs.Objects.{has_name}
use Rattle.text_columns.specs.inner.Kept.{key_list}
use Rattle.text_columns.proofs.Coded.{key_named}
use Rattle.text_columns.proofs.coding.add_key.Goals as goal

pub returns-clause-fresh : goal.returns-clause-fresh
returns-clause-fresh c = λ is.
    let keys = c.args.keys.now.keys in
    let owned = rw c.new-owned.ensures.items at c.in_ok-extend_from_slice.ensures.items in
    let own = c.extend_from_slice.new.self.items in
    let fresh : has_name (key_list keys) own ≡ false = sym (key_named own keys) ∙ not-true _ (sym c.in_ok-added.ensures.added ∙ is) in
    subst (λ (k : List ℕ). has_name (key_list keys) k ≡ false) owned fresh
