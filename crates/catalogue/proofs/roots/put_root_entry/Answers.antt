use Rattle.std.proofs.Common.{◌≡◌, ◌++◌, ◌∙◌, ℕ, List, append_assoc, ap}
use Rattle.std.proofs.lemmas.Result.{on_ok_weaker}
use Rattle.catalogue.specs.Text.{sized, extent_text}
use Rattle.catalogue.proofs.roots.put_root_entry.Goals as goal

-- two parts, one after another
two_put : (out a b x y : List ℕ) → a ≡ out ++ x → b ≡ a ++ y → b ≡ out ++ (x ++ y)
two_put out a b x y e f = f ∙ ap (λ t. t ++ y) e ∙ append_assoc out x y

pub returns : goal.returns
returns c =
    on_ok_weaker c.put_extent.result
    (λ h. two_put c.args.out.now.items c.put_sized.new.out.items c.put_extent.new.out.items _ (extent_text c.args.entry.now.page) (c.in_ok-put_sized.ensures ∙ ap (λ (name : List ℕ). c.args.out.now.items ++ sized name) c.as_bytes.ensures.value) h)
    c.put_extent.ensures
