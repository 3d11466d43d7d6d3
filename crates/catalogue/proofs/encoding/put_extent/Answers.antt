use Rattle.std.proofs.Common.{◌≡◌, ◌++◌, ℕ, List, append_assoc}
use Rattle.std.proofs.lemmas.Result.{on_ok_weaker}
use Rattle.catalogue.proofs.encoding.put_extent.Goals as goal

-- three parts, one after another
three_put : (out a b c x y z : List ℕ) → a ≡ out ++ x → b ≡ a ++ y → c ≡ b ++ z → c ≡ out ++ (x ++ (y ++ z))
three_put out a b c x y z e f g =
    let grouped : ((out ++ x) ++ y) ++ z ≡ out ++ (x ++ (y ++ z)) = simp append_assoc in
    rw (g, f, e) grouped

pub returns : goal.returns
returns c =
    on_ok_weaker c.put_number-3.result
    (λ g. three_put c.args.out.now.items _ _ _ _ _ _ c.in_ok-put_number.ensures c.in_ok-put_number-2.ensures g)
    c.put_number-3.ensures
