-- Texts by reference.
use Rattle.std.specs.Prelude.{ℕ, List, map}
use Rattle.std.specs.Borrow.{Bor}

abbrev pub text_list : List (Bor (List ℕ)) → List (List ℕ)
text_list texts = map (λ t. t.now) texts
