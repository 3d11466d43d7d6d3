-- What a turn of a loop adds to what was made before, with what is left.
use Rattle.std.proofs.Common.{◌≡◌, ◌++◌, ◌∙◌, List, append_assoc}

pub turned : {X : Type 0} (made own rest all next : List X) → next ≡ made ++ own → made ++ (own ++ rest) ≡ all → next ++ rest ≡ all
turned made own rest all next added kept = rw added (append_assoc made own rest ∙ kept)
