-- A message is what stands before its body, and its body.
use Rattle.std.proofs.Common.{◌≡◌, ℕ, List, [], ◌++◌, append_assoc, ap, ◌∙◌}
use Rattle.std.proofs.lemmas.List.{append-nil}
use Rattle.ipc_write.specs.Written.{framed}

pub front_and : (meta b : List ℕ) → framed meta [] ++ b ≡ framed meta b
front_and meta b = simp append-nil

pub then_body : (new old meta b message : List ℕ) → new ≡ old ++ framed meta [] → framed meta b ≡ message → new ++ b ≡ old ++ message
then_body new old meta b message made is =
    ap (λ (bytes : List ℕ). bytes ++ b) made ∙ append_assoc old (framed meta []) b ∙ ap (λ (bytes : List ℕ). old ++ bytes) (front_and meta b ∙ is)
