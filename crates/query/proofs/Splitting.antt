-- Where a space first stands in a text.
use Rattle.std.proofs.Common.{◌≡◌, ℕ, ◌==◌, List, length, refl, arith, Bor}
use Rattle.std.specs.Prelude.{Option, Some, None}
use Rattle.std.specs.List.{position_or_len}
use Rattle.std.proofs.lemmas.Bool.{lt-ltb, le-ltb}
use Rattle.std.proofs.lemmas.Str.Pattern.{IsSplitOnceResult, split_once_first}
use Rattle.facts.specs.Outcomes.{Reads}
use Rattle.query.specs.ConditionText.{split_at_space}

pub split_reads : (text : List ℕ) (r : Option (Bor (List ℕ) × Bor (List ℕ))) → IsSplitOnceResult 32 text r → Reads (λ p. (p.0.now, p.1.now)) r (split_at_space text)
unfolding split_at_space
split_reads text None h =
    let e : position_or_len (λ b. b == 32) text ≡ length text = split_once_first 32 text None h (omega arith) in
    rw (e, le-ltb (length text) (length text) (omega arith)) refl
split_reads text (Some x) h =
    let k = split_once_first 32 text (Some x) h (omega arith) in
    rw (k.1, k.2, lt-ltb (position_or_len (λ b. b == 32) text) (length text) k.0) refl
