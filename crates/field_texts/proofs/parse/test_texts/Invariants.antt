use Rattle.std.proofs.Common.{◌<◌, ℕ, true, [], map, get_or}
use Rattle.field_texts.specs.Typed.{IsFieldText}
use Rattle.field_texts.proofs.parse.test_texts.Given as goal

abbrev pub invariant-loop-index : goal.invariant-loop-index
invariant-loop-index l = (k : ℕ) → k < l.index → IsFieldText true (get_or (map (λ t. t.now) l.texts) k [])
