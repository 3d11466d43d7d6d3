use Rattle.std.proofs.Common.{ℕ, List, map, take, ap, ◌∙◌}
use Rattle.dictionary.specs.InEffect.{in_effect}
use Rattle.ipc_stream.proofs.add.dictionary_parts.Goals as goal

pub returns-clause-effect : goal.returns-clause-effect
returns-clause-effect c = λ bytes before lists h e.
    c.in_ok-parts.ensures.effect bytes before lists h e
    ∙ ap (λ (ids : List ℕ). map (λ (id : ℕ). in_effect id before) (take c.column_count-count.result ids)) c.deref.ensures.value
    ∙ c.column_count-count.ensures.each before
