use Rattle.std.proofs.Common.{arith, subst, ◌≡◌, ℕ, List, Some, Err, sym}
use Rattle.std.specs.Prelude.{take, slice_get, ◌+◌}
use Rattle.tables.specs.Commands.{PlainCommand, commands_of}
use Rattle.tables.specs.Tables.{Tables}
use Rattle.tables.specs.declared.refusal.Refusal.{Refusal}
use Rattle.tables.specs.Verdict.{verdict, refused_in_turn, after}
use Rattle.tables.specs.laws.Steps.{in_turn_is_after, refused_is_refused, refused_has_line, refused_is_at}
use Rattle.tables.proofs.laws.a_list_is_its_commands_in_turn.Goals as goal

pub returns-clause-accepted : goal.returns-clause-accepted
unfolding verdict
returns-clause-accepted c = in_turn_is_after

pub returns-clause-refused : goal.returns-clause-refused
unfolding verdict
returns-clause-refused c = λ t cs r is. refused_has_line 0 t cs r is

at_line : (t : Tables) (cs : List PlainCommand) (n : ℕ) (r : Refusal) → refused_in_turn 0 t (commands_of cs) ≡ Some (n, r) → (c : PlainCommand) × (slice_get cs n ≡ Some c) × (verdict (after t (take n cs)) c ≡ Err r)
at_line t cs n r is =
    let found = refused_is_at 0 t cs n r is in
    let count = found.counted in
    let same : found.index ≡ n = omega (arith, count) in
    subst (λ (i : ℕ). (c : PlainCommand) × (slice_get cs i ≡ Some c) × (verdict (after t (take i cs)) c ≡ Err r)) same (found.command, found.at, found.refused)

pub returns-clause-line : goal.returns-clause-line
unfolding verdict
returns-clause-line c = λ t cs n r is. (refused_is_refused 0 t (commands_of cs) n r is, at_line t cs n r is)
