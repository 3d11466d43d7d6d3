use Rattle.std.proofs.Common.{◌≡◌, ◌≢◌, ◌↔◌, ◌∙◌, ◌+◌, ℕ, List, [], length, drop, sym, ap, subst, arith, true≢false, length-drop, drop-drop, Ok}
use Rattle.std.specs.Prelude.{is_some}
use Rattle.ipc_message.specs.Framing.{Envelope, message, next_message, taken}
use Rattle.cli_commands.specs.Complete.{LacksEnd}
use Rattle.cli_commands.proofs.EndLemmas.{after_message, no_message, rest_of}
use Rattle.cli_commands.proofs.complete.lacks_end.Goals as goal

pub returns-in_default : goal.returns-in_default
returns-in_default c =
    let rest : List ℕ = drop c.loop-start.start c.args.bytes.now in
    let none : (m : Envelope) → next_message rest ≢ Ok (message m) = λ m.
    subst (λ (b : List ℕ). next_message b ≢ Ok (message m)) (rest_of c.loop-start.start c.args.bytes.now) (c.message_length.ensures.none (ap is_some c.in_default.is) m) in
    let some : ¬ (rest ≡ []) = λ nil. absurd (omega (arith, c.loop-start-test.true, length-drop c.loop-start.start c.args.bytes.now, ap length nil)) in
    let no : ¬ LacksEnd rest = no_message c.next_message_is_framed.ensures.framed c.next_message_is_framed.ensures.read rest some none in
    ((λ f. absurd (true≢false (sym f))), (λ lacks. absurd (no (c.loop-start.invariant.1.1 lacks))))

pub loop-start-preserved : goal.loop-start-preserved
loop-start-preserved c =
    let bytes : List ℕ = c.args.bytes.now in
    let rest : List ℕ = drop c.loop-start.start bytes in
    let before = c.loop-start.invariant in
    let found = c.in-Some.ensures.found in
    let whole = rest_of c.loop-start.start bytes in
    let next : next_message rest ≡ Ok (message found.0) = subst (λ (b : List ℕ). next_message b ≡ Ok (message found.0)) whole found.1 in
    let step : LacksEnd (drop (taken (message found.0)) rest) ↔ LacksEnd rest =
    after_message c.next_message_is_framed.ensures.framed c.next_message_is_framed.ensures.read rest found.0 next in
    let moved : drop (taken (message found.0)) rest ≡ drop (c.loop-start.start + c.in-Some.taken) bytes =
    ap (λ (n : ℕ). drop n rest) (sym found.2) ∙ drop-drop c.in-Some.taken c.loop-start.start bytes in
    let same : LacksEnd (drop (c.loop-start.start + c.in-Some.taken) bytes) ↔ LacksEnd rest = subst (λ (b : List ℕ). LacksEnd b ↔ LacksEnd rest) moved step in
    (omega (arith, before.0, c.in-Some.ensures.within, ap length whole, length-drop c.loop-start.start bytes), ((λ lacks. before.1.0 (same.0 lacks)), (λ lacks. same.1 (before.1.1 lacks))))
