use Rattle.std.specs.Prelude.{Option, Some}
use Rattle.std.proofs.Common.{ℕ, List, ◌≡◌, ◌<◌, ◌+◌, length, drop, sym, ◌∙◌, ap, subst, Ok, Err, arith}
use Rattle.std.proofs.lemmas.List.{length-drop, take_rest}
use Rattle.ipc_message.specs.Framing.{taken, message}
use Rattle.ipc_message.specs.Messages.{envelope_of, next_message_of}
use Rattle.ipc_message.specs.declared.message.NextMessage as code
use Rattle.ipc_stream.specs.inner.Reached.{FindsNext, IsReadTo}
use Rattle.ipc_stream.proofs.Reached.{reads_on, rests_cut, rests_end, refused_next, refused_message, few_messages}
use Rattle.ipc_stream.proofs.reading.read_on.Goals as goal

pub returns-in-Err : goal.returns-in-Err
returns-in-Err c =
    let bytes : List ℕ = c.args.bytes.now in
    let rest : List ℕ = drop c.loop-start.start bytes in
    let some : 0 < length rest = omega (arith, c.loop-start-test.true, length-drop c.loop-start.start bytes) in
    rw c.stop.ensures
    (refused_next bytes c.loop-start.number c.loop-start.start c.loop-start.front c.in-Err.fault c.loop-start.invariant some
    (subst (λ (x : List ℕ). FindsNext x (Err c.in-Err.fault)) (take_rest bytes c.loop-start.start) c.in-Err.ensures))

pub returns-in_default : goal.returns-in_default
returns-in_default c =
    let bytes : List ℕ = c.args.bytes.now in
    let rest : List ℕ = drop c.loop-start.start bytes in
    let some : 0 < length rest = omega (arith, c.loop-start-test.true, length-drop c.loop-start.start bytes) in
    rests_cut bytes c.loop-start.number c.loop-start.start c.loop-start.front c.loop-start.invariant some
    (subst (λ (o : Option (code.NextMessage × ℕ)). FindsNext rest (Ok o)) c.in_default.is
    (subst (λ (x : List ℕ). FindsNext x (Ok c.in-Ok.found)) (take_rest bytes c.loop-start.start) c.in-Ok.ensures))

pub returns-in-Err-add_message : goal.returns-in-Err-add_message
returns-in-Err-add_message c =
    let bytes : List ℕ = c.args.bytes.now in
    let rest : List ℕ = drop c.loop-start.start bytes in
    let some : 0 < length rest = omega (arith, c.loop-start-test.true, length-drop c.loop-start.start bytes) in
    let found = subst (λ (o : Option (code.NextMessage × ℕ)). FindsNext rest (Ok o)) c.in-Some.is
    (subst (λ (x : List ℕ). FindsNext x (Ok c.in-Ok.found)) (take_rest bytes c.loop-start.start) c.in-Ok.ensures) in
    rw c.stop-in-Err-add_message.ensures
    (refused_message bytes c.loop-start.number c.loop-start.start c.loop-start.front (envelope_of c.in-Message.message) c.in-Err-add_message.error c.loop-start.invariant some
    (found.next ∙ ap (λ f. Ok (next_message_of f)) c.in-Message.is) c.in-Err-add_message.ensures)

pub loop-start-preserved : goal.loop-start-preserved
loop-start-preserved c =
    let bytes : List ℕ = c.args.bytes.now in
    let rest : List ℕ = drop c.loop-start.start bytes in
    let some : 0 < length rest = omega (arith, c.loop-start-test.true, length-drop c.loop-start.start bytes) in
    let found = subst (λ (o : Option (code.NextMessage × ℕ)). FindsNext rest (Ok o)) c.in-Some.is
    (subst (λ (x : List ℕ). FindsNext x (Ok c.in-Ok.found)) (take_rest bytes c.loop-start.start) c.in-Ok.ensures) in
    let size : c.in-Some.taken ≡ taken (message (envelope_of c.in-Message.message)) = found.size ∙ ap (λ f. taken (next_message_of f)) c.in-Message.is in
    subst (λ (n : ℕ). IsReadTo bytes (c.loop-start.number + 1) (c.loop-start.start + n) (Some c.in-Ok-add_message.front)) (sym size)
    (reads_on bytes c.loop-start.start (envelope_of c.in-Message.message) some (found.next ∙ ap (λ f. Ok (next_message_of f)) c.in-Message.is)
    c.loop-start.number c.loop-start.front c.in-Ok-add_message.front c.loop-start.invariant c.in-Ok-add_message.ensures)

pub returns : goal.returns
returns c = rests_end c.args.bytes.now c.loop-start.number c.loop-start.start c.loop-start.front c.loop-start.invariant c.loop-start-test.false

pub overflow_add-number : goal.overflow_add-number
overflow_add-number c =
    let few = few_messages c.loop-start.invariant.messages in
    omega (arith, few, c.loop-start.invariant.counted, c.loop-start.invariant.sized, c.loop-start-test.true, c.body_at-body.ensures.fits, c.loop-start.auto.start-fits)
