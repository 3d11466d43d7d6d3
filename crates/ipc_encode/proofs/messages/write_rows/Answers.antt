use Rattle.std.proofs.Common.{refl, ◌∙◌}
use Rattle.std.proofs.lemmas.Result.{on_ok_weaker}
use Rattle.ipc_encode.proofs.Streams.{front_then_body}
use Rattle.ipc_encode.proofs.messages.write_rows.Goals as goal

pub returns : goal.returns
returns c =
    let front = rw c.deref.ensures.value at c.in_ok-write_rows_front.ensures in
    on_ok_weaker c.push_body.result
    (λ e. e ∙ front_then_body c.args.stream.now (record c.args.stream.now { last = c.write_rows_front.new.out }) _ _ refl front)
    c.push_body.ensures
