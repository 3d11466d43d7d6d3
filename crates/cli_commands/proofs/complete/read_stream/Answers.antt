use Rattle.std.specs.Global.{Vec}
use Rattle.std.proofs.Common.{◌∙◌, ℕ, sym, true≢false}
use Rattle.std.proofs.lemmas.Result.{err_from_is_err_and}
use Rattle.cli_commands.proofs.GivenLemmas.{whole_input}
use Rattle.cli_commands.proofs.RefusedInputs.{refuses_stream}
use Rattle.cli_commands.proofs.complete.read_stream.Goals as goal

pub returns-in_err-bytes-clause-refused : goal.returns-in_err-bytes-clause-refused
returns-in_err-bytes-clause-refused g c =
    let p = err_from_is_err_and c.from_residual.result c.from_residual.ensures.1 in
    let e = c.in_err-bytes.ensures in
    rw (p.1, p.2) (refuses_stream (Vec ℕ) _ _ c.in_err-bytes.field-0.0 e.told e.too_many e.few)

pub returns-then-lacks_end-clause-refused : goal.returns-then-lacks_end-clause-refused
returns-then-lacks_end-clause-refused g c =
    let e = c.in_ok-bytes.ensures in
    let lacks = rw c.deref.ensures.value at c.lacks_end.ensures in
    (c.in_ok-bytes.bytes.items, whole_input _ c.in_ok-bytes.bytes e.all e.within, lacks.0 c.if-lacks_end.true)

pub returns-clause-whole : goal.returns-clause-whole
returns-clause-whole g c = whole_input _ c.in_ok-bytes.bytes c.in_ok-bytes.ensures.all c.in_ok-bytes.ensures.within

pub returns-clause-ended : goal.returns-clause-ended
returns-clause-ended g c = λ lacks.
    let decided = rw c.deref.ensures.value at c.lacks_end.ensures in
    true≢false (sym (decided.1 lacks) ∙ c.if-lacks_end.false)
