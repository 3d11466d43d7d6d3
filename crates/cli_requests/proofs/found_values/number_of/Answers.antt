use Rattle.std.proofs.Common.{arith}
use Rattle.std.specs.Prelude.{Ok, Err}
use Rattle.cli_requests.proofs.NumberLemmas.{read_number, number_read, signed_is_none}
use Rattle.cli_requests.proofs.found_values.number_of.Goals as goal

pub returns-then-starts_with-clause-taken : goal.returns-then-starts_with-clause-taken
returns-then-starts_with-clause-taken c = λ digits. absurd (signed_is_none _ _ (c.starts_with.ensures.byte (omega arith) (omega arith) (λ w o h. h))
    c.if-starts_with.true digits)

pub returns-in-Ok-clause-read : goal.returns-in-Ok-clause-read
returns-in-Ok-clause-read c = read_number {E = Unit {0}} c.args.text.now c.starts_with.result (Ok c.in-Ok.n)
    (c.starts_with.ensures.byte (omega arith) (omega arith) (λ w o h. h)) c.if-starts_with.false c.in-Ok.ensures.value.0

pub returns-in-Err-clause-taken : goal.returns-in-Err-clause-taken
returns-in-Err-clause-taken c = number_read c.args.text.now c.starts_with.result (Err c.in-Err.field-0)
    (c.starts_with.ensures.byte (omega arith) (omega arith) (λ w o h. h)) c.if-starts_with.false c.in-Err.ensures.value.0
