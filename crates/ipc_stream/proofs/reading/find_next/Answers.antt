use Rattle.std.specs.Prelude.{Err}
use Rattle.std.proofs.Common.{sym, ap, ◌∙◌, rules}
use Rattle.ipc_stream.proofs.reading.find_next.Goals as goal

pub returns-in-Ok : goal.returns-in-Ok
returns-in-Ok c = record { next = sym c.in-Ok.ensures.exact; size = c.in-Ok.ensures.taken; within = c.in-Ok.ensures.within }

pub returns-in-Err-Truncated : goal.returns-in-Err-Truncated
returns-in-Err-Truncated c = sym c.in-Err-Truncated.ensures.exact ∙ ap Err c.in-Err-Truncated.field-0-is

pub returns-in-Err : goal.returns-in-Err
returns-in-Err c = (sym c.in-Err.ensures.exact, search rules)
