use Rattle.std.proofs.Common.{◌≡◌, ◌+◌, length, drop}
use Rattle.std.specs.Prelude.{nat_lt, sum_by}
use Rattle.ipc_message.specs.Fields.{pairs_of}
use Rattle.ipc_message.specs.inner.Listed.{listed}
use Rattle.ipc_message.proofs.schema_checks.has_more_pairs.Given as goal

abbrev pub invariant-loop-place : goal.invariant-loop-place
invariant-loop-place l =
    nat_lt l.limit (l.total + sum_by (λ f. length (pairs_of f)) (listed (drop l.place-index l.fields))) ≡ nat_lt l.limit (l.first + sum_by (λ f. length (pairs_of f)) (listed l.fields))
