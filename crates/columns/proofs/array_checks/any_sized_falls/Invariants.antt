use Rattle.std.proofs.Common.{◌≡◌, ◌+◌, nat_lt}
use Rattle.std.specs.List.{list_any, range_with_len}
use Rattle.columns.specs.CellAt.{number_at}
use Rattle.columns.proofs.array_checks.any_sized_falls.Given as goal

abbrev pub invariant-loop-i : goal.invariant-loop-i
invariant-loop-i g l = l.falls ≡ list_any (λ k. nat_lt (number_at g.row.SIZE l.offsets (k + 1)) (number_at g.row.SIZE l.offsets k)) (range_with_len 0 l.i)
