use Rattle.std.proofs.Common.{◌≡◌, ◌+◌, ℕ, length}
use Rattle.sector_dev.specs.FileHistory.{marked_at}
use Rattle.sector_dev.proofs.model_file.calls.reach_marks.Given as goal

abbrev pub invariant-loop : goal.invariant-loop
invariant-loop l = record {
  same : (n : ℕ) → marked_at l.marks.items n ≡ marked_at l.fn.marks.items n;
  len : length l.marks.items ≡ length l.fn.marks.items + l.counter;
}
