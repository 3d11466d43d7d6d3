use Rattle.std.proofs.Common.{◌≡◌, ◌⊎◌, ◌<◌, ◌≤◌, ◌+◌, ℕ, true, length}
use Rattle.sector_dev.specs.FileHistory.{marked_at}
use Rattle.sector_dev.proofs.model_file.calls.mark_row.Given as goal

abbrev pub invariant-loop-n : goal.invariant-loop-n
invariant-loop-n l = record {
  room : l.start + l.count ≤ length l.marks.items;
  marked : (k : ℕ) → ((l.start ≤ k) × (k < l.n)) ⊎ (marked_at l.fn.marks.items k ≡ true) → marked_at l.marks.items k ≡ true;
}
