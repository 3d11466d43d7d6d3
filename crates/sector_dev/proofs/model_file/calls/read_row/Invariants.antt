use Rattle.std.proofs.Common.{◌≡◌, ◌<◌, ◌+◌, ℕ, [], Some, length, get_or}
use Rattle.sector_dev.specs.inner.Stored.{stored_at, shown_in}
use Rattle.sector_dev.proofs.model_file.calls.read_row.Given as goal

abbrev pub invariant-loop-i : goal.invariant-loop-i
invariant-loop-i l = record {
  len : length l.to ≡ length l.fn.to;
  so_far : (j : ℕ) → j < l.i → shown_in (stored_at l.stored (l.start + j)) ≡ Some (get_or l.to j []);
}
