use Rattle.std.proofs.Common.{◌≡◌, ◌⊎◌, ◌<◌, ◌≤◌, ◌+◌, ◌-◌, ℕ, [], Some, length, get_or}
use Rattle.sector_dev.specs.inner.Stored.{stored_at}
use Rattle.sector_dev.proofs.model_file.calls.set_row.Given as goal

abbrev pub invariant-loop-i : goal.invariant-loop-i
invariant-loop-i l = record {
  len : length l.stored ≡ length l.fn.stored;
  there : (n : ℕ) → l.start ≤ n → n < l.start + l.i → stored_at l.stored n ≡ record { synced = (stored_at l.fn.stored n).synced; newest = Some (get_or l.contents (n - l.start) []) };
  others : (n : ℕ) → (n < l.start) ⊎ (l.start + l.i ≤ n) → stored_at l.stored n ≡ stored_at l.fn.stored n;
}
