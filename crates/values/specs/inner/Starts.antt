-- Where runs of rows that follow one another start.
use Rattle.std.specs.Prelude.{ℕ, ◌+◌, ◌-◌, ◌<◌, ◌≤◌, List, [], ◌∷◌, length, map, take, sum, slice_index, get_or}
use Rattle.values.specs.declared.table_part.TablePart.{TablePart}

-- where each of some runs starts, of which the lengths are given
abbrev pub starts_from : (start : ℕ) → (lengths : List ℕ) → List ℕ
starts_from start [] = []
starts_from start (n ∷ ns) = start ∷ starts_from (start + n) ns

-- a row is in this run
pub record IsInRun (lengths : List ℕ) (run place : ℕ) : Type 0 where
  pub there : run < length lengths
  pub low : sum (take run lengths) ≤ place
  pub high : place < sum (take run lengths) + slice_index lengths run

-- how many rows each batch of a part has, and each part
abbrev pub batch_lengths : TablePart → List ℕ
batch_lengths p = map (λ b. b.rows) p.batches.items

abbrev pub part_lengths : List TablePart → List ℕ
part_lengths parts = map (λ p. sum (batch_lengths p)) parts

-- those of the part at a place
abbrev pub batch_lengths_at : List TablePart → ℕ → List ℕ
batch_lengths_at parts k = get_or (map batch_lengths parts) k []

-- a row is in this batch of this part
pub record IsInBatch (parts : List TablePart) (part batch row : ℕ) : Type 0 where
  pub in_part : IsInRun (part_lengths parts) part row
  pub in_batch : IsInRun (batch_lengths_at parts part) batch (row - sum (take part (part_lengths parts)))
