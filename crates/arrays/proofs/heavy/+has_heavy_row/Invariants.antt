use Rattle.arrays.proofs.heavy.+has_heavy_row.Given as goal

abbrev pub decreases-has_heavy_row : goal.decreases-has_heavy_row
decreases-has_heavy_row l = l.count
