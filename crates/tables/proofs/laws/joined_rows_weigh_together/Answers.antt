use Rattle.std.proofs.lemmas.List.Sums.{sum_by-append}
use Rattle.cells.specs.Weight.{row_weight}
use Rattle.tables.proofs.laws.joined_rows_weigh_together.Goals as goal

pub returns : goal.returns
returns c = λ s a b. sum_by-append (row_weight s) a b
