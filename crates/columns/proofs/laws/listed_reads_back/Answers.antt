use Rattle.columns.proofs.ReadArrays.{arrays_again, parts_layout}
use Rattle.columns.proofs.laws.listed_reads_back.Goals as goal

pub returns : goal.returns
returns c = record { arrays = arrays_again; written = parts_layout }
