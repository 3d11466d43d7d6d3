use Rattle.values.proofs.TableLaws as laws
use Rattle.values.proofs.laws.accepted_rows_are_a_table.Goals as goal

pub returns : goal.returns
returns c = record { accepted = laws.accepted; kept = laws.kept }
