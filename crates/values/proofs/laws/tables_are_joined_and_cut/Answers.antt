use Rattle.values.proofs.TableLaws as laws
use Rattle.values.proofs.laws.tables_are_joined_and_cut.Goals as goal

pub returns : goal.returns
returns c = record { joined = laws.joined; cut = laws.parted }
