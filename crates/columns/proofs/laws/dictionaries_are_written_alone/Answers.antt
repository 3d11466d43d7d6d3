use Rattle.columns.proofs.BuiltDictionaries.{dictionaries_known, dictionaries_alone, dictionaries_flat}
use Rattle.columns.proofs.laws.dictionaries_are_written_alone.Goals as goal

pub returns : goal.returns
returns c = record { known = dictionaries_known; alone = dictionaries_alone; flat = dictionaries_flat }
