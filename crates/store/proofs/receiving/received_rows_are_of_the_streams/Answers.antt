use Rattle.store.proofs.ReceivedRows.{rows_behind, rows_anew}
use Rattle.store.proofs.receiving.received_rows_are_of_the_streams.Goals as goal

pub returns-clause-behind : goal.returns-clause-behind
returns-clause-behind c = rows_behind

pub returns-clause-anew : goal.returns-clause-anew
returns-clause-anew c = rows_anew c.canonical_means_its_table.ensures
