use Rattle.cells.proofs.DistinctEntries.{are_entries, distinct_entries, only_entries}
use Rattle.cells.proofs.laws.entries_are_the_distinct_values.Goals as goal

pub returns : goal.returns
returns c = record { values = are_entries; distinct = distinct_entries; only = only_entries }
