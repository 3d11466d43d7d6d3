use Rattle.std.proofs.Common.{refl}
use Rattle.cells.specs.Dictionary.{with_entries}
use Rattle.columns.specs.Built.{built}
use Rattle.columns.specs.FromBuffers.{arrays_from}
use Rattle.columns.specs.Tests.{arrays_at}
use Rattle.columns.proofs.laws.worked_cases.Goals as goal

pub returns-clause-written_dictionaries : goal.returns-clause-written_dictionaries
unfolding built with_entries
returns-clause-written_dictionaries c = refl

pub returns-clause-written_without_entries : goal.returns-clause-written_without_entries
unfolding built with_entries
returns-clause-written_without_entries c = refl

pub returns-clause-read_again : goal.returns-clause-read_again
unfolding built with_entries arrays_from arrays_at
returns-clause-read_again c = refl
