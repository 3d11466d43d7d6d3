use Rattle.cli_requests.proofs.ExampleLemmas.{examples, values_read}
use Rattle.cli_requests.proofs.laws.options_are_read.Goals as goal

pub returns-clause-values : goal.returns-clause-values
returns-clause-values c = values_read

pub returns-clause-examples : goal.returns-clause-examples
returns-clause-examples c = examples
