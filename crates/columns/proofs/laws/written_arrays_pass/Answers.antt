use Rattle.columns.specs.Tests.{every_array}
use Rattle.columns.proofs.BuiltSound.{none_short, none_unordered, none_miscounted}
use Rattle.columns.proofs.laws.written_arrays_pass.Goals as goal

pub returns : goal.returns
returns c = record { long = none_short; ordered = none_unordered; counted = λ columns arrays. none_miscounted (every_array columns arrays) }
