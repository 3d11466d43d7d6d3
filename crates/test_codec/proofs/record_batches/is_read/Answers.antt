use Rattle.std.proofs.Common.{◌≡◌, true, List, [], ◌∷◌, refl}
use Rattle.arrow_schema.specs.Column.{Column}
use Rattle.arrays.specs.Known.{are_readable}
use Rattle.test_codec.proofs.record_batches.is_read.Goals as goal

-- no dictionary is known
none_known : (values : List Column) → are_readable values [] ≡ true
none_known [] = refl
none_known (v ∷ values) = refl

pub read-batch-requires-clause-known : goal.read-batch-requires-clause-known
read-batch-requires-clause-known c = none_known _
