use Rattle.std.proofs.Common.{◌≡◌, length}
use Rattle.arrays.specs.inner.SchemaDictionaries.{columns_of_types}
use Rattle.arrays.proofs.SchemaDictionaries.{so_far}
use Rattle.arrays.proofs.schema_dictionaries.columns_of.Given as goal

abbrev pub invariant-loop-one : goal.invariant-loop-one
invariant-loop-one l = so_far l.types.items l.ids.items l.values.items ≡ columns_of_types l.initial.types.items

-- each turn uses up a type
abbrev pub decreases-loop-one : goal.decreases-loop-one
decreases-loop-one l = length l.types.items
