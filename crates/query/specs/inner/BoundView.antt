-- The plain form of a bound condition of the code.
use Rattle.query.specs.declared.bound.Predicate.{Predicate}
use Rattle.query.specs.declared.bound.Predicate.TheVariants.{IsNull, IsValue, Compares}
use Rattle.query.specs.declared.bound.Bound.{Bound}
use Rattle.cells.specs.View.{cell}
use Rattle.query.specs.Bound as plain

abbrev pub predicate_in : Predicate → plain.Predicate
predicate_in IsNull = plain.asks_null
predicate_in IsValue = plain.asks_value
predicate_in (Compares o literal) = plain.compares o (cell literal)

abbrev pub bound_in : Bound → plain.Bound
bound_in b = record { place = b.place; predicate = predicate_in b.predicate }
