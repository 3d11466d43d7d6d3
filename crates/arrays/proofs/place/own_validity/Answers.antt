use Rattle.std.proofs.Common.{sym, ◌∙◌}
use Rattle.arrow_schema.specs.View.{kind_of}
use Rattle.arrays.proofs.Placed.{no_validity, first_validity}
use Rattle.arrays.proofs.place.own_validity.Goals as goal

pub returns-then-is_of_nulls-clause-validity : goal.returns-then-is_of_nulls-clause-validity
returns-then-is_of_nulls-clause-validity c = sym (no_validity (kind_of c.args.data_type.now) c.args.rest (sym c.if-is_of_nulls.ensures))

pub returns-else-is_of_nulls-clause-validity : goal.returns-else-is_of_nulls-clause-validity
returns-else-is_of_nulls-clause-validity c = c.buffer.ensures.bytes ∙ sym (first_validity (kind_of c.args.data_type.now) c.args.rest (sym c.if-is_of_nulls.ensures))
