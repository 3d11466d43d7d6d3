use Rattle.std.proofs.Common.{[], sym, ap, ◌∙◌, subst}
use Rattle.std.proofs.lemmas.Result.{err_from_is_err_and}
use Rattle.arrow_schema.specs.Column.{PlainSchema}
use Rattle.arrow_schema.specs.Limits.{IsWithinLimits}
use Rattle.store_changes.proofs.reading.start_table.Goals as goal

pub empty-empty-requires : goal.empty-empty-requires
empty-empty-requires c = subst IsWithinLimits (sym c.in_ok-copy.ensures) c.requires.limits

pub returns-in_err-front-clause-message : goal.returns-in_err-front-clause-message
returns-in_err-front-clause-message c = rw (err_from_is_err_and c.from_residual.result c.from_residual.ensures.1).1 tt

pub returns-in_err-front-clause-empty : goal.returns-in_err-front-clause-empty
returns-in_err-front-clause-empty c = rw (err_from_is_err_and c.from_residual.result c.from_residual.ensures.1).1 tt

pub returns-in_err-copy-clause-message : goal.returns-in_err-copy-clause-message
returns-in_err-copy-clause-message c = rw (err_from_is_err_and c.from_residual-in_err-copy.result c.from_residual-in_err-copy.ensures.1).1 tt

pub returns-in_err-copy-clause-empty : goal.returns-in_err-copy-clause-empty
returns-in_err-copy-clause-empty c = rw (err_from_is_err_and c.from_residual-in_err-copy.result c.from_residual-in_err-copy.ensures.1).1 tt

pub returns-clause-empty : goal.returns-clause-empty
returns-clause-empty c = c.empty-empty.ensures ∙ ap (λ (s : PlainSchema). record { schema = s; rows = [] }) c.in_ok-copy.ensures
