use Rattle.std.proofs.Common.{◌∙◌, inl, refl, sym}
use Rattle.std.proofs.lemmas.Result.{err_from_is_err_and}
use Rattle.arrow_schema.specs.View.{schema_of}
use Rattle.cli_commands.proofs.TypingLemmas.{no_pairs, pairs_there, refuses_limits, refuses_typed, states_schema}
use Rattle.cli_commands.proofs.typing.lines_of_schema.Goals as goal

pub returns-then-not-is_empty-clause-refused : goal.returns-then-not-is_empty-clause-refused
returns-then-not-is_empty-clause-refused c = inl (refl, pairs_there c.args.schema.pairs (sym c.is_empty.ensures ∙ c.if-not-is_empty.true))

pub returns-in_err-text-clause-refused : goal.returns-in_err-text-clause-refused
returns-in_err-text-clause-refused c =
    let p = err_from_is_err_and c.from_residual.result c.from_residual.ensures.1 in
    rw (p.1, p.2) (refuses_typed (schema_of c.args.schema) c.in_err-text.field-0.0 (rw c.deref.ensures.value at c.in_err-text.ensures.refused))

pub returns-in_err-test_limits-clause-refused : goal.returns-in_err-test_limits-clause-refused
returns-in_err-test_limits-clause-refused c =
    let p = err_from_is_err_and c.from_residual-in_err-test_limits.result c.from_residual-in_err-test_limits.ensures.1 in
    rw (p.1, p.2) (refuses_limits (schema_of c.args.schema) c.in_err-test_limits.field-0.0
    (no_pairs c.args.schema.pairs (sym c.is_empty.ensures ∙ c.if-not-is_empty.false)) c.in_err-test_limits.ensures.refused)

pub returns-clause-stated : goal.returns-clause-stated
returns-clause-stated c =
    states_schema (schema_of c.args.schema) (no_pairs c.args.schema.pairs (sym c.is_empty.ensures ∙ c.if-not-is_empty.false))
    (rw c.deref.ensures.value at c.in_ok-text.ensures.have) c.in_ok-test_limits.ensures.within
