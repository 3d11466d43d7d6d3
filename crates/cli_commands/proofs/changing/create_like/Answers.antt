use Rattle.std.proofs.Common.{inl, inr, refl}
use Rattle.std.proofs.lemmas.Result.{err_from_is_err_and}
use Rattle.arrow_schema.specs.View.{schema_of}
use Rattle.cli_commands.proofs.ChangingLemmas.{hands_schema}
use Rattle.cli_commands.proofs.TextLemmas.{there_is}
use Rattle.cli_commands.proofs.changing.create_like.Goals as goal

pub returns-clause-goes : goal.returns-clause-goes
returns-clause-goes g c = λ tells base m fits.
    hands_schema _ _ _ (schema_of c.in_ok-schema.schema) _ c.in_ok-schema.ensures.found.1 (rw c.in_ok-name.ensures.ok at (c.apply_command.ensures.goes tells base m fits))

pub returns-clause-told : goal.returns-clause-told
returns-clause-told g c =
    hands_schema _ _ _ (schema_of c.in_ok-schema.schema) _ c.in_ok-schema.ensures.found.1 (rw c.in_ok-name.ensures.ok at c.apply_command.ensures.told)
