use Rattle.std.proofs.Common.{◌∙◌, ap, map, refl}
use Rattle.std.proofs.lemmas.Result.{err_from_is_err_and}
use Rattle.arrow_schema.specs.View.{column_of, schema_of}
use Rattle.cli_commands.specs.Printed.{schema_text}
use Rattle.cli_commands.proofs.OutputLemmas.{if_failed, schema_front}
use Rattle.cli_commands.proofs.TextLemmas.{schema_written, printing_failed, there_is}
use Rattle.cli_commands.proofs.printing.print_schema.Goals as goal

pub returns-in_err-schema-clause-told : goal.returns-in_err-schema-clause-told
returns-in_err-schema-clause-told g c =
    let p = err_from_is_err_and c.from_residual.result c.from_residual.ensures.1 in
    rw (p.1, p.2) c.in_err-schema.ensures.found

pub returns-in_err-schema-clause-silent : goal.returns-in_err-schema-clause-silent
returns-in_err-schema-clause-silent g c =
    let p = err_from_is_err_and c.from_residual.result c.from_residual.ensures.1 in
    rw p.1 (λ _. refl)

pub returns-in_err-text-clause-silent : goal.returns-in_err-text-clause-silent
returns-in_err-text-clause-silent g c =
    let p = err_from_is_err_and c.from_residual-in_err-text.result c.from_residual-in_err-text.ensures.1 in
    rw p.1 (λ _. refl)

pub returns-in_err-text-clause-told : goal.returns-in_err-text-clause-told
returns-in_err-text-clause-told g c =
    let p = err_from_is_err_and c.from_residual-in_err-text.result c.from_residual-in_err-text.ensures.1 in
    let found = c.in_ok-schema.ensures.found in
    rw (p.1, p.2) (found.0, there_is _ (schema_of c.in_ok-schema.schema) found.1)

pub returns-clause-written : goal.returns-clause-written
returns-clause-written g c =
    schema_written _ (schema_of c.in_ok-schema.schema) c.as_bytes.result.now _ _ c.write_whole.result c.in_ok-schema.ensures.found.1
    (c.as_bytes.ensures.value ∙ c.in_ok-text.ensures ∙ ap (λ fields. schema_text (map column_of fields)) c.deref.ensures.value) c.write_whole.ensures.written

pub returns-clause-told : goal.returns-clause-told
returns-clause-told g c =
    let found = c.in_ok-schema.ensures.found in
    printing_failed _ _ c.write_whole.result c.write_whole.ensures.io (found.0, there_is _ (schema_of c.in_ok-schema.schema) found.1)

-- ---- where the output failed

pub returns-in_err-schema-clause-front : goal.returns-in_err-schema-clause-front
returns-in_err-schema-clause-front g c =
    let p = err_from_is_err_and c.from_residual.result c.from_residual.ensures.1 in
    rw (p.1, p.2) tt

pub returns-in_err-text-clause-front : goal.returns-in_err-text-clause-front
returns-in_err-text-clause-front g c =
    let p = err_from_is_err_and c.from_residual-in_err-text.result c.from_residual-in_err-text.ensures.1 in
    rw (p.1, p.2) tt

pub returns-clause-front : goal.returns-clause-front
returns-clause-front g c =
    if_failed _ _ c.write_whole.result
    (schema_front _ (schema_of c.in_ok-schema.schema) c.as_bytes.result.now _ _ c.in_ok-schema.ensures.found.1
    (c.as_bytes.ensures.value ∙ c.in_ok-text.ensures ∙ ap (λ fields. schema_text (map column_of fields)) c.deref.ensures.value))
    c.write_whole.ensures.front
