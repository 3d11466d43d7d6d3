use Rattle.std.specs.Global.{Vec}
use Rattle.std.proofs.Common.{ℕ, inl, inr, refl}
use Rattle.std.proofs.lemmas.Result.{err_from_is_err_and}
use Rattle.arrow_schema.specs.View.{schema_of}
use Rattle.cli_commands.proofs.GivenLemmas.{whole_input}
use Rattle.cli_commands.proofs.TextLemmas.{not_of_text, input_gives, input_refused, input_hints, refuses_text, there_is}
use Rattle.cli_commands.proofs.RefusedInputs.{refuses_rows}
use Rattle.cli_commands.proofs.text_rows.append_text.Goals as goal

pub returns-clause-goes : goal.returns-clause-goes
returns-clause-goes g c = λ tells base m fits.
    let new = c.in_ok-command.ensures.read in
    inr (
      new.0,
      input_gives _ _ _ (schema_of c.in_ok-schema.schema) c.in_ok-text.text.items _ c.in_ok-schema.ensures.found.1 (whole_input _ c.in_ok-text.text c.in_ok-text.ensures.all c.in_ok-text.ensures.within) new.1,
      c.append_or_refuse.ensures.goes (schema_of c.in_ok-schema.schema) new.0 c.in_ok-schema.ensures.found.1 (rw (← c.in_ok-own_name.ensures.ok) new.2) tells base m fits,
    )

pub returns-clause-told : goal.returns-clause-told
returns-clause-told g c =
    let new = c.in_ok-command.ensures.read in
    inr (
      new.0,
      input_gives _ _ _ (schema_of c.in_ok-schema.schema) c.in_ok-text.text.items _ c.in_ok-schema.ensures.found.1 (whole_input _ c.in_ok-text.text c.in_ok-text.ensures.all c.in_ok-text.ensures.within) new.1,
      c.append_or_refuse.ensures.told (schema_of c.in_ok-schema.schema) new.0 c.in_ok-schema.ensures.found.1 (rw (← c.in_ok-own_name.ensures.ok) new.2),
    )

pub returns-clause-refused : goal.returns-clause-refused
returns-clause-refused g c =
    let new = c.in_ok-command.ensures.read in
    not_of_text _ _ _ _ c.append_or_refuse.result
    (c.append_or_refuse.ensures.told (schema_of c.in_ok-schema.schema) new.0 c.in_ok-schema.ensures.found.1 (rw (← c.in_ok-own_name.ensures.ok) new.2))

pub returns-in_err-command-clause-hint : goal.returns-in_err-command-clause-hint
returns-in_err-command-clause-hint g c =
    let p = err_from_is_err_and c.from_residual-in_err-command.result c.from_residual-in_err-command.ensures.1 in
    rw (p.1, p.2)
    (input_hints c.refused_parts_are_causes.ensures.place _ _ _ (schema_of c.in_ok-schema.schema) c.in_ok-text.text.items c.in_err-command.field-0.0 _ c.in_ok-schema.ensures.found.1
    (whole_input _ c.in_ok-text.text c.in_ok-text.ensures.all c.in_ok-text.ensures.within) c.in_err-command.ensures.refused c.in_err-command.ensures.hint)

pub returns-in_err-command-clause-refused : goal.returns-in_err-command-clause-refused
returns-in_err-command-clause-refused g c =
    let p = err_from_is_err_and c.from_residual-in_err-command.result c.from_residual-in_err-command.ensures.1 in
    rw (p.1, p.2)
    (input_refused _ _ _ (schema_of c.in_ok-schema.schema) c.in_ok-text.text.items c.in_err-command.field-0.0 c.in_ok-schema.ensures.found.1
    (whole_input _ c.in_ok-text.text c.in_ok-text.ensures.all c.in_ok-text.ensures.within) c.in_err-command.ensures.refused)

pub returns-in_err-command-clause-told : goal.returns-in_err-command-clause-told
returns-in_err-command-clause-told g c =
    let p = err_from_is_err_and c.from_residual-in_err-command.result c.from_residual-in_err-command.ensures.1 in
    rw (p.1, p.2)
    (inl (
      refuses_text g.R.Read.remaining _ _ _ c.args.input.now c.read_input.new.reader (schema_of c.in_ok-schema.schema) c.in_ok-text.text.items c.in_err-command.field-0.0 c.in_ok-schema.ensures.found.0 c.in_ok-schema.ensures.found.1
          (whole_input _ c.in_ok-text.text c.in_ok-text.ensures.all c.in_ok-text.ensures.within) c.in_err-command.ensures.refused c.in_ok-text.ensures.end c.in_ok-text.ensures.few,
      refl,
      refl,
    ))

pub returns-in_err-text-clause-told : goal.returns-in_err-text-clause-told
returns-in_err-text-clause-told g c =
    let p = err_from_is_err_and c.from_residual-in_err-text.result c.from_residual-in_err-text.ensures.1 in
    let e = c.in_err-text.ensures in
    let found = c.in_ok-schema.ensures.found in
    let there = there_is _ (schema_of c.in_ok-schema.schema) found.1 in
    rw (p.1, p.2)
    (inl (refuses_rows (Vec ℕ) g.R.Read.remaining _ _ _ c.args.input.now c.read_input.new.reader c.in_err-text.field-0.0 found.0 there e.told e.too_many e.few, refl, refl))
