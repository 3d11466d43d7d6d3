use Rattle.std.proofs.Common.{◌∙◌, sym}
use Rattle.arrow_schema.specs.View.{column_of}
use Rattle.cli_commands.proofs.TypingLemmas.{unshown, untyped}
use Rattle.cli_commands.proofs.typing.line_of_field.Goals as goal

pub returns-in_default : goal.returns-in_default
returns-in_default c = untyped (column_of c.args.field.now) (rw c.in_default.is at c.in_ok-text.ensures)

pub returns-then-has_unshown : goal.returns-then-has_unshown
returns-then-has_unshown c =
    unshown (column_of c.args.field.now) c.in-Some.text (rw c.in-Some.is at c.in_ok-text.ensures)
    (sym (rw c.as_str.ensures.value at c.has_unshown.ensures) ∙ c.if-has_unshown.true)

pub returns : goal.returns
returns c = (
  rw c.in-Some.is at c.in_ok-text.ensures,
  sym (rw c.as_str.ensures.value at c.has_unshown.ensures) ∙ c.if-has_unshown.false,
)
