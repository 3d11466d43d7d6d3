-- The lines so far are those of the first fields.
use Rattle.std.proofs.Common.{◌≡◌, map, take, string_bytes}
use Rattle.arrow_schema.specs.View.{column_of}
use Rattle.cli_commands.specs.Typing.{typed_texts, lines_of, HaveLines}
use Rattle.cli_commands.proofs.typing.typed_lines.Given as goal

abbrev pub invariant-loop-place : goal.invariant-loop-place
invariant-loop-place l =
    (string_bytes l.text ≡ lines_of (typed_texts (take l.place (map column_of l.fields)))) × HaveLines (take l.place (map column_of l.fields))
